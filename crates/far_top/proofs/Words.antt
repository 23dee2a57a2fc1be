-- Words ask for one thing at most.
use Rattle.std.proofs.Common.{◌≡◌, ℕ, ◌<◌, ◌≤◌, ◌^◌, false, List, [], ◌++◌, refl, length-append, drop, get_or, sym, ◌∙◌, ap, subst, arith, decimal, length, codes, ◌∷◌, eqb}
use Rattle.std.proofs.lemmas.Bool.{true≢false, eq-eqb}
use Rattle.far_io.specs.Decimals.{value_of}
use Rattle.far_io.proofs.Decimals.{value_of-decimal}
use Rattle.karma_rule.specs.declared.shape.Shape.{Shape}
use Rattle.karma_rule.specs.Limits.{shape_of, IsPlan, IsStore, IsWithin, IsFirstBroken, Limit, Users, Fair, Floor, Credits, Slice, Products, place_of}
use Rattle.far_top.specs.declared.command.Command.{Command}
use Rattle.far_top.specs.declared.command.Command.TheVariants.{Plan, Audit, Replay}
use Rattle.far_top.specs.Commands.{shape_words, IsShapeWords, IsStoreWords, IsWords, IsNoWords, IsWithinLimits, IsShelfCount, shelves_of}

pub number_is : (word : List ℕ) (value n : ℕ) → value ≡ value_of word → word ≡ decimal n → n < 2 ^ 64 → value ≡ n
number_is word value n is_value spelled fits = is_value ∙ ap value_of spelled ∙ value_of-decimal n fits

same_number : (a b : ℕ) → decimal a ≡ decimal b → a < 2 ^ 64 → b < 2 ^ 64 → a ≡ b
same_number a b same fits_a fits_b = number_is (decimal a) a b (sym (value_of-decimal a fits_a)) same fits_b

pub shape_unique : (words : List (List ℕ)) (a b : Shape) → IsShapeWords words a → IsShapeWords words b → a ≡ b
shape_unique words a b of_a of_b =
    let e : shape_words a ≡ shape_words b = sym of_a.spelled ∙ of_b.spelled in
    let users : a.users ≡ b.users = same_number a.users b.users (ap (λ ws. get_or ws 0 []) e) (omega (arith, of_a.within.users.1)) (omega (arith, of_b.within.users.1)) in
    let fair : a.share.fair ≡ b.share.fair = same_number a.share.fair b.share.fair (ap (λ ws. get_or ws 1 []) e) (omega (arith, of_a.within.fair.1)) (omega (arith, of_b.within.fair.1)) in
    let floor : a.share.floor ≡ b.share.floor = same_number a.share.floor b.share.floor (ap (λ ws. get_or ws 2 []) e) (omega (arith, of_a.within.fair.1, of_a.within.floor)) (omega (arith, of_b.within.fair.1, of_b.within.floor)) in
    let credits : a.credits ≡ b.credits = same_number a.credits b.credits (ap (λ ws. get_or ws 3 []) e) (omega (arith, of_a.within.credits)) (omega (arith, of_b.within.credits)) in
    let slice : a.slice ≡ b.slice = of_a.unsliced ∙ sym of_b.unsliced in
    λ i. record { users = users i; share = record { fair = fair i; floor = floor i }; credits = credits i; slice = slice i }

-- the last of two lists
pub last_same : {X : Type 0} (xs ys : List X) (x y : X) → xs ++ x ∷ [] ≡ ys ++ y ∷ [] → (xs ≡ ys) × (x ≡ y)
last_same [] [] x y same = (refl, cc)
last_same [] (b ∷ ys) x y same = let long : length (x ∷ []) ≡ length (b ∷ ys ++ y ∷ []) = ap length same in absurd (omega (arith, long, length-append ys (y ∷ [])))
last_same (a ∷ xs) [] x y same = let long : length (a ∷ xs ++ x ∷ []) ≡ length (y ∷ []) = ap length same in absurd (omega (arith, long, length-append xs (x ∷ [])))
last_same (a ∷ xs) (b ∷ ys) x y same = let more = last_same xs ys x y (ap (drop 1) same) in let first : a ≡ b = cc in (cc (more.0, first), more.1)

-- the numbers of a store but for the size of a slice are those of a plan
abbrev pub unsliced : Shape → Shape
unsliced shape = record { users = shape.users; share = shape.share; credits = shape.credits; slice = 0 }

pub plan_words : (words : List (List ℕ)) (shape : Shape) → words ≡ shape_words shape → IsPlan shape → IsShapeWords words (unsliced shape)
plan_words words shape spelled plan = record {
  spelled = spelled;
  within = record { users = plan.users; fair = plan.fair; floor = plan.floor; credits = plan.credits };
  unsliced = refl;
}

pub sliced_same : (a b : Shape) → unsliced a ≡ unsliced b → a.slice ≡ b.slice → a ≡ b
sliced_same a b same slice = λ i. record { users = (same i).users; share = (same i).share; credits = (same i).credits; slice = slice i }

store_unique : (words : List (List ℕ)) (a b : Shape) → IsStoreWords words a → IsStoreWords words b → a ≡ b
store_unique words a b of_a of_b =
    let parts = last_same (shape_words a) (shape_words b) (decimal a.slice) (decimal b.slice) (sym of_a.spelled ∙ of_b.spelled) in
    sliced_same a b
    (shape_unique (shape_words b) (unsliced a) (unsliced b) (plan_words (shape_words b) a (sym parts.0) of_a.within.plan) (plan_words (shape_words b) b refl of_b.within.plan))
    (same_number a.slice b.slice parts.1 (omega (arith, of_a.within.slice.1)) (omega (arith, of_b.within.slice.1)))

-- what stands after the name
same_others : (P : List (List ℕ) → Shape → Type 0) → ((words : List (List ℕ)) (a b : Shape) → P words a → P words b → a ≡ b) → (name : List ℕ) (words : List (List ℕ)) (a b : Shape)
    (of_a : (others : List (List ℕ)) × (words ≡ name ∷ others) × P others a) (of_b : (others : List (List ℕ)) × (words ≡ name ∷ others) × P others b) → a ≡ b
same_others P unique name words a b of_a of_b =
    let others : of_a.0 ≡ of_b.0 = ap (drop 1) (sym of_a.1 ∙ of_b.1) in
    unique of_b.0 a b (subst (λ ws. P ws a) others of_a.2) of_b.2

other_name : (a b : List ℕ) (words others more : List (List ℕ)) → eqb (length a) (length b) ≡ false → words ≡ a ∷ others → words ≡ b ∷ more → ⊥
other_name a b words others more differ of_a of_b =
    let same : a ≡ b = ap (λ ws. get_or ws 0 []) (sym of_a ∙ of_b) in
    true≢false (sym (eq-eqb (length a) (length b) (ap length same)) ∙ differ)

pub words_unique : (words : List (List ℕ)) (a b : Command) → IsWords words a → IsWords words b → a ≡ b
words_unique words (Plan a) (Plan b) of_a of_b = ap Plan (same_others IsShapeWords shape_unique (codes "plan") words a b of_a of_b)
words_unique words (Plan a) (Audit b) of_a of_b = absurd (other_name (codes "plan") (codes "audit") words of_a.0 of_b.0 refl of_a.1 of_b.1)
words_unique words (Plan a) (Replay b) of_a of_b = absurd (other_name (codes "plan") (codes "replay") words of_a.0 of_b.0 refl of_a.1 of_b.1)
words_unique words (Audit a) (Plan b) of_a of_b = absurd (other_name (codes "audit") (codes "plan") words of_a.0 of_b.0 refl of_a.1 of_b.1)
words_unique words (Audit a) (Audit b) of_a of_b = ap Audit (same_others IsShapeWords shape_unique (codes "audit") words a b of_a of_b)
words_unique words (Audit a) (Replay b) of_a of_b = absurd (other_name (codes "audit") (codes "replay") words of_a.0 of_b.0 refl of_a.1 of_b.1)
words_unique words (Replay a) (Plan b) of_a of_b = absurd (other_name (codes "replay") (codes "plan") words of_a.0 of_b.0 refl of_a.1 of_b.1)
words_unique words (Replay a) (Audit b) of_a of_b = absurd (other_name (codes "replay") (codes "audit") words of_a.0 of_b.0 refl of_a.1 of_b.1)
words_unique words (Replay a) (Replay b) of_a of_b = ap Replay (same_others IsStoreWords store_unique (codes "replay") words a b of_a of_b)

within_plan : (shape : Shape) → IsPlan shape → (limit : Limit) → place_of limit ≤ 4 → IsWithin limit shape
within_plan shape plan Users place = plan.users
within_plan shape plan Fair place = plan.fair
within_plan shape plan Floor place = plan.floor
within_plan shape plan Credits place = plan.credits
within_plan shape plan Slice place = absurd (omega arith)
within_plan shape plan Products place = absurd (omega arith)

pub plan_unbroken : (shape : Shape) (place : ℕ) → IsPlan shape → place ≤ 4 → IsFirstBroken shape place → ⊥
plan_unbroken shape place plan of_plan first = first.broken (within_plan shape plan first.limit (omega (arith, first.named)))

within_store : (shape : Shape) → IsStore shape → (limit : Limit) → IsWithin limit shape
within_store shape store Users = store.plan.users
within_store shape store Fair = store.plan.fair
within_store shape store Floor = store.plan.floor
within_store shape store Credits = store.plan.credits
within_store shape store Slice = store.slice
within_store shape store Products = store.products

pub store_unbroken : (shape : Shape) (place : ℕ) → IsStore shape → IsFirstBroken shape place → ⊥
store_unbroken shape place store first = first.broken (within_store shape store first.limit)

pub words_within : (words : List (List ℕ)) (command : Command) → IsWords words command → IsWithinLimits command
words_within words (Plan shape) good = good.2.within
words_within words (Audit shape) good = good.2.within
words_within words (Replay shape) good = (good.2.within, good.2.one_user)

-- Words whose last one is apart from the others. Where they are the numbers of a store, the others are those of a plan.
pub store_parts : (words others : List (List ℕ)) (last : List ℕ) (shape : Shape) → words ≡ others ++ last ∷ [] → IsStoreWords words shape
    → IsShapeWords others (unsliced shape) × (last ≡ decimal shape.slice)
store_parts words others last shape split store =
    let parts = last_same others (shape_words shape) last (decimal shape.slice) (sym split ∙ store.spelled) in
    (plan_words others shape parts.0 store.within.plan, parts.1)

-- so these numbers are the shape's
pub store_is : (words others : List (List ℕ)) (last : List ℕ) (shape plan : Shape) (slice : ℕ) → words ≡ others ++ last ∷ [] → IsStoreWords words shape → IsShapeWords others plan → slice ≡ value_of last
    → shape ≡ shape_of plan.users plan.share.fair plan.share.floor plan.credits slice
store_is words others last shape plan slice split store of_plan is_value =
    let parts = store_parts words others last shape split store in
    sliced_same shape (shape_of plan.users plan.share.fair plan.share.floor plan.credits slice)
    (shape_unique others (unsliced shape) (unsliced plan) parts.0 (plan_words others plan of_plan.spelled of_plan.within))
    (sym (number_is last slice shape.slice is_value parts.1 (omega (arith, store.within.slice.1))))

-- and so these are the words of a store
pub store_made : (words others : List (List ℕ)) (last : List ℕ) (shape plan : Shape) (slice : ℕ) → words ≡ others ++ last ∷ [] → IsShapeWords others plan → plan.users ≡ 1 → last ≡ decimal slice
    → shape ≡ shape_of 1 plan.share.fair plan.share.floor plan.credits slice → IsStore shape → IsStoreWords words shape
store_made words others last shape plan slice split of_plan one spelled is within =
    let made : Shape = shape_of 1 plan.share.fair plan.share.floor plan.credits slice in
    let numbers : shape_words plan ≡ shape_words made = ap (λ n. decimal n ∷ decimal plan.share.fair ∷ decimal plan.share.floor ∷ decimal plan.credits ∷ []) one in
    subst (IsStoreWords words) (sym is) (record {
      spelled = split ∙ ap (λ ws. ws ++ last ∷ []) (of_plan.spelled ∙ numbers) ∙ ap (λ (w : List ℕ). shape_words made ++ w ∷ []) spelled;
      within = subst IsStore is within;
      one_user = refl;
    })

-- how many stores words want that ask for this, and that ask for nothing
pub count_of : (words : List (List ℕ)) (found : Command) (count : ℕ) → IsWords words found → count ≡ shelves_of found → IsShelfCount words count
count_of words found count is same = record { good = λ command also. same ∙ ap shelves_of (words_unique words found command is also); bad = λ none. absurd (none found is) }

pub count_none : (words : List (List ℕ)) → IsNoWords words → IsShelfCount words 0
count_none words none = record { good = λ command is. absurd (none command is); bad = λ _. refl }
