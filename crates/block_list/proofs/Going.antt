-- Blocks leave their slices, one after the other, for the store or for ever.
use Rattle.std.proofs.Common.{◌≡◌, ◌≢◌, ℕ, suc, ◌+◌, ◌==◌, ◌||◌, ◌<◌, Bool, true, false, not, cond, is_some, List, [], ◌∷◌, ◌++◌, length, take, drop, get_or, Some, None, Option, refl, sym, ap, ◌∙◌, subst, inl, inr, arith, append-nil}
use Rattle.std.specs.Prelude.{All, AllPairs}
use Rattle.std.specs.List.{list_any, filter}
use Rattle.std.specs.Ordering.{nat_cmp}
use Rattle.std.specs.FinMap.{find}
use Rattle.std.proofs.lemmas.Bool.{cases_eq}
use Rattle.std.proofs.lemmas.List.{take-append-drop, length-append}
use Rattle.std.proofs.lemmas.List.Folds.{list_any-append}
use Rattle.slice_seq.specs.Purses.{Purse, has_block}
use Rattle.shelf_link.specs.Told.{Told, IsSameKind}
use Rattle.block_seats.specs.Blocks.{InStore}
use Rattle.block_seats.specs.Tables.{without}
use Rattle.block_seats.specs.Noted.{NotedView, noting_freed}
use Rattle.block_seats.specs.Purses.{place_of, without_block}
use Rattle.block_seats.specs.Seatings.{SeatingView, IsAlike}
use Rattle.block_seats.proofs.Purses.{has_block-place}
use Rattle.block_home.specs.Calls.{KeepsLengths, IsParked, IsKept}
use Rattle.block_home.proofs.Held.{put_other, without_other}
use Rattle.block_list.specs.Lists.{seated_of, parked_of, KeepsOthers, without_all}
use Rattle.block_list.specs.Growth.{without_blocks, noting_out, GoOut}
use Rattle.block_list.proofs.Listed.{All-front, eq_true, eq_false, filter-front, filter-more, next_apart, All-take}
use Rattle.block_list.proofs.Growing.{alike_then, alike_same}

any-apart : (q : ℕ) (p : ℕ → Bool) (xs : List ℕ) → All (λ b. q ≢ b) xs → list_any (λ b. b == q) (filter p xs) ≡ false
any-apart q p [] apart = refl
any-apart q p (x ∷ xs) apart = by (p x) (any-apart q p xs (λ k d inside. apart (suc k) d (omega arith)))
  where
    by : (b : Bool) → list_any (λ b. b == q) (filter p xs) ≡ false → list_any (λ b. b == q) (cond b (x ∷ filter p xs) (filter p xs)) ≡ false
    by true rest = ap (λ t. t || list_any (λ b. b == q) (filter p xs)) (eq_false x q (λ same. apart 0 0 (omega arith) (sym same))) ∙ rest
    by false rest = rest

-- one block more left its slice
without_blocks-append : (purse : Purse) (xs ys : List ℕ) → without_blocks purse (xs ++ ys) ≡ without_blocks (without_blocks purse xs) ys
without_blocks-append purse [] ys = refl
without_blocks-append purse (x ∷ xs) ys = without_blocks-append (without_block purse x) xs ys

noting_out-append : (moves : NotedView) (purse : Purse) (xs ys : List ℕ) → noting_out moves purse (xs ++ ys) ≡ noting_out (noting_out moves purse xs) (without_blocks purse xs) ys
noting_out-append moves purse [] ys = refl
noting_out-append moves purse (x ∷ xs) ys = noting_out-append (noting_freed moves (place_of purse x)) (without_block purse x) xs ys

or_one : (a b : Bool) → (a || (b || false)) ≡ (b || a)
or_one true true = refl
or_one true false = refl
or_one false true = refl
or_one false false = refl

any-push : (went : List ℕ) (block q : ℕ) → list_any (λ b. b == q) (went ++ block ∷ []) ≡ ((block == q) || list_any (λ b. b == q) went)
any-push went block q = list_any-append (λ b. b == q) went (block ∷ []) ∙ or_one (list_any (λ b. b == q) went) (block == q)

pub out-push : (went : List ℕ) (block : ℕ) (old mid new : SeatingView) → GoOut went old mid → new.purse ≡ without_block mid.purse block → ((q : ℕ) → place_of new.purse q ≡ cond (q == block) None (place_of mid.purse q))
    → new.moves ≡ noting_freed mid.moves (place_of mid.purse block) → IsAlike mid new → GoOut (went ++ block ∷ []) old new
out-push went block old mid new out purse_is places_are moves_are alike = record {
  purse = purse_is ∙ ap (λ p. without_block p block) out.purse ∙ sym (without_blocks-append old.purse went (block ∷ []));
  places = λ q. places_are q ∙ place_now q;
  moves = moves_are ∙ (λ i. noting_freed (out.moves i) (place_of (out.purse i) block)) ∙ sym (noting_out-append old.moves old.purse went (block ∷ []));
  alike = alike_then old mid new out.alike alike;
}
  where
    place_now : (q : ℕ) → cond (q == block) None (place_of mid.purse q) ≡ cond (list_any (λ b. b == q) (went ++ block ∷ [])) None (place_of old.purse q)
    place_now q =
        elim (cases_eq q block) [
          | inl is ↦
              ap (λ (t : Bool). cond t None (place_of mid.purse q)) (eq_true q block is)
              ∙ sym (ap (λ (t : Bool). cond t None (place_of old.purse q)) (any-push went block q ∙ ap (λ t. t || list_any (λ b. b == q) went) (eq_true block q (sym is))))
          | inr apart ↦
              ap (λ (t : Bool). cond t None (place_of mid.purse q)) (eq_false q block apart)
              ∙ out.places q
              ∙ sym (ap (λ (t : Bool). cond t None (place_of old.purse q)) (any-push went block q ∙ ap (λ t. t || list_any (λ b. b == q) went) (eq_false block q (λ same. apart (sym same)))))
        ]

pub out-none : (old new : SeatingView) → new ≡ old → GoOut [] old new
out-none old new same = record {
  purse = ap (λ (s : SeatingView). s.purse) same;
  places = λ q. ap (λ (s : SeatingView). place_of s.purse q) same;
  moves = ap (λ (s : SeatingView). s.moves) same;
  alike = alike_same old new same;
}

-- bytes of blocks aren't seen in slices
pub out-blocks : (went : List ℕ) (old mid new : SeatingView) → GoOut went old mid → new ≡ record mid { blocks = new.blocks } → GoOut went old new
out-blocks went old mid new out same = record {
  purse = ap (λ (s : SeatingView). s.purse) same ∙ out.purse;
  places = λ q. ap (λ (s : SeatingView). place_of s.purse q) same ∙ out.places q;
  moves = ap (λ (s : SeatingView). s.moves) same ∙ out.moves;
  alike = alike_then old mid new out.alike (same ∙ (λ i. record mid { blocks = new.blocks; purse = (sym same i).purse; moves = (sym same i).moves }));
}

pub lengths_then : (old mid new : SeatingView) → KeepsLengths old mid → KeepsLengths mid new → KeepsLengths old new
lengths_then old mid new first second = record {
  there = λ q. second.there q ∙ first.there q;
  lengths = λ q. second.lengths q ∙ first.lengths q;
}

pub lengths_same : (seats : SeatingView) → KeepsLengths seats seats
lengths_same seats = record { there = λ q. refl; lengths = λ q. refl }

-- a loop that parks blocks, and came to the one at an index
pub record Parking (old : SeatingView) (blocks : List ℕ) (seats : SeatingView) (i : ℕ) : Type 0 where
  pub goes : GoOut (seated_of old.purse (take i blocks)) old seats
  pub lengths : KeepsLengths old seats
  pub others : (q : ℕ) → All (λ b. q ≢ b) (take i blocks) → find nat_cmp q seats.blocks ≡ find nat_cmp q old.blocks

pub parking-none : (old : SeatingView) (blocks : List ℕ) → Parking old blocks old 0
parking-none old blocks = record { goes = out-none old old refl; lengths = lengths_same old; others = λ q apart. refl }

module _ (user : ℕ) (old : SeatingView) (blocks : List ℕ) (distinct : AllPairs ◌≢◌ blocks) (seats : SeatingView) (i : ℕ) (p : Parking old blocks seats i) (inside : i < length blocks) (new : SeatingView) where
  abbrev block : ℕ
  block = get_or blocks i 0

  -- the next block is where it was at first
  place_first : place_of seats.purse block ≡ place_of old.purse block
  place_first =
      p.goes.places block
      ∙ ap (λ (t : Bool). cond t None (place_of old.purse block)) (any-apart block (λ b. has_block old.purse b) (take i blocks) (next_apart blocks i distinct inside))

  seated_now : (b : Bool) → is_some (place_of seats.purse block) ≡ b → seated_of old.purse (take (i + 1) blocks) ≡ seated_of old.purse (take i blocks) ++ cond b (block ∷ []) []
  seated_now b is =
      filter-more (λ b. has_block old.purse b) i blocks inside
      ∙ ap (λ t. seated_of old.purse (take i blocks) ++ cond t (block ∷ []) []) (has_block-place old.purse block ∙ ap is_some (sym place_first) ∙ is)

  others_now : ((q : ℕ) → q ≢ block → find nat_cmp q new.blocks ≡ find nat_cmp q seats.blocks) → (q : ℕ) → All (λ b. q ≢ b) (take (i + 1) blocks) → find nat_cmp q new.blocks ≡ find nat_cmp q old.blocks
  others_now same q apart = let parts = All-take q i blocks inside apart in same q parts.0 ∙ p.others q parts.1

  pub parking-more : IsParked user block seats new → KeepsLengths seats new → Parking old blocks new (i + 1)
  parking-more parked lengths_kept = by (place_of seats.purse block) refl
    where
      by : (o : Option (ℕ × ℕ)) → place_of seats.purse block ≡ o → Parking old blocks new (i + 1)
      by None none =
          let same : new ≡ seats = parked.stays none in
          record {
            goes = subst (λ l. GoOut l old new) (sym (seated_now false (ap is_some none) ∙ append-nil (seated_of old.purse (take i blocks)))) (subst (λ s. GoOut (seated_of old.purse (take i blocks)) old s) (sym same) p.goes);
            lengths = lengths_then old seats new p.lengths lengths_kept;
            others = others_now (λ q apart. ap (λ (s : SeatingView). find nat_cmp q s.blocks) same);
          }
      by (Some place) some =
          let went = parked.went (ap is_some some) in
          record {
            goes = subst (λ l. GoOut l old new) (sym (seated_now true (ap is_some some))) (out-push (seated_of old.purse (take i blocks)) block old seats new p.goes went.purse went.places went.moves went.alike);
            lengths = lengths_then old seats new p.lengths lengths_kept;
            others = others_now (λ q apart. ap (find nat_cmp q) went.blocks ∙ put_other seats.blocks block (InStore _) q apart);
          }

  -- and one stayed, which the store didn't take
  pub parking-stopped : IsKept block seats new → (n : ℕ) × GoOut (take n (seated_of old.purse blocks)) old new
  parking-stopped kept = (
    length (seated_of old.purse (take i blocks)),
    subst (λ l. GoOut l old new) (sym (filter-front (λ b. has_block old.purse b) i blocks)) (out-blocks (seated_of old.purse (take i blocks)) old seats new p.goes (kept ∙ (λ j. record seats { blocks = (sym kept j).blocks }))),
  )

-- a map without some blocks has all others
pub find-without_all : {X : Type 0} (es : List (ℕ × X)) (blocks : List ℕ) (q : ℕ) → All (λ b. q ≢ b) blocks → find nat_cmp q (without_all es blocks) ≡ find nat_cmp q es
find-without_all es [] q apart = refl
find-without_all es (b ∷ blocks) q apart =
    find-without_all (without b es) blocks q (λ k d inside. apart (suc k) d (omega arith))
    ∙ without_other es b q (apart 0 0 (omega arith))

pub without_all-push : {X : Type 0} (es : List (ℕ × X)) (blocks : List ℕ) (last : ℕ) → without_all es (blocks ++ last ∷ []) ≡ without last (without_all es blocks)
without_all-push es [] last = refl
without_all-push es (b ∷ blocks) last = without_all-push (without b es) blocks last

pub kind_then : (a b c : Told) → IsSameKind a b → IsSameKind b c → IsSameKind a c
kind_then a b c first second = record { tells = second.tells ∙ first.tells; void = second.void ∙ first.void }

-- the blocks that aren't in the list are as they were
pub others_of : {X : Type 0} (old new : List (ℕ × X)) (blocks : List ℕ) (i : ℕ) → ((q : ℕ) → All (λ b. q ≢ b) (take i blocks) → find nat_cmp q new ≡ find nat_cmp q old) → KeepsOthers old new blocks
others_of old new blocks i others = record { others = λ q apart. others q (All-front q (take i blocks) (drop i blocks) blocks (sym (take-append-drop i blocks)) apart) }

pub stopped_others : (old : SeatingView) (blocks : List ℕ) (seats : SeatingView) (i : ℕ) → Parking old blocks seats i → i < length blocks → (new : SeatingView) → IsKept (get_or blocks i 0) seats new → KeepsOthers old.blocks new.blocks blocks
stopped_others old blocks seats i p inside new kept = record {
  others = λ q apart.
      ap (λ (s : SeatingView). find nat_cmp q s.blocks) kept
      ∙ put_other seats.blocks (get_or blocks i 0) _ q (apart i 0 inside)
      ∙ (others_of old.blocks seats.blocks blocks i p.others).others q apart;
}

-- one block more was looked at
pub counted_more : (purse : Purse) (blocks : List ℕ) (i : ℕ) → i < length blocks → (b : Bool) → is_some (place_of purse (get_or blocks i 0)) ≡ b → length (parked_of purse (take (i + 1) blocks)) ≡ length (parked_of purse (take i blocks)) + cond b 0 1
counted_more purse blocks i inside b is =
    ap length
    (filter-more (λ block. not (has_block purse block)) i blocks inside
    ∙ ap (λ t. parked_of purse (take i blocks) ++ cond (not t) (get_or blocks i 0 ∷ []) []) (has_block-place purse (get_or blocks i 0) ∙ is))
    ∙ length-append (parked_of purse (take i blocks)) (cond (not b) (get_or blocks i 0 ∷ []) [])
    ∙ ap (λ n. length (parked_of purse (take i blocks)) + n) (one b)
  where
    one : (b : Bool) → length (cond (not b) (get_or blocks i 0 ∷ []) []) ≡ cond b 0 1
    one true = refl
    one false = refl
