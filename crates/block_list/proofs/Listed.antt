-- Lists of numbers, and those of them that pass a test.
use Rattle.std.proofs.Common.{◌≡◌, ◌≢◌, ℕ, ◌+◌, ◌==◌, ◌<◌, Bool, true, false, cond, List, [], ◌∷◌, ◌++◌, length, take, drop, get_or, sym, ap, ◌∙◌, arith}
use Rattle.std.specs.Prelude.{All, AllPairs}
use Rattle.std.specs.List.{filter}
use Rattle.std.proofs.lemmas.Bool.Decides.{nat_tests}
use Rattle.std.proofs.lemmas.List.{take_more, take-append-le, take-append-drop, take_all, get_or-take, get_or_default, get_or_append_left, length-take, length-append}
use Rattle.std.proofs.lemmas.List.Elements.{filter-append}

-- what is none of these is none of those at the front
pub All-front : (q : ℕ) (xs ys zs : List ℕ) → zs ≡ xs ++ ys → All (λ b. q ≢ b) zs → All (λ b. q ≢ b) xs
All-front q xs ys zs parts apart = λ k d inside same.
    apart k d (omega (arith, ap length parts, length-append xs ys))
    (same ∙ sym (ap (λ l. get_or l k d) parts ∙ get_or_append_left xs ys d k inside))

pub eq_true : (a b : ℕ) → a ≡ b → (a == b) ≡ true
eq_true a b e = grind (arith, nat_tests)

pub eq_false : (a b : ℕ) → a ≢ b → (a == b) ≡ false
eq_false a b e = grind (arith, nat_tests)

-- the first of a list that pass a test are those that pass it of the first
pub filter-front : (p : ℕ → Bool) (i : ℕ) (xs : List ℕ) → take (length (filter p (take i xs))) (filter p xs) ≡ filter p (take i xs)
filter-front p i xs =
    ap (λ l. take (length (filter p (take i xs))) l) (ap (filter p) (sym (take-append-drop i xs)) ∙ filter-append p (take i xs) (drop i xs))
    ∙ take-append-le (length (filter p (take i xs))) (filter p (take i xs)) (filter p (drop i xs)) (omega arith)
    ∙ take_all (length (filter p (take i xs))) (filter p (take i xs)) (omega arith)

pub filter-more : (p : ℕ → Bool) (i : ℕ) (xs : List ℕ) → i < length xs → filter p (take (i + 1) xs) ≡ filter p (take i xs) ++ cond (p (get_or xs i 0)) (get_or xs i 0 ∷ []) []
filter-more p i xs inside = ap (filter p) (take_more xs i 0 inside) ∙ filter-append p (take i xs) (get_or xs i 0 ∷ [])

-- the next block isn't one of those before it
pub next_apart : (blocks : List ℕ) (i : ℕ) → AllPairs ◌≢◌ blocks → i < length blocks → All (λ b. get_or blocks i 0 ≢ b) (take i blocks)
next_apart blocks i distinct inside = λ k d early same.
    let before : k < i = omega (arith, length-take i blocks) in
    distinct k i d before inside (sym (get_or-take i blocks k d before) ∙ sym same ∙ get_or_default blocks i 0 d inside)

-- what is none of those up to one isn't that, and is none of those before it
pub All-take : (q i : ℕ) (blocks : List ℕ) → i < length blocks → All (λ b. q ≢ b) (take (i + 1) blocks) → (q ≢ get_or blocks i 0) × All (λ b. q ≢ b) (take i blocks)
All-take q i blocks inside apart = (
  λ same. apart i 0 (omega (arith, length-take (i + 1) blocks)) (same ∙ sym (get_or-take (i + 1) blocks i 0 (omega arith))),
  λ k d early same.
      let before : k < i = omega (arith, length-take i blocks) in
      apart k d (omega (arith, length-take i blocks, length-take (i + 1) blocks)) (same ∙ get_or-take i blocks k d before ∙ sym (get_or-take (i + 1) blocks k d (omega arith))),
)
