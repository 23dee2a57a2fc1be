-- The numbers of a list that ascend are its numbers in ascending order.
use Rattle.std.proofs.Common.{◌≡◌, ℕ, zero, suc, ◌<◌, ◌≤◌, nat_le, Bool, true, false, cond, List, [], ◌∷◌, length, get_or, set, drop, refl, sym, ap, ◌∙◌, inl, inr, arith}
use Rattle.std.specs.List.{swap}
use Rattle.std.specs.List.Sorted.{IsPermutation, IsNonDecreasing}
use Rattle.std.proofs.lemmas.Bool.{cases_eq, cases_lt}
use Rattle.std.proofs.lemmas.Bool.Decides.{nat_tests}
use Rattle.std.proofs.lemmas.List.{get_or_default, get_or-set_same, get_or-set_other, length-set}
use Rattle.std.proofs.lemmas.List.Sorted.{IsPermutation-keeps}
use Rattle.slice_seq.specs.Ascending.{among, ascending}

le_true : (a b : ℕ) → a ≤ b → nat_le a b ≡ true
le_true a b low = grind (arith, nat_tests)

le_false : (a b : ℕ) → b < a → nat_le a b ≡ false
le_false a b high = grind (arith, nat_tests)

-- where a number goes
among_low : (a x : ℕ) (xs : List ℕ) → a ≤ x → among a (x ∷ xs) ≡ a ∷ x ∷ xs
among_low a x xs low = ap (λ (t : Bool). cond t (a ∷ x ∷ xs) (x ∷ among a xs)) (le_true a x low)

among_high : (a x : ℕ) (xs : List ℕ) → x < a → among a (x ∷ xs) ≡ x ∷ among a xs
among_high a x xs high = ap (λ (t : Bool). cond t (a ∷ x ∷ xs) (x ∷ among a xs)) (le_false a x high)

-- two numbers go in in either order
among_less : (a b : ℕ) (xs : List ℕ) → a < b → among a (among b xs) ≡ among b (among a xs)
among_less a b [] less = among_low a b [] (omega arith) ∙ sym (among_high b a [] less)
among_less a b (x ∷ xs) less =
    elim (cases_lt x b) [
      | inl below ↦
          elim (cases_lt x a) [
            | inl lowest ↦
                ap (among a) (among_high b x xs below)
                ∙ among_high a x (among b xs) lowest
                ∙ ap (λ l. x ∷ l) (among_less a b xs less)
                ∙ sym (ap (among b) (among_high a x xs lowest) ∙ among_high b x (among a xs) below)
            | inr above ↦
                let low : a ≤ x = omega arith in
                ap (among a) (among_high b x xs below)
                ∙ among_low a x (among b xs) low
                ∙ ap (λ l. a ∷ l) (sym (among_high b x xs below))
                ∙ sym (ap (among b) (among_low a x xs low) ∙ among_high b a (x ∷ xs) less)
          ]
      | inr past ↦
          let low : b ≤ x = omega arith in
          let lower : a ≤ x = omega arith in
          ap (among a) (among_low b x xs low)
          ∙ among_low a b (x ∷ xs) (omega arith)
          ∙ ap (λ l. a ∷ l) (sym (among_low b x xs low))
          ∙ sym (ap (among b) (among_low a x xs lower) ∙ among_high b a (x ∷ xs) less)
    ]

among-among : (a b : ℕ) (xs : List ℕ) → among a (among b xs) ≡ among b (among a xs)
among-among a b xs =
    elim (cases_lt a b) [
      | inl less ↦ among_less a b xs less
      | inr not_less ↦
          elim (cases_lt b a) [
            | inl more ↦ sym (among_less b a xs more)
            | inr not_more ↦ let same : a ≡ b = omega arith in ap (λ n. among n (among b xs)) same ∙ ap (λ n. among b (among n xs)) (sym same)
          ]
    ]

-- without the number that went in, a list is as it was
length-among : (a : ℕ) (xs : List ℕ) → length (among a xs) ≡ suc (length xs)
length-among a [] = refl
length-among a (x ∷ xs) =
    elim (cases_lt x a) [
      | inl below ↦ ap length (among_high a x xs below) ∙ ap suc (length-among a xs)
      | inr above ↦ ap length (among_low a x xs (omega arith))
    ]

heads : (x y : ℕ) (xs ys : List ℕ) → x ∷ xs ≡ y ∷ ys → x ≡ y
heads x y xs ys same = ap (λ l. get_or l 0 0) same

tails : (x y : ℕ) (xs ys : List ℕ) → x ∷ xs ≡ y ∷ ys → xs ≡ ys
tails x y xs ys same = ap (drop 1) same

among_same : (a : ℕ) (xs ys : List ℕ) → among a xs ≡ among a ys → xs ≡ ys
among_same a [] [] same = refl
among_same a [] (y ∷ ys) same = let long : 1 ≡ suc (suc (length ys)) = ap length same ∙ length-among a (y ∷ ys) in absurd (omega arith)
among_same a (x ∷ xs) [] same = let long : suc (suc (length xs)) ≡ 1 = sym (length-among a (x ∷ xs)) ∙ ap length same in absurd (omega arith)
among_same a (x ∷ xs) (y ∷ ys) same =
    elim (cases_lt x a) [
      | inl x_below ↦
          elim (cases_lt y a) [
            | inl y_below ↦
                let is = sym (among_high a x xs x_below) ∙ same ∙ among_high a y ys y_below in
                λ i. heads x y (among a xs) (among a ys) is i ∷ among_same a xs ys (tails x y (among a xs) (among a ys) is) i
            | inr y_above ↦
                let is = sym (among_high a x xs x_below) ∙ same ∙ among_low a y ys (omega arith) in
                absurd (omega (arith, heads x a (among a xs) (y ∷ ys) is))
          ]
      | inr x_above ↦
          elim (cases_lt y a) [
            | inl y_below ↦
                let is = sym (among_low a x xs (omega arith)) ∙ same ∙ among_high a y ys y_below in
                absurd (omega (arith, heads a y (x ∷ xs) (among a ys) is))
            | inr y_above ↦ tails a a (x ∷ xs) (y ∷ ys) (sym (among_low a x xs (omega arith)) ∙ same ∙ among_low a y ys (omega arith))
          ]
    ]

-- one number of a list is another
ascending-set : (xs : List ℕ) (i number : ℕ) → i < length xs → among (get_or xs i 0) (ascending (set xs i number)) ≡ among number (ascending xs)
ascending-set [] i number inside = absurd (omega arith)
ascending-set (x ∷ xs) zero number inside = among-among x number (ascending xs)
ascending-set (x ∷ xs) (suc i) number inside =
    among-among (get_or xs i 0) x (ascending (set xs i number))
    ∙ ap (among x) (ascending-set xs i number (omega arith))
    ∙ among-among x number (ascending xs)

-- two numbers change places
module _ (x : ℕ) (xs : List ℕ) (i j : ℕ) (left : i < length (x ∷ xs)) (right : j < length (x ∷ xs)) where
  abbrev first : ℕ
  first = get_or (x ∷ xs) i x

  abbrev second : ℕ
  second = get_or (x ∷ xs) j x

  abbrev changed : List ℕ
  changed = set (x ∷ xs) i second

  now : get_or changed j 0 ≡ second
  now =
      elim (cases_eq j i) [
        | inl same ↦ ap (λ n. get_or changed n 0) same ∙ get_or-set_same (x ∷ xs) i second 0 left
        | inr other ↦ get_or-set_other (x ∷ xs) i j second 0 other ∙ get_or_default (x ∷ xs) j 0 x right
      ]

  back : among second (ascending (set changed j first)) ≡ among first (ascending changed)
  back =
      ap (λ n. among n (ascending (set changed j first))) (sym now)
      ∙ ascending-set changed j first (let long = length-set (x ∷ xs) i second in omega arith)

  front : among first (ascending changed) ≡ among second (ascending (x ∷ xs))
  front =
      ap (λ n. among n (ascending changed)) (sym (get_or_default (x ∷ xs) i 0 x left))
      ∙ ascending-set (x ∷ xs) i second left

  swapped : ascending (set changed j first) ≡ ascending (x ∷ xs)
  swapped = among_same second (ascending (set changed j first)) (ascending (x ∷ xs)) (back ∙ front)

ascending-swap : (xs : List ℕ) (i j : ℕ) → i < length xs → j < length xs → ascending (swap xs i j) ≡ ascending xs
ascending-swap [] i j left right = absurd (omega arith)
ascending-swap (x ∷ xs) i j left right = swapped x xs i j left right

-- the order of a list doesn't matter
pub ascending-permutation : (xs ys : List ℕ) → IsPermutation xs ys → ascending ys ≡ ascending xs
ascending-permutation xs ys moved = IsPermutation-keeps xs (λ l. ascending l ≡ ascending xs) refl (λ l i j left right same. ascending-swap l i j left right ∙ same) ys moved

-- and where it ascends, it stays
pub ascending_fixed : (xs : List ℕ) → IsNonDecreasing xs → ascending xs ≡ xs
ascending_fixed [] up = refl
ascending_fixed (x ∷ []) up = refl
ascending_fixed (x ∷ y ∷ xs) up =
    ap (among x) (ascending_fixed (y ∷ xs) (λ i j d before inside. up (suc i) (suc j) d (omega arith) (omega arith)))
    ∙ among_low x y xs (up 0 1 0 (omega arith) (omega arith))

pub ascending_is : (xs ys : List ℕ) → IsPermutation xs ys → IsNonDecreasing ys → ys ≡ ascending xs
ascending_is xs ys moved up = sym (ascending_fixed ys up) ∙ ascending-permutation xs ys moved
