-- A list in pieces of one size.
use Rattle.std.proofs.Common.{◌≡◌, ℕ, ◌+◌, ◌-◌, ◌*◌, ◌<◌, ◌≤◌, List, ◌++◌, length, take, drop, refl, sym, ap, ◌∙◌, subst, inl, inr, arith}
use Rattle.std.specs.Int.{div_ceil}
use Rattle.std.proofs.Math.Nat.{mul-le-mul_left, zero-div, zero-mod}
use Rattle.std.proofs.lemmas.Bool.{cases_lt}
use Rattle.std.proofs.lemmas.Grind.{div_ceil_times}
use Rattle.std.proofs.lemmas.List.{length-append, length-drop, take-append-le, drop-append-le, drop_at, take_all, drop_all, drop-drop, drop-take, take-take, take-append-drop, append-nil}
use Rattle.slice_seq.specs.Used.{written_at}

pub ceil_above : (a b : ℕ) → 0 < b → a ≤ div_ceil a b * b
ceil_above a b pos = (div_ceil_times a b pos).0

pub ceil_below : (a b : ℕ) → 0 < b → div_ceil a b * b < a + b
ceil_below a b pos = (div_ceil_times a b pos).1

-- so many pieces are as few as can
pub ceil_is : (n a b : ℕ) → 0 < b → a ≤ n * b → n * b < a + b → n ≡ div_ceil a b
ceil_is n a b pos low high =
    let above = ceil_above a b pos in
    let below = ceil_below a b pos in
    elim (cases_lt n (div_ceil a b)) [
      | inl less ↦ let h : n + 1 ≤ div_ceil a b = omega arith in absurd (omega (arith, mul-le-mul_left b h))
      | inr not_less ↦
          elim (cases_lt (div_ceil a b) n) [
            | inl more ↦ let h : div_ceil a b + 1 ≤ n = omega arith in absurd (omega (arith, mul-le-mul_left b h))
            | inr not_more ↦ omega arith
          ]
    ]

-- a whole piece stays where the list grows
pub piece-append : (size from : ℕ) (xs ys : List ℕ) → from + size ≤ length xs → take size (drop from (xs ++ ys)) ≡ take size (drop from xs)
piece-append size from xs ys within =
    ap (take size) (drop-append-le from xs ys (omega arith))
    ∙ take-append-le size (drop from xs) ys (omega (arith, length-drop from xs))

-- the last piece grows with the list
pub last-append : (size from : ℕ) (xs ys : List ℕ) → from ≤ length xs → length xs + length ys ≤ from + size → take size (drop from (xs ++ ys)) ≡ take size (drop from xs) ++ ys
last-append size from xs ys within fits =
    let rest = length-drop from xs in
    ap (take size) (drop-append-le from xs ys within)
    ∙ take_all size (drop from xs ++ ys) (omega (arith, length-append (drop from xs) ys))
    ∙ ap (λ front. front ++ ys) (sym (take_all size (drop from xs) (omega arith)))

-- a piece of its own after whole pieces
pub next-append : (size from : ℕ) (xs ys : List ℕ) → from ≡ length xs → length ys ≤ size → take size (drop from (xs ++ ys)) ≡ ys
next-append size from xs ys all fits =
    ap (take size) (drop_at xs ys from (sym all)) ∙ take_all size ys fits

-- to write at the end is to append
pub written_at_end : (xs ys : List ℕ) (at : ℕ) → at ≡ length xs → written_at xs at ys ≡ xs ++ ys
written_at_end xs ys at end =
    ap (λ front. front ++ ys ++ drop (at + length ys) xs) (take_all at xs (omega arith))
    ∙ ap (λ back. xs ++ ys ++ back) (drop_all (at + length ys) xs (omega arith))
    ∙ append-nil (xs ++ ys)

-- a part of a piece is a part of the list
pub part_of_piece : (size from start count : ℕ) (xs : List ℕ) → start + count ≤ size → take count (drop start (take size (drop from xs))) ≡ take count (drop (from + start) xs)
part_of_piece size from start count xs within =
    let rest : size ≡ start + (size - start) = omega arith in
    ap (λ n. take count (drop start (take n (drop from xs)))) rest
    ∙ ap (take count) (drop-take start (size - start) (drop from xs))
    ∙ take-take count (size - start) (drop start (drop from xs)) (omega arith)
    ∙ ap (take count) (drop-drop start from xs)

pub take-split : (n m : ℕ) (xs : List ℕ) → take (n + m) xs ≡ take n xs ++ take m (drop n xs)
take-split n m xs =
    sym (take-append-drop n (take (n + m) xs))
    ∙ (λ i. take-take n (n + m) xs (omega arith) i ++ drop-take n m xs i)

pub ceil_of_none : (size : ℕ) → div_ceil 0 size ≡ 0
ceil_of_none size = rw (zero-div, zero-mod) refl

-- one piece less is left after one piece
pub ceil_step : (rest size : ℕ) → 0 < size → 0 < rest → div_ceil (rest - size) size + 1 ≡ div_ceil rest size
ceil_step rest size pos some =
    elim (cases_lt size rest) [
      | inl longer ↦
          let above = ceil_above (rest - size) size pos in
          let below = ceil_below (rest - size) size pos in
          ceil_is (div_ceil (rest - size) size + 1) rest size pos (omega arith) (omega arith)
      | inr last ↦
          let nothing : rest - size ≡ 0 = omega arith in
          ap (λ r. div_ceil r size + 1) nothing
          ∙ ap (λ n. n + 1) (ceil_of_none size)
          ∙ ceil_is 1 rest size pos (omega arith) (omega arith)
    ]

-- what is left for new blocks needs the blocks that the whole needs beyond those that are there
pub ceil_rest : (count used more size : ℕ) → 0 < size → count ≡ div_ceil used size → div_ceil (more - (count * size - used)) size ≡ div_ceil (used + more) size - div_ceil used size
ceil_rest count used more size pos count_is =
    let total_below = ceil_below (used + more) size pos in
    elim (cases_lt (count * size - used) more) [
      | inl longer ↦
          let rest = more - (count * size - used) in
          let above = ceil_above (more - (count * size - used)) size pos in
          let below = ceil_below (more - (count * size - used)) size pos in
          let room = subst (λ n. used ≤ n * size) (sym count_is) (ceil_above used size pos) in
          let together : count + div_ceil (more - (count * size - used)) size ≡ div_ceil (used + more) size = ceil_is (count + div_ceil (more - (count * size - used)) size) (used + more) size pos (omega arith) (omega arith) in
          omega arith
      | inr fits ↦
          let nothing : more - (count * size - used) ≡ 0 = omega arith in
          let room = subst (λ n. used ≤ n * size) (sym count_is) (ceil_above used size pos) in
          ap (λ r. div_ceil r size) nothing
          ∙ ceil_of_none size
          ∙ elim (cases_lt count (div_ceil (used + more) size)) [
            | inl over ↦ let h : count + 1 ≤ div_ceil (used + more) size = omega arith in absurd (omega (arith, mul-le-mul_left size h))
            | inr no_more ↦ omega arith
          ]
    ]
