-- The words of a set with every number below its bound, and of one with none.
use Rattle.std.proofs.Common.{◌≡◌, ℕ, ◌+◌, ◌-◌, ◌*◌, ◌/◌, ◌%◌, ◌^◌, ◌<◌, ◌≤◌, ◌≢◌, Bool, true, false, not, List, length, map, get_or, Result, Ok, Err, IfOk, set, replicate, eqb, ltb, min, refl, sym, ap, ◌∙◌, inl, inr, arith}
use Rattle.std.specs.Int.{bit_at, div_ceil}
use Rattle.std.proofs.lemmas.Bool.{cases_eq, cases_lt, eqb-true, false≢true}
use Rattle.std.proofs.lemmas.Bool.Decides.{nat_tests}
use Rattle.std.proofs.lemmas.List.{same_lists, length-set, length-map, length-replicate, get_or-map, get_or-replicate, get_or-set_same, get_or-set_other, get_or_past}
use Rattle.std.proofs.lemmas.Nat.Bits.{bit_at-zero, bit_at_ones, bit_at_ones_above}
use Rattle.id_set.specs.Words.{is_set, bit_of, bits_of, filled_of, IsLevel, Fills}
use Rattle.id_set.proofs.BitLemmas.{length-bits_of, get_or-bits_of}
use Rattle.id_set.proofs.LevelLemmas.{zero_is-unset, not_zero}

pub level-filled : (bound : ℕ) (words : List ℕ) (member : Bool) → Fills bound words member → IsLevel bound words (replicate (length words) member)
level-filled bound words member fills = record {
  small = fills.small;
  enough = let count = fills.count in omega arith;
  bounded = fills.past;
  summed = sym fills.filled;
}

pub bits_of-filled : (bound : ℕ) (words : List ℕ) (member : Bool) → Fills bound words member → bits_of bound words ≡ replicate bound member
bits_of-filled bound words member fills =
    same_lists _ _ (length-bits_of bound words ∙ sym (length-replicate bound member))
    (λ k d inside.
    let below : k < bound = omega (arith, length-bits_of bound words) in
    get_or-bits_of bound words k d below ∙ fills.below k below ∙ sym (get_or-replicate bound k member d below))

-- no bit is set
unset_in_none : (count i : ℕ) → bit_of (replicate count 0) i ≡ false
unset_in_none count i =
    let zero_is : get_or (replicate count 0) (i / 64) 0 ≡ 0 =
    elim (cases_lt (i / 64) count) [
      | inl inside ↦ get_or-replicate count (i / 64) 0 0 inside
      | inr past ↦ get_or_past (replicate count 0) (i / 64) 0 (let many = length-replicate {A = ℕ} count 0 in omega arith)
    ] in
    ap (λ w. is_set w (i % 64)) zero_is ∙ ap (λ b. eqb b 1) (bit_at-zero (i % 64))

map-replicate : (count word : ℕ) → filled_of (replicate count word) ≡ replicate (length (replicate count word)) (not (eqb word 0))
map-replicate count word =
    let many = length-replicate count word in
    same_lists _ _
    (length-map (replicate count word) (λ w. not (eqb w 0)) ∙ sym (length-replicate (length (replicate count word)) (not (eqb word 0))))
    (λ k d inside.
    let within : k < count = omega (arith, length-map (replicate count word) (λ w. not (eqb w 0))) in
    get_or-map (λ w. not (eqb w 0)) (replicate count word) k 0 d (omega arith)
    ∙ ap (λ w. not (eqb w 0)) (get_or-replicate count k word 0 within)
    ∙ sym (get_or-replicate (length (replicate count word)) k (not (eqb word 0)) d (omega arith)))

pub none-fills : (bound : ℕ) → bound < 2 ^ 32 → Fills bound (replicate (div_ceil bound 64) 0) false
none-fills bound small = record {
  small = small;
  count = length-replicate (div_ceil bound 64) 0;
  below = λ i _. unset_in_none (div_ceil bound 64) i;
  past = λ i _. unset_in_none (div_ceil bound 64) i;
  filled = map-replicate (div_ceil bound 64) 0;
}

-- a word of ones, and one of which the lowest `places` bits are set
abbrev ones : ℕ
ones = 2 ^ 64 - 1

set_in_ones : (place : ℕ) → place < 64 → is_set ones place ≡ true
set_in_ones place below = ap (λ b. eqb b 1) (bit_at_ones 64 place below)

-- where the bound fills its last word
pub whole-fills : (bound : ℕ) → bound < 2 ^ 32 → bound % 64 ≡ 0 → Fills bound (replicate (div_ceil bound 64) ones) true
whole-fills bound small whole =
    let many = length-replicate (div_ceil bound 64) ones in
    record {
      small = small;
      count = many;
      below = λ i below.
          ap (λ w. is_set w (i % 64)) (get_or-replicate (div_ceil bound 64) (i / 64) ones 0 (omega arith))
          ∙ set_in_ones (i % 64) (omega arith);
      past = λ i past.
          ap (λ w. is_set w (i % 64)) (get_or_past (replicate (div_ceil bound 64) ones) (i / 64) 0 (omega arith))
          ∙ ap (λ b. eqb b 1) (bit_at-zero (i % 64));
      filled = map-replicate (div_ceil bound 64) ones;
    }

-- where the bound ends within its last word, which has its lowest bits alone
module _ (bound : ℕ) (small : bound < 2 ^ 32) (part : bound % 64 ≢ 0) where
  abbrev last : ℕ
  last = div_ceil bound 64 - 1

  abbrev pub low_ones : ℕ
  low_ones = 2 ^ (bound % 64) - 1

  abbrev words : List ℕ
  words = set (replicate (div_ceil bound 64) ones) last low_ones

  many : length words ≡ div_ceil bound 64
  many = length-set (replicate (div_ceil bound 64) ones) last low_ones ∙ length-replicate (div_ceil bound 64) ones

  last_word : get_or words last 0 ≡ low_ones
  last_word =
      get_or-set_same (replicate (div_ceil bound 64) ones) last low_ones 0
      (let count = length-replicate (div_ceil bound 64) ones in omega arith)

  other_word : (at : ℕ) → at < last → get_or words at 0 ≡ ones
  other_word at before =
      get_or-set_other (replicate (div_ceil bound 64) ones) last at low_ones 0 (omega arith)
      ∙ get_or-replicate (div_ceil bound 64) at ones 0 (omega arith)

  set_below : (i : ℕ) → i < bound → bit_of words i ≡ true
  set_below i below =
      elim (cases_lt (i / 64) last) [
        | inl before ↦ ap (λ w. is_set w (i % 64)) (other_word (i / 64) before) ∙ set_in_ones (i % 64) (omega arith)
        | inr not_before ↦
            let here : i / 64 ≡ last = omega arith in
            ap (λ at. is_set (get_or words at 0) (i % 64)) here
            ∙ ap (λ w. is_set w (i % 64)) last_word
            ∙ ap (λ b. eqb b 1) (bit_at_ones (bound % 64) (i % 64) (omega arith))
      ]

  unset_past : (i : ℕ) → bound ≤ i → bit_of words i ≡ false
  unset_past i past =
      elim (cases_eq (i / 64) last) [
        | inl here ↦
            ap (λ at. is_set (get_or words at 0) (i % 64)) here
            ∙ ap (λ w. is_set w (i % 64)) last_word
            ∙ ap (λ b. eqb b 1) (bit_at_ones_above (bound % 64) (i % 64) (omega arith))
        | inr elsewhere ↦
            ap (λ w. is_set w (i % 64)) (get_or_past words (i / 64) 0 (let count = many in omega arith))
            ∙ ap (λ b. eqb b 1) (bit_at-zero (i % 64))
      ]

  -- each word has its lowest bit
  lowest_set : (at : ℕ) → at < length words → get_or words at 0 ≢ 0
  lowest_set at inside =
      let count = many in
      let here : (at * 64) / 64 ≡ at = omega arith in
      zero_is-unset (get_or words at 0) ((at * 64) % 64)
      (ap (λ w. is_set (get_or words w 0) ((at * 64) % 64)) (sym here) ∙ set_below (at * 64) (omega arith))

  all_filled : filled_of words ≡ replicate (length words) true
  all_filled =
      same_lists _ _ (length-map words (λ w. not (eqb w 0)) ∙ sym (length-replicate (length words) true))
      (λ k d inside.
      let within : k < length words = omega (arith, length-map words (λ w. not (eqb w 0))) in
      get_or-map (λ w. not (eqb w 0)) words k 0 d within
      ∙ not_zero _ (lowest_set k within)
      ∙ sym (get_or-replicate (length words) k true d within))

  pub part-fills : Fills bound words true
  part-fills = record { small = small; count = many; below = set_below; past = unset_past; filled = all_filled }

-- what follows of a value that is there
pub IfOk-more : {T E : Type 0} (r : Result T E) (P Q : T → Type 0) → ((value : T) → P value → Q value) → IfOk r P → IfOk r Q
IfOk-more (Ok value) P Q more holds = more value holds
IfOk-more (Err e) P Q more holds = holds
