-- The bits of a row of words, and what they are after one word was written.
use Rattle.std.proofs.Common.{◌≡◌, ℕ, ◌+◌, ◌-◌, ◌*◌, ◌/◌, ◌%◌, ◌^◌, ◌<◌, ◌≤◌, ◌≢◌, Bool, true, false, List, length, get_or, set, eqb, bit_and, bit_or, refl, sym, ap, ◌∙◌, inl, inr, arith}
use Rattle.std.specs.Int.{bit_at, bit_not, w64}
use Rattle.std.proofs.lemmas.Bool.{cases_eq}
use Rattle.std.proofs.lemmas.List.{same_lists, length-set, get_or-set_same, get_or-set_other, set_past}
use Rattle.std.proofs.lemmas.List.FromFn.{length-map-range_with_len, get_or-map-range_with_len}
use Rattle.std.proofs.lemmas.Nat.Bits.{bit_at_set_same, bit_at_set_other, bit_at_clear_same, bit_at_clear_other}
use Rattle.id_set.specs.Words.{is_set, bit_of, bits_of}

pub length-bits_of : (bound : ℕ) (words : List ℕ) → length (bits_of bound words) ≡ bound
unfolding bits_of
length-bits_of bound words = length-map-range_with_len (bit_of words) 0 bound

pub get_or-bits_of : (bound : ℕ) (words : List ℕ) (i : ℕ) (d : Bool) → i < bound → get_or (bits_of bound words) i d ≡ bit_of words i
unfolding bits_of
get_or-bits_of bound words i d below = get_or-map-range_with_len (bit_of words) 0 bound i i d below (omega arith)

bit_of-set_here : (words : List ℕ) (at word i : ℕ) → at < length words → i / 64 ≡ at → bit_of (set words at word) i ≡ is_set word (i % 64)
bit_of-set_here words at word i inside here =
    rw here (ap (λ w. is_set w (i % 64)) (get_or-set_same words at word 0 inside))

bit_of-set_elsewhere : (words : List ℕ) (at word i : ℕ) → i / 64 ≢ at → bit_of (set words at word) i ≡ bit_of words i
bit_of-set_elsewhere words at word i apart = ap (λ w. is_set w (i % 64)) (get_or-set_other words at (i / 64) word 0 apart)

-- the word with one more bit, and with one bit less
abbrev pub with_bit : ℕ → ℕ → ℕ
with_bit word place = bit_or word (1 * 2 ^ place % 2 ^ 64)

abbrev pub without_bit : ℕ → ℕ → ℕ
without_bit word place = bit_and word (bit_not w64 (1 * 2 ^ place % 2 ^ 64))

-- two numbers in one word have two places there
places_apart : (i id : ℕ) → i ≢ id → i / 64 ≡ id / 64 → i % 64 ≢ id % 64
places_apart i id apart here same = apart (omega arith)

-- a write of a number's word, which sets its bit to `member` and keeps the word's other bits
pub record Writes (words : List ℕ) (id word : ℕ) (member : Bool) : Type 0 where
  pub inside : id / 64 < length words
  pub here : is_set word (id % 64) ≡ member
  pub others : (place : ℕ) → place < 64 → place ≢ id % 64 → is_set word place ≡ is_set (get_or words (id / 64) 0) place

pub bit_of-written_same : (words : List ℕ) (id word : ℕ) (member : Bool) → Writes words id word member → bit_of (set words (id / 64) word) id ≡ member
bit_of-written_same words id word member w = bit_of-set_here words (id / 64) word id w.inside refl ∙ w.here

pub bit_of-written_other : (words : List ℕ) (id word : ℕ) (member : Bool) → Writes words id word member → (i : ℕ) → i ≢ id → bit_of (set words (id / 64) word) i ≡ bit_of words i
bit_of-written_other words id word member w i apart =
    elim (cases_eq (i / 64) (id / 64)) [
      | inl here ↦
          bit_of-set_here words (id / 64) word i w.inside here
          ∙ w.others (i % 64) (omega arith) (places_apart i id apart here)
          ∙ ap (λ at. is_set (get_or words at 0) (i % 64)) (sym here)
      | inr elsewhere ↦ bit_of-set_elsewhere words (id / 64) word i elsewhere
    ]

-- the bits after such a write
pub bits_of-written : (bound : ℕ) (words : List ℕ) (id word : ℕ) (member : Bool) → Writes words id word member → bits_of bound (set words (id / 64) word) ≡ set (bits_of bound words) id member
bits_of-written bound words id word member w =
    same_lists _ _
    (length-bits_of bound _ ∙ sym (length-set (bits_of bound words) id member ∙ length-bits_of bound words))
    (λ k d in_new.
    let below : k < bound = omega (arith, length-bits_of bound (set words (id / 64) word)) in
    get_or-bits_of bound _ k d below
    ∙ elim (cases_eq k id) [
      | inl same ↦
          ap (bit_of (set words (id / 64) word)) same
          ∙ bit_of-written_same words id word member w
          ∙ rw same (sym (get_or-set_same (bits_of bound words) id member d (omega (arith, length-bits_of bound words))))
      | inr apart ↦
          bit_of-written_other words id word member w k apart
          ∙ sym (get_or-set_other (bits_of bound words) id k member d apart ∙ get_or-bits_of bound words k d below)
    ])

pub writes-with_bit : (words : List ℕ) (id : ℕ) → id / 64 < length words → Writes words id (with_bit (get_or words (id / 64) 0) (id % 64)) true
writes-with_bit words id inside = record {
  inside = inside;
  here = ap (λ b. eqb b 1) (bit_at_set_same w64 (get_or words (id / 64) 0) (id % 64) (omega arith));
  others = λ place below apart. ap (λ b. eqb b 1) (bit_at_set_other w64 (get_or words (id / 64) 0) (id % 64) (omega arith) place apart);
}

pub writes-without_bit : (words : List ℕ) (id : ℕ) → id / 64 < length words → Writes words id (without_bit (get_or words (id / 64) 0) (id % 64)) false
writes-without_bit words id inside = record {
  inside = inside;
  here = ap (λ b. eqb b 1) (bit_at_clear_same w64 (get_or words (id / 64) 0) (id % 64) (omega arith));
  others = λ place below apart. ap (λ b. eqb b 1) (bit_at_clear_other w64 (get_or words (id / 64) 0) (id % 64) (omega arith) place below apart);
}
