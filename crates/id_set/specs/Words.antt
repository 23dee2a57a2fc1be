-- A set as bits in words of 64, and which of the words aren't zero.
use Rattle.std.specs.Prelude.{◌≡◌, ℕ, ◌*◌, ◌/◌, ◌%◌, ◌^◌, ◌<◌, ◌≤◌, Bool, false, not, nat_eq, List, length, map, replicate, slice_index}
use Rattle.std.specs.List.{range_with_len}
use Rattle.std.specs.Int.{bit_at, div_ceil}

-- whether a word's bit is set
abbrev pub is_set : ℕ → ℕ → Bool
is_set word place = nat_eq (bit_at word place) 1

-- whether bit i of the words is set
abbrev pub bit_of : List ℕ → ℕ → Bool
bit_of words i = is_set (slice_index words (i / 64)) (i % 64)

-- the bits of the words below a bound
unfoldable pub bits_of : ℕ → List ℕ → List Bool
bits_of bound words = map (bit_of words) (range_with_len 0 bound)

-- which words have a bit that is set
abbrev pub filled_of : List ℕ → List Bool
filled_of words = map (λ word. not (nat_eq word 0)) words

-- words that hold the numbers below a bound, under a level that says which of them aren't zero
pub record IsLevel (bound : ℕ) (words : List ℕ) (filled : List Bool) : Type 0 where
  pub small : bound < 2 ^ 32
  pub enough : bound ≤ 64 * length words
  pub bounded : (i : ℕ) → bound ≤ i → bit_of words i ≡ false
  pub summed : filled ≡ filled_of words

-- words enough for the numbers below a bound, in which each bit has the value that `member` gives it
pub record Fills (bound : ℕ) (words : List ℕ) (member : Bool) : Type 0 where
  pub small : bound < 2 ^ 32
  pub count : length words ≡ div_ceil bound 64
  pub below : (i : ℕ) → i < bound → bit_of words i ≡ member
  pub past : (i : ℕ) → bound ≤ i → bit_of words i ≡ false
  pub filled : filled_of words ≡ replicate (length words) member
