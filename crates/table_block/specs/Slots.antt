-- The slot of a key: a hash of its bytes, modulo the count of slots.
use Rattle.std.specs.Prelude.{ℕ, ◌*◌, ◌%◌, ◌^◌, List, bit_xor}
use Rattle.std.specs.List.{fold}

abbrev pub slots : ℕ
slots = 1024

-- what one more byte makes of a hash
abbrev pub hash_step : ℕ → ℕ → ℕ
hash_step hash byte = (bit_xor hash byte * 16777619) % 2 ^ 32

-- the bytes in order, from this number on
abbrev pub hash_of : List ℕ → ℕ
hash_of key = fold hash_step 2166136261 key

unfoldable pub slot_of : List ℕ → ℕ
slot_of key = hash_of key % slots
