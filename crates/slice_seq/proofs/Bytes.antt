-- The bytes of a block stand at the front of its buffer.
use Rattle.std.proofs.Common.{◌≡◌, ℕ, ◌+◌, ◌≤◌, List, length, take, max, arith, rules}
use Rattle.std.proofs.lemmas.List.{same_lists, places}
use Rattle.slice_seq.specs.Used.{written_at}

-- to write over the buffer is to write over the bytes at its front
pub take-written_at : (buffer piece : List ℕ) (len at : ℕ) → at ≤ len → len ≤ length buffer → at + length piece ≤ length buffer → take (max len (at + length piece)) (written_at buffer at piece) ≡ written_at (take len buffer) at piece
take-written_at buffer piece len at within inside fits =
    same_lists _ _ (search (rules, places)) (λ k d h. grind (arith, places))

-- what is written over the front is what stands there
pub take-written_front : (buffer piece : List ℕ) → length piece ≤ length buffer → take (length piece) (written_at buffer 0 piece) ≡ piece
take-written_front buffer piece fits =
    same_lists _ _ (search (rules, places)) (λ k d h. grind (arith, places))
