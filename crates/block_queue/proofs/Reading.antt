-- Items that are read.
use Rattle.std.proofs.Common.{ℕ, ◌≤◌, List, length, ap, arith, length-append, length-drop}
use Rattle.queue_block.specs.Items.{item_bytes, BeginsAt}
use Rattle.queue_block.proofs.Spelling.{length-item_bytes}

-- an item is no longer than the bytes that it is read from
pub item_short : (bytes : List ℕ) (at : ℕ) (item : List ℕ) → BeginsAt bytes at item → length item ≤ length bytes
item_short bytes at item begins =
    omega (arith, length-drop at bytes, ap (λ (xs : List ℕ). length xs) begins.parts, length-append (item_bytes item) begins.rest, length-item_bytes item)
