-- Blocks in rooms of one size, in the order of their numbers.
use Rattle.std.specs.Prelude.{◌≡◌, ℕ, ◌<◌, ◌≤◌, List, [], length, map, slice_index_or}
use Rattle.std.specs.List.{All}
use Rattle.shelf_link.specs.Blocks.{Blocks}

pub record SlotView : Type 0 where
  pub block : ℕ
  pub bytes : List ℕ
  -- how many bytes it has room for
  pub size : ℕ

abbrev pub blocks_of : List SlotView → Blocks
blocks_of slots = map (λ slot. (slot.block, slot.bytes)) slots

-- the number of the entry at a place
abbrev pub number_at : Blocks → ℕ → ℕ
number_at blocks at = let entry = slice_index_or blocks at (0, []) in entry.0

-- a number stands at a place
pub record IsAt (blocks : Blocks) (block at : ℕ) : Type 0 where
  pub within : at < length blocks
  pub is : number_at blocks at ≡ block

-- a number would stand at a place: lower ones stand before it, and higher ones from it on
pub record IsGapFor (blocks : Blocks) (block at : ℕ) : Type 0 where
  pub within : at ≤ length blocks
  pub lower : (i : ℕ) → i < at → number_at blocks i < block
  pub higher : (i : ℕ) → at ≤ i → i < length blocks → block < number_at blocks i

-- all have room for so many bytes
abbrev pub AreSized : ℕ → List SlotView → Type 0
AreSized size slots = All (λ slot. slot.size ≡ size) slots
