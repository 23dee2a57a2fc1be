-- What contracts see of the shelves in memory.
use Rattle.std.specs.Prelude.{◌≡◌, ℕ, ◌+◌, ◌-◌, ◌<◌, ◌⊎◌, List, is_some, if◌then◌else◌, None}
use Rattle.std.specs.declared.option.Option.{Option}
use Rattle.std.specs.Option.{option_or}
use Rattle.std.specs.Ordering.{nat_cmp}
use Rattle.std.specs.FinMap.{find}
use Rattle.shelf_link.specs.Blocks.{Blocks, block_at}
use Rattle.shelf_link.specs.Calls.{CallsView}

pub record ShelfMemView : Type 0 where
  pub blocks : Blocks
  pub calls : CallsView

pub record SureShelfView : Type 0 where
  pub blocks : Blocks
  -- for how many blocks it has room besides those that it holds, and how many bytes one may have
  pub room : ℕ
  pub size : ℕ
  -- how many calls failed
  pub faults : ℕ

-- how many rooms a block takes that is held, and that isn't
abbrev pub taken_by : SureShelfView → ℕ → ℕ
taken_by shelf block = if is_some (block_at shelf.blocks block) then 1 else 0

-- the room that is left once a block is held
abbrev pub room_after : SureShelfView → ℕ → ℕ
room_after shelf block = shelf.room + taken_by shelf block - 1

-- so many bytes are too many for one room, or no room is left for a block that isn't held
abbrev pub IsTooSmall : SureShelfView → ℕ → ℕ → Type 0
IsTooSmall shelf block len = (shelf.size < len) ⊎ ((block_at shelf.blocks block ≡ None) × (shelf.room ≡ 0))

pub record ShelfTwistView : Type 0 where
  -- what was put
  pub blocks : Blocks
  -- what gets answer in place of it, by their numbers
  pub answers : List (ℕ × List ℕ)
  -- how many gets were made, and how many calls failed
  pub gets : ℕ
  pub faults : ℕ

-- the bytes that are listed first for a number
abbrev pub answer_of : List (ℕ × List ℕ) → ℕ → Option (List ℕ)
answer_of answers number = find nat_cmp number answers

-- what the next get of a block answers
abbrev pub answered : ShelfTwistView → ℕ → Option (List ℕ)
answered shelf block = option_or (answer_of shelf.answers shelf.gets) (block_at shelf.blocks block)

pub record ShelfDirView : Type 0 where
  pub user : ℕ
  -- how many calls failed
  pub faults : ℕ
