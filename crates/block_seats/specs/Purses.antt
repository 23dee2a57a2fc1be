-- The purse, block by block.
use Rattle.std.specs.Prelude.{ℕ, ◌+◌, cond, List, [], ◌∷◌, Some, None}
use Rattle.std.specs.declared.option.Option.{Option}
use Rattle.std.specs.Option.{option_map, option_map_or, option_and_then}
use Rattle.std.specs.Ordering.{nat_cmp}
use Rattle.std.specs.FinMap.{find}
use Rattle.slice_seq.specs.Purses.{Purse, open_slices, holds, holding}
use Rattle.slice_seq.specs.Idle.{idle_slices, seated_slices}

-- the first entry of a map
abbrev pub lowest : {X : Type 0} → List (ℕ × X) → Option (ℕ × X)
lowest [] = None
lowest (e ∷ es) = Some e

-- where the next block goes: the open slice of lowest id, under its next number
abbrev pub next_place : Purse → Option (ℕ × ℕ)
next_place purse = option_map (λ e. (e.0, e.1.number + 1)) (lowest (open_slices purse))

-- the slice without a block of lowest id, worn or not, and its number
abbrev pub next_idle : Purse → Option (ℕ × ℕ)
next_idle purse = option_map (λ e. (e.0, e.1.number)) (lowest (idle_slices purse))

-- the block in the slice of lowest id that has one
abbrev pub first_block : Purse → Option ℕ
first_block purse = option_and_then (λ e. e.1.block) (lowest (seated_slices purse))

-- a block was placed
abbrev pub with_block : Purse → ℕ → Purse
with_block purse block = option_map_or (λ place. holding purse place.0 place.1 (Some block)) (next_place purse) purse

-- where a block lies: the slice and its number. A block that lies nowhere is parked
abbrev pub place_of : Purse → ℕ → Option (ℕ × ℕ)
place_of [] block = None
place_of (e ∷ es) block = cond (holds block e.1) (Some (e.0, e.1.number)) (place_of es block)

-- the slice of a block is free again, under the same number
abbrev pub without_block : Purse → ℕ → Purse
without_block purse block = option_map_or (λ place. holding purse place.0 place.1 None) (place_of purse block) purse

-- what lies in a slice: the block and the slice's number
abbrev pub block_in : Purse → ℕ → Option (ℕ × ℕ)
block_in purse slice = option_and_then (λ held. option_map (λ block. (block, held.number)) held.block) (find nat_cmp slice purse)
