-- The slices that a user holds: a finite map from the slices' ids.
use Rattle.std.specs.Prelude.{ℕ, ◌+◌, ◌==◌, nat_le, Bool, false, not, ◌||◌, if◌then◌else◌, List, length, filter, count_by, is_some, None}
use Rattle.std.specs.declared.option.Option.{Option}
use Rattle.std.specs.Option.{option_map_or}
use Rattle.std.specs.List.{list_any}
use Rattle.std.specs.Ordering.{nat_cmp}
use Rattle.std.specs.FinMap.{find, put}
use Rattle.slice_seq.specs.declared.TheConstants.{WORN}

-- a held slice: its number, and the block that lies in it. A block's number names one block of the user
pub record Held : Type 0 where
  pub number : ℕ
  pub block : Option ℕ

-- the entries in the order of the ids
abbrev pub Purse : Type 0
Purse = List (ℕ × Held)

-- a worn slice has come to its last number, and no block is placed in it again
abbrev pub is_worn : ℕ → Bool
is_worn number = nat_le WORN number

-- a worn slice counts as used, with a block or without
abbrev pub is_used : Held → Bool
is_used held = is_some held.block || is_worn held.number

-- how many slices are held, and how many of them are used
abbrev pub granted : Purse → ℕ
granted purse = length purse

abbrev pub used : Purse → ℕ
used purse = count_by (λ e. is_used e.1) purse

-- the slices that can take a block, lowest id first
abbrev pub open_slices : Purse → Purse
open_slices purse = filter (λ e. not (is_used e.1)) purse

-- the number after a grant: one more, but a worn slice keeps its own
abbrev pub granted_number : ℕ → ℕ
granted_number number = if is_worn number then number else number + 1

abbrev pub holds : ℕ → Held → Bool
holds block held = option_map_or (λ b. b == block) held.block false

-- whether a block is in a slice. A block that isn't is parked
abbrev pub has_block : Purse → ℕ → Bool
has_block purse block = list_any (λ e. holds block e.1) purse

-- a slice has this number and this block
abbrev pub holding : Purse → ℕ → ℕ → Option ℕ → Purse
holding purse slice number block = put nat_cmp slice (record { number = number; block = block }) purse

-- a slice lost its block, and keeps its number
abbrev pub emptied : Purse → ℕ → Purse
emptied purse slice = option_map_or (λ held. holding purse slice held.number None) (find nat_cmp slice purse) purse
