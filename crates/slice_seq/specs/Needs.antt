-- How many slices a file needs to grow.
use Rattle.std.specs.Prelude.{ℕ, ◌+◌, ◌-◌, ◌%◌, ◌==◌, ◌&&◌, nat_lt, not, if◌then◌else◌, Bool, false, List, length}
use Rattle.std.specs.Option.{option_map_or}
use Rattle.std.specs.List.{slice_get}
use Rattle.std.specs.Int.{div_ceil}
use Rattle.slice_seq.specs.Purses.{Purse, has_block}

-- whether the last of a file's blocks is in no slice
abbrev pub is_last_parked : Purse → List ℕ → Bool
is_last_parked purse blocks = not (option_map_or (has_block purse) (slice_get blocks (length blocks - 1)) false)

-- the need of an append of so many bytes to a file that has so many, in these blocks: a slice for each new block, and one for the
-- last block where bytes go into it and it is parked
abbrev pub append_need : (size : ℕ) → Purse → (blocks : List ℕ) → (old more : ℕ) → ℕ
append_need size purse blocks old more = div_ceil (old + more) size - div_ceil old size + (if nat_lt 0 more && not (old % size == 0) && is_last_parked purse blocks then 1 else 0)
