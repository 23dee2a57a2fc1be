-- The slices of a purse without a block, and those with one.
use Rattle.std.specs.Prelude.{Bool, not, filter, is_some}
use Rattle.slice_seq.specs.Purses.{Held, Purse}

-- a slice without a block, worn or not
abbrev pub is_idle : Held → Bool
is_idle held = not (is_some held.block)

-- lowest id first
abbrev pub idle_slices : Purse → Purse
idle_slices purse = filter (λ e. is_idle e.1) purse

abbrev pub seated_slices : Purse → Purse
seated_slices purse = filter (λ e. is_some e.1.block) purse
