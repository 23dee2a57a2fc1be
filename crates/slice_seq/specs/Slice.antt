-- What contracts see of a slice.
use Rattle.std.specs.Prelude.{ℕ, ◌+◌, min}
use Rattle.slice_seq.specs.declared.TheConstants.{WORN}

-- a slice without a block: which one it is, how many bytes it has room for, and its number
pub record SliceView : Type 0 where
  pub id : ℕ
  pub size : ℕ
  pub number : ℕ

-- the number after a grant: one more, but the number of a worn slice stays
abbrev pub raised : ℕ → ℕ
raised number = min (number + 1) WORN
