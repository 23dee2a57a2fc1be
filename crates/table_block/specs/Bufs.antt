-- What contracts see of a buffer for one block.
use Rattle.std.specs.Prelude.{ℕ, List, []}

-- its bytes, and how many it has room for
pub record BufView : Type 0 where
  pub bytes : List ℕ
  pub size : ℕ

abbrev pub empty_buf : ℕ → BufView
empty_buf size = record { bytes = []; size = size }
