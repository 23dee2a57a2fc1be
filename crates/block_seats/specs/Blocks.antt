-- What contracts see of a block.
use Rattle.std.specs.Prelude.{ℕ, Bool, true, false, List, [], length, Some, None}
use Rattle.std.specs.declared.option.Option.{Option}
use Rattle.std.specs.Option.{unwrap_or}
use Rattle.std.specs.Ordering.{nat_cmp}
use Rattle.std.specs.FinMap.{find}
use Rattle.far_words.specs.declared.stamp.Stamp.{Stamp}

-- a block is in a slice, with these bytes, and was ever put into the store or not; or it is in the store, and known by its stamp
pub data BlockView : Type 0 where
  InSlice : (bytes : List ℕ) (put : Bool) → BlockView
  InStore : (stamp : Stamp) → BlockView

-- a finite map from block numbers
abbrev pub Blocks : Type 0
Blocks = List (ℕ × BlockView)

-- a block that may be there, and the one that a number names
abbrev pub seen : Option BlockView → BlockView
seen block = unwrap_or block (InSlice [] false)

abbrev pub block_at : Blocks → ℕ → BlockView
block_at blocks block = seen (find nat_cmp block blocks)

-- the bytes of a block in a slice, and whether it was ever put
abbrev pub bytes_of : BlockView → List ℕ
bytes_of (InSlice bytes put) = bytes
bytes_of (InStore stamp) = []

abbrev pub was_put : BlockView → Bool
was_put (InSlice bytes put) = put
was_put (InStore stamp) = true

-- the stamp of a block in the store
abbrev pub stamp_of : BlockView → Option Stamp
stamp_of (InSlice bytes put) = None
stamp_of (InStore stamp) = Some stamp

-- how many bytes it has, wherever it is
abbrev pub length_of : BlockView → ℕ
length_of (InSlice bytes put) = length bytes
length_of (InStore stamp) = stamp.length
