-- Finite maps from block numbers to bytes.
use Rattle.std.specs.Prelude.{ℕ, not, List}
use Rattle.std.specs.declared.option.Option.{Option}
use Rattle.std.specs.Ordering.{nat_cmp, eq_by_cmp}
use Rattle.std.specs.FinMap.{find, put}
use Rattle.std.specs.FinMap.Entries.{where_key}

-- a finite map is the list of its entries in the order of their numbers
abbrev pub Blocks : Type 0
Blocks = List (ℕ × List ℕ)

-- the bytes under a number
abbrev pub block_at : Blocks → ℕ → Option (List ℕ)
block_at blocks block = find nat_cmp block blocks

-- these bytes stand under a number, whatever stood there
abbrev pub with_block : Blocks → ℕ → List ℕ → Blocks
with_block blocks block bytes = put nat_cmp block bytes blocks

-- nothing stands under a number
abbrev pub without_block : Blocks → ℕ → Blocks
without_block blocks block = where_key nat_cmp (λ other. not (eq_by_cmp nat_cmp block other)) blocks
