-- What contracts see of a pool.
use Rattle.std.specs.Prelude.{ℕ, List, map, Some}
use Rattle.std.specs.declared.option.Option.{Option}
use Rattle.std.specs.List.{range_with_len}
use Rattle.slice_seq.specs.Slice.{SliceView}

pub record PoolView : Type 0 where
  -- every id that a slice can have is below it
  pub bound : ℕ
  -- the free slices by their ids, lowest first: a finite map
  pub slices : List (ℕ × SliceView)

-- a slice that was never granted
abbrev pub fresh_slice : ℕ → ℕ → SliceView
fresh_slice size id = record { id = id; size = size; number = 0 }

-- a place for each id below the count, with such a slice
abbrev pub fresh_slices : ℕ → ℕ → List (Option SliceView)
fresh_slices size count = map (λ id. Some (fresh_slice size id)) (range_with_len 0 count)

-- every slice is free
abbrev pub full_pool : ℕ → ℕ → PoolView
full_pool count size = record { bound = count; slices = map (λ id. (id, fresh_slice size id)) (range_with_len 0 count) }
