-- What a pool's fields stand for, and what holds of them.
use Rattle.std.specs.Prelude.{◌≡◌, ℕ, ◌^◌, ◌<◌, List, map, is_some, slice_index_or, None, Some, length}
use Rattle.std.specs.declared.option.Option.{Option}
use Rattle.id_set.specs.Tables.{entries_of}
use Rattle.slice_seq.specs.Slice.{SliceView}
use Rattle.block_pool.specs.declared.pool.Pool.TheInside.{Inside}
use Rattle.block_pool.specs.Pools.{PoolView}

abbrev pub pool_view : Inside → PoolView
pool_view p = record { bound = length p.places.items; slices = entries_of p.places.items }

-- each slice stands in the place of its id
pub record AreInPlace (places : List (Option SliceView)) : Type 0 where
  pub each : (id : ℕ) (slice : SliceView) → slice_index_or places id None ≡ Some slice → slice.id ≡ id

pub record IsWellPool (p : Inside) : Type 0 where
  pub free : p.free ≡ map is_some p.places.items
  pub ids : AreInPlace p.places.items
  pub limit : length p.places.items < 2 ^ 32
