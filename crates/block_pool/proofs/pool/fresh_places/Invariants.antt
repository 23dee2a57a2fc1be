use Rattle.std.proofs.Common.{◌≡◌, ◌≤◌, vec_len, vec_capacity}
use Rattle.block_pool.specs.Pools.{fresh_slices}
use Rattle.block_pool.proofs.pool.fresh_places.Given as goal

abbrev pub invariant-loop-id : goal.invariant-loop-id
invariant-loop-id l = record {
  made : l.places.items ≡ fresh_slices l.size l.id;
  count : vec_len l.places ≡ l.id;
  room : l.count ≤ vec_capacity l.places;
}
