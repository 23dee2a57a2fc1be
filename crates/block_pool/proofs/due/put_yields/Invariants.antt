use Rattle.std.proofs.Common.{◌≡◌, ◌+◌, ◌≤◌, ◌++◌, sum, take, vec_len, vec_capacity}
use Rattle.std.specs.List.{flat_map, range_with_len}
use Rattle.block_pool.specs.Dues.{yields_of}
use Rattle.block_pool.proofs.due.put_yields.Given as goal

abbrev pub invariant-loop-user : goal.invariant-loop-user
invariant-loop-user l = record {
  put : l.moves.items ≡ l.initial.moves.items ++ flat_map (yields_of l.held l.given) (range_with_len 0 l.user);
  most : vec_len l.moves ≤ vec_len l.initial.moves + sum (take l.user l.held);
  room : vec_capacity l.moves ≡ vec_capacity l.initial.moves;
}
