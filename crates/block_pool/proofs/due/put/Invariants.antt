use Rattle.std.proofs.Common.{◌≡◌, ◌+◌, ◌++◌, replicate, vec_len, vec_capacity}
use Rattle.block_pool.proofs.due.put.Given as goal

abbrev pub invariant-loop-done : goal.invariant-loop-done
invariant-loop-done l = record {
  put : l.moves.items ≡ l.initial.moves.items ++ replicate l._done l.due;
  count : vec_len l.moves ≡ vec_len l.initial.moves + l._done;
  room : vec_capacity l.moves ≡ vec_capacity l.initial.moves;
}
