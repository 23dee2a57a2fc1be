use Rattle.std.proofs.Common.{◌≡◌, ◌+◌, ◌≤◌, ◌++◌, replicate, vec_len, vec_capacity}
use Rattle.block_seats.specs.declared.cell.Cell.TheVariants.{Vacant}
use Rattle.block_seats.proofs.cell.extend_cells.Given as goal

abbrev pub invariant-loop-done : goal.invariant-loop-done
invariant-loop-done l = record {
  made : l.cells.items ≡ l.initial.cells.items ++ replicate l._done Vacant;
  count : vec_len l.cells ≡ vec_len l.initial.cells + l._done;
  room : vec_len l.initial.cells + l.more ≤ vec_capacity l.cells;
}
