use Rattle.std.proofs.Common.{◌≡◌, ◌≤◌, replicate, vec_len, vec_capacity}
use Rattle.block_seats.specs.declared.seat.Seat.TheVariants.{Empty}
use Rattle.block_seats.proofs.seat.empty_seats.Given as goal

abbrev pub invariant-loop-done : goal.invariant-loop-done
invariant-loop-done l = record {
  made : l.seats.items ≡ replicate l._done Empty;
  count : vec_len l.seats ≡ l._done;
  room : l.count ≤ vec_capacity l.seats;
}
