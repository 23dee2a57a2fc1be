use Rattle.std.proofs.Common.{take, map}
use Rattle.std.specs.List.{flat_map}
use Rattle.far_io.specs.Faults.{Follows}
use Rattle.far_io.specs.Sends.{Sends}
use Rattle.demand_book.specs.Roster.{seat_of}
use Rattle.quantum_text.specs.Shares.{seat_text}
use Rattle.quantum_text.proofs.shares.put_seats.Given as goal

abbrev pub invariant-loop-row : goal.invariant-loop-row
invariant-loop-row g l = record {
  sends : Sends g.O.Sink.took l.initial.sink l.sink l.initial.piece l.piece (flat_map seat_text (take l.row-index (map seat_of l.rows)));
  faults : Follows (g.O.Sink.faults l.initial.sink) (g.O.Sink.faults l.sink);
}
