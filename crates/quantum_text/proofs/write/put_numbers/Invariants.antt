use Rattle.std.proofs.Common.{take}
use Rattle.far_io.specs.Faults.{Follows}
use Rattle.far_io.specs.Sends.{Sends, spaced}
use Rattle.quantum_text.specs.LineKind.{numbers_of}
use Rattle.quantum_text.proofs.write.put_numbers.Given as goal

abbrev pub invariant-loop-index : goal.invariant-loop-index
invariant-loop-index g l = record {
  sends : Sends g.O.Sink.took l.initial.sink l.sink l.initial.piece l.piece (spaced (take l.index (numbers_of l.kind l.report)));
  faults : Follows (g.O.Sink.faults l.initial.sink) (g.O.Sink.faults l.sink);
}
