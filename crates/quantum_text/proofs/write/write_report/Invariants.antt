use Rattle.std.proofs.Common.{[], ◌++◌, take}
use Rattle.far_io.specs.Faults.{Follows}
use Rattle.far_io.specs.Sends.{Sends}
use Rattle.quantum_text.proofs.Sent.{other_kinds, opening_text, kinds_text}
use Rattle.quantum_text.proofs.write.write_report.Given as goal

abbrev pub invariant-loop-kind : goal.invariant-loop-kind
invariant-loop-kind g l = record {
  sends : Sends g.O.Sink.took l.fn.sink l.sink [] l.piece (opening_text l.report ++ kinds_text l.report (take l.kind-index other_kinds));
  faults : Follows (g.O.Sink.faults l.fn.sink) (g.O.Sink.faults l.sink);
}
