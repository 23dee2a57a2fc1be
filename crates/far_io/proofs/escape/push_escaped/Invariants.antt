use Rattle.std.proofs.Common.{take}
use Rattle.std.specs.List.{flat_map}
use Rattle.far_io.specs.Escapes.{escaped_byte}
use Rattle.far_io.specs.Faults.{Follows}
use Rattle.far_io.specs.Sends.{Sends}
use Rattle.far_io.proofs.escape.push_escaped.Given as goal

abbrev pub invariant-loop-byte : goal.invariant-loop-byte
invariant-loop-byte g l = record {
  sends : Sends g.O.Sink.took l.initial.sink l.sink l.initial.piece l.piece (flat_map escaped_byte (take l.byte-index l.bytes));
  faults : Follows (g.O.Sink.faults l.initial.sink) (g.O.Sink.faults l.sink);
}
