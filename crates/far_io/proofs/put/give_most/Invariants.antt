use Rattle.std.proofs.Common.{◌≡◌, ◌-◌, ◌≤◌, [], take, length}
use Rattle.far_io.specs.Adds.{Adds}
use Rattle.far_io.specs.Faults.{Follows}
use Rattle.far_io.proofs.put.give_most.Given as goal

abbrev pub invariant-loop-done : goal.invariant-loop-done
invariant-loop-done g l = record {
  adds : Adds g.O.Sink.took l.initial.sink l.sink (take l.done l.bytes);
  within : l.done ≤ length l.bytes;
  still : l.bytes ≡ [] → l.sink ≡ l.initial.sink;
  faults : Follows (g.O.Sink.faults l.initial.sink) (g.O.Sink.faults l.sink);
}

abbrev pub decreases-loop-done : goal.decreases-loop-done
decreases-loop-done g l = length l.bytes - l.done
