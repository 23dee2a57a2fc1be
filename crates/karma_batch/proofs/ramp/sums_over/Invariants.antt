use Rattle.std.proofs.Common.{◌≡◌, ◌+◌, sum_by, take}
use Rattle.karma_batch.specs.Levels.{over}
use Rattle.karma_batch.proofs.ramp.sums_over.Given as goal

abbrev pub invariant-loop-ramp : goal.invariant-loop-ramp
invariant-loop-ramp l = record {
  here : l.here ≡ sum_by (over l.level) (take l.ramp-index l.ramps);
  next : l.here ≡ sum_by (over (l.level + 1)) (take l.ramp-index l.ramps) + l.at_level;
}
