use Rattle.std.proofs.Common.{◌≤◌, take}
use Rattle.karma_batch.proofs.RampRows.{Stand}
use Rattle.karma_batch.proofs.ramp.gather.Given as goal

abbrev pub invariant-loop-row : goal.invariant-loop-row
invariant-loop-row l = record {
  within : l.count ≤ l.row-index;
  stand : Stand l.side (take l.row-index l.rows) (take l.count l.ramps);
}
