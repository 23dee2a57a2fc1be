use Rattle.std.proofs.Common.{◌≡◌, ◌-◌, ◌<◌, ◌≤◌, sum_by}
use Rattle.karma_rule.specs.declared.limits.TheConstants.{CREDITS_TOP}
use Rattle.karma_batch.specs.Levels.{over}
use Rattle.karma_batch.proofs.level.search.Given as goal

abbrev pub invariant-loop-low : goal.invariant-loop-low
invariant-loop-low l = record {
  in_range : l.low ≤ l.high;
  some : 1 ≤ l.low;
  top : l.high ≤ CREDITS_TOP;
  fits : l.moved ≤ l.count;
  moved : l.moved ≡ sum_by (over l.high) l.ramps;
  tight : l.count < sum_by (over (l.low - 1)) l.ramps;
}

abbrev pub decreases-loop-low : goal.decreases-loop-low
decreases-loop-low l = l.high - l.low
