use Rattle.std.proofs.Common.{◌+◌, ◌<◌, ◌^◌, arith}
use Rattle.karma_batch.specs.Levels.{over}
use Rattle.karma_batch.proofs.RampRows.{ramp_step, ramp_at}
use Rattle.karma_batch.proofs.ramp.sums_over.Goals as goal

pub overflow_add-here : goal.overflow_add-here
overflow_add-here c =
    let bound : c.loop-ramp.here + over c.args.level (ramp_at c.args.ramps.now c.loop-ramp.ramp-index) < 2 ^ 64 =
    ramp_step c.args.level c.args.ramps.now c.loop-ramp.ramp-index c.loop-ramp.here c.requires.small c.loop-ramp-test.true c.loop-ramp.invariant.here in
    omega (arith, c.over_level-here.ensures)
