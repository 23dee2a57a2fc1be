use Rattle.std.proofs.Common.{◌≡◌, ◌-◌}
use Rattle.bench_cell.proofs.threads.call_cell.Given as goal

abbrev pub invariant-loop-call : goal.invariant-loop-call
invariant-loop-call g l = l.pass ≡ record l.initial.pass { left = l.initial.pass.left - l._call; seen = l.pass.seen }
