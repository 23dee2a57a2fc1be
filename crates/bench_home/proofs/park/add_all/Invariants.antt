use Rattle.std.proofs.Common.{◌≡◌}
use Rattle.bench_home.proofs.park.add_all.Given as goal

-- blocks stay as long
abbrev pub invariant-loop-block : goal.invariant-loop-block
invariant-loop-block g l = l.home.seats.size ≡ l.initial.home.seats.size
