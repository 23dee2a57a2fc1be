use Rattle.std.proofs.Common.{take}
use Rattle.std.specs.List.{All}
use Rattle.karma_rule.specs.Quanta.{IsReady}
use Rattle.bench_quantum.proofs.rows.change_demands.Given as goal

abbrev pub invariant-loop-user : goal.invariant-loop-user
invariant-loop-user l = All IsReady (take l.user l.rows)
