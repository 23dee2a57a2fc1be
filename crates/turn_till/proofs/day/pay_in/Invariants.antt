use Rattle.turn_cell.specs.Passes.{MakesAsks}
use Rattle.turn_till.specs.Rules.{till_ask}
use Rattle.turn_till.specs.Days.{payments}
use Rattle.turn_till.proofs.day.pay_in.Given as goal

abbrev pub invariant-loop : goal.invariant-loop
invariant-loop g l = MakesAsks till_ask l.initial.pass (payments l.counter) l.pass
