use Rattle.std.proofs.Common.{subst}
use Rattle.turn_cell.specs.History.{In, logged}
use Rattle.turn_cell.proofs.Callers.{in-call}
use Rattle.turn_till.specs.declared.till.TillAsk.TheVariants.{Empty}
use Rattle.turn_till.specs.Rules.{entry_of}
use Rattle.turn_till.proofs.day.empty.Goals as goal

pub returns-clause-taken : goal.returns-clause-taken
returns-clause-taken g c = subst (λ tell. In (logged c.args.pass.now.number (entry_of Empty tell)) c.call.new.pass.seen) c.in-Emptied.is (in-call c.call.ensures.history)
