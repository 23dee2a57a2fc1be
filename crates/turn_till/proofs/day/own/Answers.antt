use Rattle.std.proofs.Common.{◌≡◌, ap, subst}
use Rattle.turn_cell.specs.History.{In, logged}
use Rattle.turn_cell.proofs.Callers.{in_more}
use Rattle.turn_till.specs.declared.till.TillAsk.TheVariants.{Empty}
use Rattle.turn_till.specs.declared.till.TillTell.TheVariants.{Emptied}
use Rattle.turn_till.specs.Rules.{entry_of}
use Rattle.turn_till.proofs.day.own.Goals as goal

pub returns-clause-taken : goal.returns-clause-taken
returns-clause-taken g c =
    let number : c.pay_in.new.pass.number ≡ c.args.pass.number = ap (λ p. p.number) c.pay_in.ensures.asks.same in
    let then = subst (λ n. In (logged n (entry_of Empty (Emptied c.empty-taken.result))) c.empty-taken.new.pass.seen) number c.empty-taken.ensures.taken in
    in_more _ _ _ c.pay_in-2.ensures.asks.begins then
