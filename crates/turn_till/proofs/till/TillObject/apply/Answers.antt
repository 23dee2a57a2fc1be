use Rattle.std.proofs.Common.{refl}
use Rattle.turn_till.specs.declared.till.TillAsk.TheVariants.{Pay, Count, Empty}
use Rattle.turn_till.specs.declared.till.TillTell.TheVariants.{Paid, Counted, Emptied}
use Rattle.turn_till.proofs.Grows.{stands_more, paid}
use Rattle.turn_till.proofs.till.TillObject.apply.Goals as goal

pub returns-in-Pay-clause-stands : goal.returns-in-Pay-clause-stands
returns-in-Pay-clause-stands c h s =
    let p = paid c.args.self.now.cash c.pay.new.self.cash c.in-Pay.amount c.pay.result c.pay.ensures.paid c.pay.ensures.full in
    rw c.in-Pay.is (stands_more c.args.self.now c.pay.new.self (Pay c.in-Pay.amount) (Paid c.pay.result) h s c.pay.ensures.float p.0 p.1)

pub returns-in-Count-clause-stands : goal.returns-in-Count-clause-stands
returns-in-Count-clause-stands c h s = rw c.in-Count.is (stands_more c.args.self.now c.args.self.now Count (Counted c.args.self.now.cash) h s refl refl refl)

pub returns-in-Empty-clause-stands : goal.returns-in-Empty-clause-stands
returns-in-Empty-clause-stands c h s = rw c.in-Empty.is (stands_more c.args.self.now c.empty.new.self Empty (Emptied c.empty.result) h s c.empty.ensures.float c.empty.ensures.emptied.1 c.empty.ensures.emptied.0)
