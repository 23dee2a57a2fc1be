use Rattle.plan_run.proofs.AuditSteps.{comes_of}
use Rattle.plan_run.proofs.audit.AuditLineTaker.take_line.Goals as goal

pub returns-clause-comes : goal.returns-clause-comes
returns-clause-comes g c =
    comes_of g.O.Sink.took c.args._sink.now c.args.self.now c.takes_shares.new.self c.take_numbers.new.self c.args.line.now c.take_numbers.result c.if-takes_shares.ensures.kept c.take_numbers.ensures.takes c.take_numbers.ensures.stops
