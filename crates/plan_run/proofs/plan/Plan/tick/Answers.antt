use Rattle.plan_run.proofs.LineEnds.{report_told, holds_then}
use Rattle.plan_run.proofs.plan.Plan.tick.Goals as goal

pub returns-clause-told : goal.returns-clause-told
returns-clause-told c = report_told c.tick.result c.tick.new.out c.args.self.now.book.quanta c.tick.new.self.rows _ c.requires.steady c.tick.ensures.told c.tick.ensures.changed

pub returns-clause-holds : goal.returns-clause-holds
returns-clause-holds c = holds_then c.tick.result (record { book = c.tick.new.self; report = c.tick.new.out }) c.tick.ensures.fits c.tick.ensures.seats
