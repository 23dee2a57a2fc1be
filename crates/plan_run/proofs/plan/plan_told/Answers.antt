use Rattle.plan_run.proofs.Planned.{planned_to, planned_short, never_short}
use Rattle.plan_run.proofs.plan.plan_told.Goals as goal

pub returns-in_default-clause-planned : goal.returns-in_default-clause-planned
returns-in_default-clause-planned g c = planned_short g.S.Source.left g.S.Source.faults g.O.Sink.took g.O.Sink.faults c.args.source.now c.args.sink.now c.args.shape

pub returns-in_default-new-clause-planned : goal.returns-in_default-new-clause-planned
returns-in_default-new-clause-planned g c = planned_short g.S.Source.left g.S.Source.faults g.O.Sink.took g.O.Sink.faults c.args.source.now c.args.sink.now c.args.shape

pub returns-in_default-new-2-clause-planned : goal.returns-in_default-new-2-clause-planned
returns-in_default-new-2-clause-planned g c = planned_short g.S.Source.left g.S.Source.faults g.O.Sink.took g.O.Sink.faults c.args.source.now c.args.sink.now c.args.shape

pub returns-clause-planned : goal.returns-clause-planned
returns-clause-planned g c = planned_to _ g.O.Sink.took g.O.Sink.faults c.args.sink.now c.run_lines.new.sink c.args.shape c.in-Ok.plan _ _ c.run_lines.ensures c.in-Ok.ensures.book c.requires

pub returns-clause-unread : goal.returns-clause-unread
returns-clause-unread g c = λ is. absurd (never_short _ g.O.Sink.took g.O.Sink.faults c.args.sink.now c.run_lines.new.sink c.args.shape c.in-Ok.plan _ _ c.run_lines.ensures c.in-Ok.ensures.book is)

pub returns-clause-unwritten : goal.returns-clause-unwritten
returns-clause-unwritten g c = λ is. absurd (never_short _ g.O.Sink.took g.O.Sink.faults c.args.sink.now c.run_lines.new.sink c.args.shape c.in-Ok.plan _ _ c.run_lines.ensures c.in-Ok.ensures.book is)
