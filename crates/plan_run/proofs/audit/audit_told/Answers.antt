use Rattle.plan_run.proofs.Audited.{audited_to, audited_short, never_short}
use Rattle.plan_run.proofs.audit.audit_told.Goals as goal

pub returns-in_default-clause-audited : goal.returns-in_default-clause-audited
returns-in_default-clause-audited g c = audited_short g.S.Source.left g.S.Source.faults g.O.Sink.took g.O.Sink.faults c.args.source.now c.args.sink.now c.args.shape

pub returns-in_default-new-clause-audited : goal.returns-in_default-new-clause-audited
returns-in_default-new-clause-audited g c = audited_short g.S.Source.left g.S.Source.faults g.O.Sink.took g.O.Sink.faults c.args.source.now c.args.sink.now c.args.shape

pub returns-in_default-new-2-clause-audited : goal.returns-in_default-new-2-clause-audited
returns-in_default-new-2-clause-audited g c = audited_short g.S.Source.left g.S.Source.faults g.O.Sink.took g.O.Sink.faults c.args.source.now c.args.sink.now c.args.shape

pub returns-clause-audited : goal.returns-clause-audited
returns-clause-audited g c = audited_to _ g.O.Sink.took g.O.Sink.faults c.args.sink.now c.run_lines.new.sink c.args.shape c.in-Ok.audit _ _ c.run_lines.ensures c.in-Ok.ensures.state c.requires

pub returns-clause-unread : goal.returns-clause-unread
returns-clause-unread g c = λ is. absurd (never_short _ g.O.Sink.took g.O.Sink.faults c.args.sink.now c.run_lines.new.sink c.args.shape c.in-Ok.audit _ _ c.run_lines.ensures c.in-Ok.ensures.state is)

pub returns-clause-unwritten : goal.returns-clause-unwritten
returns-clause-unwritten g c = λ is. absurd (never_short _ g.O.Sink.took g.O.Sink.faults c.args.sink.now c.run_lines.new.sink c.args.shape c.in-Ok.audit _ _ c.run_lines.ensures c.in-Ok.ensures.state is)
