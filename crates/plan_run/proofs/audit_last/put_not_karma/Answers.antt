use Rattle.quantum_text.specs.LineKind.{numbers_of}
use Rattle.plan_run.specs.AuditText.{wanted_text, read_text}
use Rattle.line_run.proofs.Writes.{then_prefix}
use Rattle.plan_run.proofs.audit_last.put_not_karma.Goals as goal

pub returns-clause-prefix : goal.returns-clause-prefix
returns-clause-prefix g c =
    then_prefix g.O.Sink.took _ _ _ (wanted_text c.args.number c.args.kind (numbers_of c.args.kind c.args.wanted.now)) (read_text c.args.line.now) c.put_read.result c.in_ok-put_wanted.ensures.all c.put_read.ensures.prefix
