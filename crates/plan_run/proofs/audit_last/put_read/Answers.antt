use Rattle.std.proofs.Common.{[], ◌∷◌, ◌++◌, codes}
use Rattle.far_io.proofs.Sends.{prefix_longer}
use Rattle.far_io.proofs.Faults.{on_error}
use Rattle.plan_run.specs.AuditText.{read_text}
use Rattle.line_run.proofs.Writes.{then_all, then_prefix}
use Rattle.plan_run.proofs.audit_last.put_read.Goals as goal

pub returns-in_err-put_all-clause-prefix : goal.returns-in_err-put_all-clause-prefix
unfolding read_text
returns-in_err-put_all-clause-prefix g c = on_error c.from_residual.result (prefix_longer g.O.Sink.took _ _ (codes "read ") (c.args.line.now ++ 10 ∷ []) c.in_err-put_all.ensures.prefix)

pub returns-clause-all : goal.returns-clause-all
unfolding read_text
returns-clause-all g c = then_all g.O.Sink.took _ _ _ (codes "read ") (c.args.line.now ++ 10 ∷ []) c.put_ended.result c.in_ok-put_all.ensures.all c.put_ended.ensures.all

pub returns-clause-prefix : goal.returns-clause-prefix
unfolding read_text
returns-clause-prefix g c = then_prefix g.O.Sink.took _ _ _ (codes "read ") (c.args.line.now ++ 10 ∷ []) c.put_ended.result c.in_ok-put_all.ensures.all c.put_ended.ensures.prefix
