use Rattle.std.proofs.Common.{[], ◌∷◌}
use Rattle.far_io.proofs.Sends.{prefix_longer}
use Rattle.far_io.proofs.Faults.{on_error}
use Rattle.line_run.proofs.Writes.{then_all, then_prefix}
use Rattle.plan_run.proofs.audit_last.put_ended.Goals as goal

pub returns-in_err-put_all-clause-prefix : goal.returns-in_err-put_all-clause-prefix
returns-in_err-put_all-clause-prefix g c = on_error c.from_residual.result (prefix_longer g.O.Sink.took _ _ c.args.line.now (10 ∷ []) c.in_err-put_all.ensures.prefix)

pub returns-clause-all : goal.returns-clause-all
returns-clause-all g c = then_all g.O.Sink.took _ _ _ _ _ c.put_all-2.result c.in_ok-put_all.ensures.all c.put_all-2.ensures.all

pub returns-clause-prefix : goal.returns-clause-prefix
returns-clause-prefix g c = then_prefix g.O.Sink.took _ _ _ _ _ c.put_all-2.result c.in_ok-put_all.ensures.all c.put_all-2.ensures.prefix
