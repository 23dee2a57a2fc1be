use Rattle.std.proofs.lemmas.Result.{on_err_weaker}
use Rattle.far_io.proofs.Sends.{flush_failed}
use Rattle.far_io.proofs.escape.put_escaped.Goals as goal

pub returns-clause-prefix : goal.returns-clause-prefix
returns-clause-prefix g c =
    on_err_weaker c.flush.result (λ fault. flush_failed g.O.Sink.took _ _ _ _ _ _ c.new-piece.ensures c.in_ok-push_escaped.ensures.sends fault) c.flush.ensures.prefix
