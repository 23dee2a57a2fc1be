use Rattle.std.proofs.lemmas.Result.{on_err_weaker}
use Rattle.far_io.proofs.Sends.{flush_failed}
use Rattle.script_text.proofs.Cutting.{outcome_text_injective, outcome_line}
use Rattle.script_text.proofs.outcome.write_outcome.Goals as goal

pub returns-clause-prefix : goal.returns-clause-prefix
returns-clause-prefix g c =
    on_err_weaker c.flush.result (λ fault. flush_failed g.O.Sink.took _ _ _ _ _ _ c.new-piece.ensures c.in_ok-put_outcome.ensures.sends fault) c.flush.ensures.prefix

pub returns-clause-one_spelling : goal.returns-clause-one_spelling
returns-clause-one_spelling g c = outcome_text_injective

pub returns-clause-one_line : goal.returns-clause-one_line
returns-clause-one_line g c = outcome_line

pub returns-in_err-put_outcome-clause-one_spelling : goal.returns-in_err-put_outcome-clause-one_spelling
returns-in_err-put_outcome-clause-one_spelling g c = outcome_text_injective

pub returns-in_err-put_outcome-clause-one_line : goal.returns-in_err-put_outcome-clause-one_line
returns-in_err-put_outcome-clause-one_line g c = outcome_line
