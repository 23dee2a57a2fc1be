use Rattle.std.proofs.Common.{◌∙◌}
use Rattle.std.proofs.lemmas.Result.{err_from_is_err_and, on_ok_weaker}
use Rattle.quantum_text.specs.Block.{block_lines}
use Rattle.quantum_text.proofs.Blocks.{slices_read, slices_end, block_read, same_end, counted_block}
use Rattle.quantum_text.proofs.Again.{read_again}
use Rattle.quantum_text.proofs.read.read_report.Goals as goal

pub returns-in_err-read_first-clause-read : goal.returns-in_err-read_first-clause-read
returns-in_err-read_first-clause-read g c = λ agrees.
    let p = err_from_is_err_and c.from_residual.result c.from_residual.ensures.1 in
    rw (p.1, p.2) (same_end _ c.args.shape _ _ c.args.out.now _ _ c.in_err-read_first.field-0.0 (c.in_err-read_first.ensures.read agrees))

pub returns-in_err-read_first-clause-one_spelling : goal.returns-in_err-read_first-clause-one_spelling
returns-in_err-read_first-clause-one_spelling g c = λ agrees.
    read_again _ c.args.shape c.args.line.now.number _ _ _ _ c.from_residual.result (returns-in_err-read_first-clause-read g c agrees)

pub returns-in_err-read_kind-clause-read : goal.returns-in_err-read_kind-clause-read
returns-in_err-read_kind-clause-read g c = λ agrees.
    let p = err_from_is_err_and c.from_residual-in_err-read_kind.result c.from_residual-in_err-read_kind.ensures.1 in
    rw (p.1, p.2)
    (slices_end _ c.args.shape _ _ c.args.out.now _ _ c.read_first.new.out.changed block_lines _ _ _ _ c.in_err-read_kind.field-0.0 c.in_ok-read_first.ensures.limit c.in_ok-read_first.ensures.number
    (c.in_ok-read_first.ensures.read agrees) (c.in_err-read_kind.ensures.read (c.in_ok-read_first.ensures.agrees agrees) c.args.shape))

pub returns-in_err-read_kind-clause-one_spelling : goal.returns-in_err-read_kind-clause-one_spelling
returns-in_err-read_kind-clause-one_spelling g c = λ agrees.
    read_again _ c.args.shape c.args.line.now.number _ _ _ _ c.from_residual-in_err-read_kind.result (returns-in_err-read_kind-clause-read g c agrees)

pub returns-clause-read : goal.returns-clause-read
returns-clause-read g c = λ agrees.
    let agrees_on = c.in_ok-read_first.ensures.agrees agrees in
    let slices = slices_read _ c.args.shape c.args.line.now.number _ c.args.out.now _ _ c.read_first.new.out.changed _ _ _ c.in_ok-read_first.ensures.limit (c.in_ok-read_first.ensures.read agrees)
    (c.in_ok-read_kind.ensures.read agrees_on c.args.shape) in
    block_read _ c.args.shape _ _ c.args.out.now _ _ _ _ c.read_first.new.out.changed _ _ _ c.read_kind-2.result (c.in_ok-read_kind.ensures.limit ∙ c.in_ok-read_first.ensures.limit) c.in_ok-read_first.ensures.number
    c.in_ok-read_kind.ensures.number slices (c.read_kind-2.ensures.read (c.in_ok-read_kind.ensures.agrees agrees_on) c.args.shape)

pub returns-clause-one_spelling : goal.returns-clause-one_spelling
returns-clause-one_spelling g c = λ agrees.
    read_again _ c.args.shape c.args.line.now.number _ _ _ _ c.read_kind-2.result (returns-clause-read g c agrees)

pub returns-clause-number : goal.returns-clause-number
returns-clause-number g c =
    on_ok_weaker c.read_kind-2.result
    (λ counted. counted_block c.read_first.new.out.changed _ c.args.line.now.number _ _ _ (c.read_kind-2.ensures.changed ∙ c.in_ok-read_kind.ensures.changed) c.in_ok-read_first.ensures.number c.in_ok-read_kind.ensures.number counted)
    c.read_kind-2.ensures.number
