use Rattle.std.proofs.Common.{◌≡◌, refl, sym, ◌∙◌, subst}
use Rattle.std.proofs.lemmas.Result.{err_from_is_err_and}
use Rattle.quantum_text.specs.Shares.{roster_of}
use Rattle.quantum_text.specs.Block.{Numbers, IsNoLineOf}
use Rattle.quantum_text.proofs.NextLine.{none_read, line_outside, no_line_of, first_kind, kind_first}
use Rattle.quantum_text.proofs.read.read_kind.Goals as goal

pub returns-in_err-take_line-clause-read : goal.returns-in_err-take_line-clause-read
returns-in_err-take_line-clause-read g c = λ agrees shape.
    let p = err_from_is_err_and c.from_residual.result c.from_residual.ensures.1 in
    rw (p.1, p.2)
    (none_read _ _ shape c.is_first.result _ _ c.args.out.now (λ line. line ≡ Numbers c.args.kind) c.in_err-take_line.field-0.0
    (λ first. first_kind c.args.kind (sym c.is_first.ensures ∙ first)) (λ same. c.is_first.ensures ∙ kind_first c.args.kind same) (c.in_err-take_line.ensures.none agrees))

pub returns-then-not-parse_block_line-clause-read : goal.returns-then-not-parse_block_line-clause-read
returns-then-not-parse_block_line-clause-read g c = λ agrees shape.
    let out = c.args.out.now in
    rw c.is_bad.ensures
    (line_outside shape _ _ _ _ out c.parse_block_line.new.report _ c.in_ok-take_line.ensures.taken c.bytes.ensures (λ line. line ≡ Numbers c.args.kind) _
    (λ next is. subst (λ line. IsNoLineOf shape (roster_of out) line c.bytes.result.now) (sym is) (no_line_of shape out c.args.kind c.bytes.result.now c.if-not-parse_block_line.ensures.bad))
    c.if-not-parse_block_line.ensures.kept refl)
