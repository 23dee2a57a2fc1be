use Rattle.std.proofs.Common.{refl, sym, ◌∙◌, length, subst}
use mathlib.Core.Bool.{false≢true}
use Rattle.std.proofs.lemmas.Result.{err_from_is_err_and}
use Rattle.demand_book.specs.declared.report.Report.{Report}
use Rattle.quantum_text.specs.declared.line_kind.LineKind.TheVariants.{Demand}
use Rattle.quantum_text.specs.Shares.{roster_of}
use Rattle.quantum_text.specs.Block.{IsNoLine, IsNoLineOf}
use Rattle.quantum_text.specs.Reading.{IsSecond}
use Rattle.quantum_text.proofs.NextLine.{none_read, line_outside, not_second, second_none}
use Rattle.quantum_text.proofs.read.read_second.Goals as goal

pub returns-in_err-take_line-clause-read : goal.returns-in_err-take_line-clause-read
returns-in_err-take_line-clause-read g c = λ agrees.
    let p = err_from_is_err_and c.from_residual.result c.from_residual.ensures.1 in
    rw (p.1, p.2)
    (none_read _ _ c.args.shape _ _ _ c.args.out.now IsSecond c.in_err-take_line.field-0.0 (λ first. absurd (false≢true first)) (λ due. absurd (not_second due.0 due.1)) (c.in_err-take_line.ensures.none agrees))

pub returns-then-not-parse_block_line-clause-read : goal.returns-then-not-parse_block_line-clause-read
returns-then-not-parse_block_line-clause-read g c = λ agrees.
    let out = c.args.out.now in
    let line = c.bytes.result.now in
    let same = c.if-parse_shares_line.ensures.kept in
    let no_demand : IsNoLine Demand (length out.rows) line =
    subst (λ (r : Report). IsNoLine Demand (length r.rows) line) same
    (subst (IsNoLine Demand (length c.parse_shares_line.new.report.rows)) (c.bytes-2.ensures ∙ sym c.bytes.ensures) c.if-not-parse_block_line.ensures.bad) in
    rw c.is_bad.ensures
    (line_outside c.args.shape _ _ _ _ out c.parse_block_line.new.report line c.in_ok-take_line.ensures.taken c.bytes.ensures IsSecond _
    (λ next due. subst (λ l. IsNoLineOf c.args.shape (roster_of out) l line) (sym due.1) (second_none c.args.shape out line due.0 c.if-parse_shares_line.ensures.bad no_demand))
    (c.if-not-parse_block_line.ensures.kept ∙ same) refl)
