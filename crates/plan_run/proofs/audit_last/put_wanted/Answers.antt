use Rattle.std.proofs.Common.{◌≡◌, ℕ, List, [], ◌∷◌, ◌++◌, codes, decimal, OnOk, OnErr, ap, subst, ◌∙◌}
use Rattle.far_io.specs.Adds.{Adds, AddsPrefix}
use Rattle.quantum_text.specs.declared.line_kind.LineKind.{LineKind}
use Rattle.quantum_text.specs.Block.{ended_line}
use Rattle.far_io.proofs.Faults.{on_error}
use Rattle.plan_run.specs.AuditText.{wanted_text}
use Rattle.line_run.proofs.Writes.{sent_all, sent_prefix}
use Rattle.plan_run.proofs.audit_last.put_wanted.Goals as goal

wanted_text_is : (number : ℕ) (kind : LineKind) (wanted one two three four : List ℕ) → one ≡ [] → two ≡ one ++ codes "not karma line " → three ≡ two ++ decimal number → four ≡ three ++ (10 ∷ codes "want ")
    → four ++ ended_line kind wanted ≡ wanted_text number kind wanted
unfolding wanted_text
wanted_text_is number kind wanted one two three four a b c d =
    ap (λ t. t ++ ended_line kind wanted) (d ∙ ap (λ t. t ++ (10 ∷ codes "want ")) (c ∙ ap (λ t. t ++ decimal number) (b ∙ ap (λ t. t ++ codes "not karma line ") a)))

pub returns-in_err-put_block_line-clause-prefix : goal.returns-in_err-put_block_line-clause-prefix
returns-in_err-put_block_line-clause-prefix g c =
    let P : List ℕ → Type 0 = AddsPrefix g.O.Sink.took c.args.sink.now c.put_block_line.new.sink in
    on_error c.from_residual.result
    (subst P (wanted_text_is c.args.number c.args.kind _ _ _ _ _ c.new-piece.ensures c.push_all.ensures c.push_decimal.ensures.text c.push_all-2.ensures) c.in_err-put_block_line.ensures.prefix)

pub returns-clause-all : goal.returns-clause-all
returns-clause-all g c =
    let P : List ℕ → Type 0 = λ text. OnOk c.flush.result (Adds g.O.Sink.took c.args.sink.now c.flush.new.sink text) in
    subst P (wanted_text_is c.args.number c.args.kind _ _ _ _ _ c.new-piece.ensures c.push_all.ensures c.push_decimal.ensures.text c.push_all-2.ensures)
    (sent_all g.O.Sink.took _ _ _ _ _ _ c.flush.result c.in_ok-put_block_line.ensures.sends c.flush.ensures.all)

pub returns-clause-prefix : goal.returns-clause-prefix
returns-clause-prefix g c =
    let P : List ℕ → Type 0 = λ text. OnErr c.flush.result (AddsPrefix g.O.Sink.took c.args.sink.now c.flush.new.sink text) in
    subst P (wanted_text_is c.args.number c.args.kind _ _ _ _ _ c.new-piece.ensures c.push_all.ensures c.push_decimal.ensures.text c.push_all-2.ensures)
    (sent_prefix g.O.Sink.took _ _ _ _ _ _ c.flush.result c.in_ok-put_block_line.ensures.sends c.flush.ensures.prefix)
