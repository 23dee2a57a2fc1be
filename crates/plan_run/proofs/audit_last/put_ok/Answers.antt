use Rattle.std.proofs.Common.{◌≡◌, ℕ, List, [], ◌∷◌, ◌++◌, codes, decimal, OnOk, OnErr, ap, subst, ◌∙◌}
use Rattle.far_io.specs.Adds.{Adds, AddsPrefix}
use Rattle.plan_run.specs.AuditText.{ok_line}
use Rattle.plan_run.proofs.audit_last.put_ok.Goals as goal

ok_line_is : (blocks : ℕ) (one two three four : List ℕ) → one ≡ [] → two ≡ one ++ codes "ok " → three ≡ two ++ decimal blocks → four ≡ three ++ 10 ∷ [] → four ≡ ok_line blocks
unfolding ok_line
ok_line_is blocks one two three four a b c d = d ∙ ap (λ t. t ++ 10 ∷ []) (c ∙ ap (λ t. t ++ decimal blocks) (b ∙ ap (λ t. t ++ codes "ok ") a))

pub returns-clause-all : goal.returns-clause-all
returns-clause-all g c =
    subst (λ text. OnOk c.flush.result (Adds g.O.Sink.took c.args.sink.now c.flush.new.sink text)) (ok_line_is c.args.blocks _ _ _ _ c.new-piece.ensures c.push_all.ensures c.push_decimal.ensures.text c.push.ensures) c.flush.ensures.all

pub returns-clause-prefix : goal.returns-clause-prefix
returns-clause-prefix g c =
    subst (λ text. OnErr c.flush.result (AddsPrefix g.O.Sink.took c.args.sink.now c.flush.new.sink text)) (ok_line_is c.args.blocks _ _ _ _ c.new-piece.ensures c.push_all.ensures c.push_decimal.ensures.text c.push.ensures) c.flush.ensures.prefix
