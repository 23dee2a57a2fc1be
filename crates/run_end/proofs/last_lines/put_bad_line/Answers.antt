use Rattle.std.proofs.Common.{◌≡◌, ℕ, List, [], ◌∷◌, ◌++◌, codes, decimal, OnOk, OnErr, ap, subst, ◌∙◌}
use Rattle.far_io.specs.Adds.{Adds, AddsPrefix}
use Rattle.run_end.specs.LastLines.{bad_line}
use Rattle.run_end.proofs.last_lines.put_bad_line.Goals as goal

bad_line_is : (number : ℕ) (one two three four : List ℕ) → one ≡ [] → two ≡ one ++ codes "bad line " → three ≡ two ++ decimal number → four ≡ three ++ 10 ∷ [] → four ≡ bad_line number
unfolding bad_line
bad_line_is number one two three four a b c d = d ∙ ap (λ t. t ++ 10 ∷ []) (c ∙ ap (λ t. t ++ decimal number) (b ∙ ap (λ t. t ++ codes "bad line ") a))

pub returns-clause-all : goal.returns-clause-all
returns-clause-all g c =
    subst (λ text. OnOk c.flush.result (Adds g.O.Sink.took c.args.sink.now c.flush.new.sink text)) (bad_line_is c.args.number _ _ _ _ c.new-piece.ensures c.push_all.ensures c.push_decimal.ensures.text c.push.ensures) c.flush.ensures.all

pub returns-clause-prefix : goal.returns-clause-prefix
returns-clause-prefix g c =
    subst (λ text. OnErr c.flush.result (AddsPrefix g.O.Sink.took c.args.sink.now c.flush.new.sink text)) (bad_line_is c.args.number _ _ _ _ c.new-piece.ensures c.push_all.ensures c.push_decimal.ensures.text c.push.ensures) c.flush.ensures.prefix
