use Rattle.std.proofs.Common.{[], ◌∷◌, ◌++◌, refl, ◌∙◌, ap, append_assoc}
use Rattle.script_text.proofs.outcome.push_before.Goals as goal

pub returns : goal.returns
returns c =
    let word = c.args.word.now in
    record { word = word; words_are = refl; put = c.push.ensures ∙ ap (λ t. t ++ 32 ∷ []) c.push_all.ensures ∙ append_assoc c.args.piece.now word (32 ∷ []) }
