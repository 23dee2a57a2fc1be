use Rattle.std.proofs.Common.{[], ◌∷◌, ◌++◌, ◌∙◌, ap}
use Rattle.script_text.specs.Damages.{stamp_text, found_text}
use Rattle.script_text.proofs.Joined.{ended_damage}
use Rattle.script_text.proofs.damages.push_damage.Goals as goal

pub returns : goal.returns
returns c =
    let stamp = stamp_text c.args.kept.now in
    let found = found_text c.args.found.now in
    c.push-2.ensures ∙ ap (λ t. t ++ 10 ∷ []) (c.push_found.ensures.text ∙ ap (λ t. t ++ found) (c.push.ensures ∙ ap (λ t. t ++ 32 ∷ [])
    (c.push_stamp.ensures.text ∙ ap (λ t. t ++ stamp) c.push_all.ensures)))
    ∙ ended_damage c.args.piece.now stamp found
