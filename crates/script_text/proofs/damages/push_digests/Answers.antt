use Rattle.std.proofs.Common.{ℕ, List, [], ◌∷◌, ◌++◌, sym, ◌∙◌, ap}
use Rattle.std.specs.Prelude.{codes}
use Rattle.script_text.specs.Damages.{digest_text}
use Rattle.script_text.proofs.Joined.{colons_one, colons_more}
use Rattle.script_text.proofs.damages.push_digests.Goals as goal

pub returns-clause-text : goal.returns-clause-text
returns-clause-text c =
    let piece = c.args.piece.now in
    let kept = digest_text c.args.kept.now in
    let found = digest_text c.args.found.now in
    let word : List ℕ = codes "digest" in
    let begun = c.push_all.ensures ∙ ap (λ t. piece ++ t) (sym (colons_one word)) in
    let first = c.push_digest.ensures.text ∙ colons_more piece c.push_all.new.self word kept [] begun in
    c.push_digest-2.ensures.text ∙ colons_more piece c.push_digest.new.piece word found (kept ∷ []) first
