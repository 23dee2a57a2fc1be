use Rattle.std.proofs.Common.{[], ◌∷◌, ◌++◌, map, ◌∙◌, ap}
use Rattle.std.specs.Fmt.{decimal}
use Rattle.script_text.specs.Words.{each_after}
use Rattle.script_text.specs.Damages.{digest_text}
use Rattle.script_text.proofs.Joined.{colons_each, colons_more}
use Rattle.script_text.proofs.damages.push_stamp.Goals as goal

pub returns-clause-text : goal.returns-clause-text
returns-clause-text c =
    let piece = c.args.piece.now in
    let stamp = c.args.stamp.now in
    let user = decimal stamp.user in
    let numbers = map decimal (stamp.block ∷ stamp.length ∷ []) in
    let begun = c.push_numbers.ensures.text ∙ ap (λ t. t ++ each_after 58 numbers) c.push_decimal.ensures.text ∙ colons_each piece user numbers in
    c.push_digest.ensures.text ∙ colons_more piece c.push_numbers.new.piece user (digest_text stamp.digest) numbers begun
