use Rattle.std.proofs.Common.{◌++◌, ◌∙◌, ap, arith}
use Rattle.std.specs.Prelude.{codes}
use Rattle.script_text.specs.Damages.{stamp_parts, stamp_text}
use Rattle.script_text.proofs.Joined.{colons_before}
use Rattle.script_text.proofs.damages.push_other.Goals as goal

pub returns-clause-text : goal.returns-clause-text
returns-clause-text c =
    let stamp = c.args.stamp.now in
    c.push_stamp.ensures.text ∙ ap (λ t. t ++ stamp_text stamp) c.push_all.ensures
    ∙ colons_before c.args.piece.now (codes "other") (stamp_parts stamp) (omega arith)
