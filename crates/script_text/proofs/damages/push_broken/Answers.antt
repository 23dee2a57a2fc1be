use Rattle.std.proofs.Common.{◌++◌, ◌∙◌, ap}
use Rattle.std.specs.Prelude.{codes}
use Rattle.script_text.specs.Damages.{with_colons, fault_parts}
use Rattle.script_text.proofs.Joined.{colons_before}
use Rattle.script_text.proofs.Stamped.{fault_some}
use Rattle.script_text.proofs.damages.push_broken.Goals as goal

pub returns-clause-text : goal.returns-clause-text
returns-clause-text c =
    let fault = c.args.fault.now in
    c.push_fault.ensures.text ∙ ap (λ t. t ++ with_colons (fault_parts fault)) c.push_all.ensures
    ∙ colons_before c.args.piece.now (codes "broken") (fault_parts fault) (fault_some fault)
