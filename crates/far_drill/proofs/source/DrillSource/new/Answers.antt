use Rattle.std.proofs.Common.{◌≡◌, ℕ, ◌-◌, List, [], ◌++◌, ◌∙◌, ap, arith}
use Rattle.far_drill.specs.Script.{made_lines, drawn_lines, drill_text, text_of}
use Rattle.far_drill.specs.Source.{DrillSourceView}
use Rattle.far_drill.proofs.source.DrillSource.new.Goals as goal

pub returns : goal.returns
unfolding drill_text
returns c =
    let count : c.args.size - 0 ≡ c.args.size = omega arith in
    let left : List ℕ → ℕ → DrillSourceView = λ piece more. record { left = piece ++ text_of (made_lines 0 12 ++ drawn_lines c.args.start 0 more) } in
    ap (λ piece. left piece (c.args.size - 0)) c.new.ensures ∙ ap (left []) count
