use Rattle.std.proofs.Common.{◌+◌, ◌++◌, sym, ◌∙◌, ap, arith}
use Rattle.far_drill.specs.Script.{ended, text_of}
use Rattle.far_drill.specs.Source.{lines_left}
use Rattle.far_drill.proofs.Lines.{next_first, next_drawn, none_left}
use Rattle.far_drill.proofs.script.push_next.Goals as goal

pub returns-then-place-lt-FIRST_LINES-clause-text : goal.returns-then-place-lt-FIRST_LINES-clause-text
returns-then-place-lt-FIRST_LINES-clause-text c =
    let place = c.args.place.now in
    let rest = text_of (lines_left (record place { first = place.first + 1 })) in
    next_first place (omega (arith, c.if-place-lt-FIRST_LINES.true)) ∙ ap (λ line. line ++ rest) (sym c.push_first.ensures)

pub returns-then-place-clause-text : goal.returns-then-place-clause-text
returns-then-place-clause-text c =
    let place = c.args.place.now in
    let rest = text_of (lines_left (record place { drawn = place.drawn + 1; state = c.step-place.result })) in
    next_drawn place (omega (arith, c.if-place-lt-FIRST_LINES.false)) c.step-place.result c.step-place.ensures (omega (arith, c.if-place.true))
    ∙ ap (λ line. line ++ rest) (sym (c.push.ensures ∙ ap ended c.push_act.ensures.text))

pub returns-else-place-clause-end : goal.returns-else-place-clause-end
returns-else-place-clause-end c = λ empty. none_left c.args.place.now (omega (arith, c.if-place-lt-FIRST_LINES.false)) (omega (arith, c.if-place.false))
