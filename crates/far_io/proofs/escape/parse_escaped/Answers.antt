use Rattle.std.proofs.Common.{◌-◌, ◌<◌, ◌++◌, length, take, drop, Some, None, sym, ◌∙◌, ap, subst, take-append-drop, arith}
use Rattle.std.specs.List.{flat_map}
use Rattle.std.proofs.lemmas.Bool.{iff_false}
use Rattle.std.proofs.lemmas.List.{take_all, take_rest, length-drop}
use Rattle.std.proofs.lemmas.List.Elements.{All-push}
use Rattle.far_io.specs.Escapes.{escaped_byte, escaped, AreBytes}
use Rattle.far_io.proofs.Escapes.{escaped_none, empty_is_no_escape, stops_here, read_back, front_more, front_within, whole_spelled}
use Rattle.far_io.proofs.escape.parse_escaped.Goals as goal

pub returns-then-is_empty-clause-none : goal.returns-then-is_empty-clause-none
returns-then-is_empty-clause-none c = empty_is_no_escape _ (grind (arith, c.is_empty.ensures, c.if-is_empty.true))

pub returns-then-is_empty-clause-one_spelling : goal.returns-then-is_empty-clause-one_spelling
returns-then-is_empty-clause-one_spelling c = read_back c.args.text.now None tt (returns-then-is_empty-clause-none c)

pub returns-then-is_percent-clause-spelled : goal.returns-then-is_percent-clause-spelled
returns-then-is_percent-clause-spelled c = c.is_percent.ensures.0 c.if-is_percent.true ∙ sym escaped_none ∙ ap escaped (sym c.new.ensures)

pub returns-then-is_percent-clause-one_spelling : goal.returns-then-is_percent-clause-one_spelling
returns-then-is_percent-clause-one_spelling c = read_back c.args.text.now (Some c.new.result) (returns-then-is_percent-clause-spelled c) tt

pub returns-in_default-clause-none : goal.returns-in_default-clause-none
returns-in_default-clause-none c =
    let text = c.args.text.now in
    let at = c.loop-at.at in
    let is_rest = take_rest text at in
    stops_here text c.loop-at.bytes (take (length text - at) (drop at text)) (λ same. iff_false c.is_percent.ensures c.if-is_percent.false same)
    (sym (take-append-drop at text) ∙ ap (λ t. t ++ drop at text) c.loop-at.invariant.front ∙ ap (λ t. flat_map escaped_byte c.loop-at.bytes ++ t) (sym is_rest))
    (omega (arith, ap length is_rest, length-drop at text, c.loop-at-test.true)) c.in_default.ensures.none

pub returns-in_default-clause-one_spelling : goal.returns-in_default-clause-one_spelling
returns-in_default-clause-one_spelling c = read_back c.args.text.now None tt (returns-in_default-clause-none c)

pub loop-at-preserved : goal.loop-at-preserved
loop-at-preserved c =
    let text = c.args.text.now in
    let at = c.loop-at.at in
    let all = c.loop-at.invariant in
    let next = sym (take_rest text at) ∙ c.in-Some.ensures.front in
    let grown = c.in_ok-push.ensures.ok in
    let within = front_within text _ at c.in-Some.count c.in-Some.byte all.within next c.in-Some.ensures.length in
    record {
      front = front_more text c.loop-at.bytes _ at c.in-Some.count c.in-Some.byte all.front next c.in-Some.ensures.length ∙ ap (flat_map escaped_byte) (sym grown);
      bytes = subst AreBytes (sym grown) (All-push (λ b. b < 256) c.loop-at.bytes c.in-Some.byte all.bytes c.in-Some.ensures.byte);
      within = within.0;
    }

pub returns-clause-spelled : goal.returns-clause-spelled
returns-clause-spelled c =
    let text = c.args.text.now in
    let some : 0 < length text = grind (arith, c.is_empty.ensures, c.if-is_empty.false) in
    whole_spelled text c.loop-at.bytes some (sym (take_all c.loop-at.at text c.loop-at-test.false) ∙ c.loop-at.invariant.front)

pub returns-clause-one_spelling : goal.returns-clause-one_spelling
returns-clause-one_spelling c = read_back c.args.text.now (Some c.loop-at.bytes) (returns-clause-spelled c) tt
