use Rattle.std.proofs.Common.{◌≡◌, false, true, sym, ap, ◌∙◌}
use Rattle.std.specs.Option.{option_map}
use Rattle.lease_tree.specs.Edges.{text_of}
use Rattle.lease_tree.specs.Leases.{entry_of, first_wanted}
use Rattle.lease_tree.specs.Under.{is_past}
use Rattle.lease_tree.proofs.Found.{first-none, first-high, first-low, first-later, first-here, first-after}
use Rattle.lease_tree.proofs.Least.{least-top}
use Rattle.lease_tree.proofs.leases.Leases.+first.Goals as goal

pub returns-then-not-is_reached : goal.returns-then-not-is_reached
returns-then-not-is_reached t c =
    let top = c.in_ok-knot.ensures.some in
    sym (first-none (option_map text_of c.args.after) c.args.now c.args.self.now (sym (c.if-not-is_reached.ensures ∙ least-top c.args.self.now c.in_ok-knot.knot.now c.args.now top)))

pub returns-then-not-is_past : goal.returns-then-not-is_past
returns-then-not-is_past t c =
    let top = c.in_ok-knot.ensures.some in
    let knot = c.in_ok-knot.knot.now in
    let after = option_map text_of c.args.after in
    let past : is_past after knot.path ≡ false = sym (c.if-not-is_past.ensures ∙ ap (is_past after) c.bytes.ensures.value) in
    c.first.ensures ∙ sym (first-high after c.args.now knot.left (entry_of knot) knot.right top.tied.between.below past) ∙ ap (first_wanted after c.args.now) (sym top.is)

pub returns-in-Some : goal.returns-in-Some
returns-in-Some t c =
    let top = c.in_ok-knot.ensures.some in
    let knot = c.in_ok-knot.knot.now in
    let after = option_map text_of c.args.after in
    sym (ap (first_wanted after c.args.now) top.is ∙ first-low after c.args.now c.in-Some.path.now knot.left (entry_of knot) knot.right (sym c.in-Some.ensures))

pub returns-then-is_due : goal.returns-then-is_due
returns-then-is_due t c =
    let top = c.in_ok-knot.ensures.some in
    let knot = c.in_ok-knot.knot.now in
    let after = option_map text_of c.args.after in
    let past : is_past after knot.path ≡ true = sym (c.if-not-is_past.ensures ∙ ap (is_past after) c.bytes.ensures.value) in
    sym (ap (first_wanted after c.args.now) top.is
    ∙ first-later after c.args.now knot.left (entry_of knot) knot.right (sym c.in_default.ensures)
    ∙ first-here after c.args.now (entry_of knot) knot.right past (sym c.if-is_due.ensures))

pub returns : goal.returns
returns t c =
    let top = c.in_ok-knot.ensures.some in
    let knot = c.in_ok-knot.knot.now in
    let after = option_map text_of c.args.after in
    let past : is_past after knot.path ≡ true = sym (c.if-not-is_past.ensures ∙ ap (is_past after) c.bytes.ensures.value) in
    c.first-3.ensures
    ∙ sym (first-after after c.args.now (entry_of knot) knot.right past (sym c.if-is_due.ensures))
    ∙ sym (first-later after c.args.now knot.left (entry_of knot) knot.right (sym c.in_default.ensures))
    ∙ ap (first_wanted after c.args.now) (sym top.is)
