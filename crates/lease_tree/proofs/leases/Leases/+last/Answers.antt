use Rattle.std.proofs.Common.{◌≡◌, true, sym, ap, ◌∙◌}
use Rattle.std.specs.Ordering.{is_lt}
use Rattle.far_words.specs.Paths.{bytes_cmp}
use Rattle.lease_tree.specs.Edges.{text_of}
use Rattle.lease_tree.specs.Under.{is_before}
use Rattle.lease_tree.specs.Leases.{entry_of, last_before}
use Rattle.lease_tree.proofs.Found.{last-low, last-high, last-here}
use Rattle.lease_tree.proofs.Puts.{greater_back}
use Rattle.lease_tree.proofs.Texts.{before_else}
use Rattle.lease_tree.proofs.leases.Leases.+last.Goals as goal

pub returns-in-Some : goal.returns-in-Some
returns-in-Some t c =
    let top = c.in_ok-knot.ensures.some in
    let knot = c.in_ok-knot.knot.now in
    sym (ap (last_before (text_of c.args.edge)) top.is ∙ last-high (text_of c.args.edge) c.in-Some.path.now knot.left (entry_of knot) knot.right (sym c.in-Some.ensures))

pub returns-in-None : goal.returns-in-None
returns-in-None t c =
    let top = c.in_ok-knot.ensures.some in
    let knot = c.in_ok-knot.knot.now in
    let text = text_of c.args.edge in
    let greater = sym (c.in-Greater.ensures ∙ ap (bytes_cmp text) c.bytes.ensures.value) in
    let before : is_before text knot.path ≡ true = ap is_lt (greater_back text knot.path greater) in
    sym (ap (last_before text) top.is ∙ last-here text knot.left (entry_of knot) knot.right (sym c.in-None.ensures) before)

pub returns-in_default : goal.returns-in_default
returns-in_default t c =
    let top = c.in_ok-knot.ensures.some in
    let knot = c.in_ok-knot.knot.now in
    let text = text_of c.args.edge in
    let before = before_else text knot.path c.order.result c.in_default.not-Greater (c.order.ensures ∙ ap (bytes_cmp text) c.bytes.ensures.value) in
    c.last-in_default.ensures ∙ sym (last-low text knot.left (entry_of knot) knot.right top.tied.between.above before) ∙ ap (last_before text) (sym top.is)
