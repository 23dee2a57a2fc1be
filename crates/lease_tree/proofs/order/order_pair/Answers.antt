use Rattle.std.proofs.Common.{◌++◌, length, drop, sym, ap, ◌∙◌}
use Rattle.far_words.specs.Paths.{bytes_cmp}
use Rattle.lease_tree.proofs.Texts.{cmp-front, cmp-apart, begins-rest, rest_is}
use Rattle.lease_tree.proofs.order.order_pair.Goals as goal

pub returns-then-starts_with : goal.returns-then-starts_with
returns-then-starts_with c =
    let front = c.args.front.now in
    let name = c.args.name.now in
    let is = sym c.starts_with.ensures.value ∙ c.if-starts_with.true in
    c.cmp.ensures ∙ ap (bytes_cmp c.args.back.now) (rest_is (length front) name)
    ∙ sym (cmp-front front c.args.back.now (drop (length front) name))
    ∙ ap (bytes_cmp (front ++ c.args.back.now)) (sym (begins-rest front name is))

pub returns : goal.returns
returns c = c.cmp-2.ensures ∙ sym (cmp-apart c.args.front.now c.args.back.now c.args.name.now (sym c.starts_with.ensures.value ∙ c.if-starts_with.false))
