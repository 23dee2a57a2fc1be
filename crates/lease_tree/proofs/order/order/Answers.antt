use Rattle.std.proofs.Common.{List, ◌++◌, ℕ, length, drop, sym, ap, append_assoc, ◌∙◌}
use Rattle.far_words.specs.Paths.{bytes_cmp}
use Rattle.lease_tree.proofs.Texts.{cmp-front, cmp-apart, begins-rest, rest_is}
use Rattle.lease_tree.proofs.order.order.Goals as goal

pub returns-then-starts_with : goal.returns-then-starts_with
returns-then-starts_with c =
    let front = c.args.edge.front.now in
    let more = c.args.edge.middle.now ++ c.args.edge.back.now in
    let name = c.args.name.now in
    let is = sym c.starts_with.ensures.value ∙ c.if-starts_with.true in
    c.order_pair.ensures ∙ ap (bytes_cmp more) (rest_is (length front) name)
    ∙ sym (cmp-front front more (drop (length front) name))
    ∙ ap (bytes_cmp (front ++ more)) (sym (begins-rest front name is))
    ∙ ap (λ (text : List ℕ). bytes_cmp text name) (sym (append_assoc front c.args.edge.middle.now c.args.edge.back.now))

pub returns : goal.returns
returns c =
    let front = c.args.edge.front.now in
    let name = c.args.name.now in
    c.cmp.ensures
    ∙ sym (cmp-apart front (c.args.edge.middle.now ++ c.args.edge.back.now) name (sym c.starts_with.ensures.value ∙ c.if-starts_with.false))
    ∙ ap (λ (text : List ℕ). bytes_cmp text name) (sym (append_assoc front c.args.edge.middle.now c.args.edge.back.now))
