use Rattle.std.proofs.Common.{ℕ, nat_eq, List, length, sym, ap, ◌∙◌, [], ◌∷◌}
use Rattle.std.specs.List.{starts_with}
use Rattle.far_words.specs.Paths.{slash}
use Rattle.lease_tree.proofs.Texts.{begins-more, begins-less, rest_is}
use Rattle.lease_tree.proofs.order.is_under.Goals as goal

pub returns-then-starts_with : goal.returns-then-starts_with
returns-then-starts_with c =
    let path = c.args.path.now in
    let name = c.args.name.now in
    let is = sym c.starts_with.ensures.value ∙ c.if-starts_with.true in
    c.starts_with-then-starts_with.ensures.value
    ∙ ap (λ (text : List ℕ). starts_with nat_eq text (slash ∷ [])) (rest_is (length path) name)
    ∙ sym (begins-more path (slash ∷ []) name is)

pub returns-else-starts_with : goal.returns-else-starts_with
returns-else-starts_with c =
    c.if-starts_with.false
    ∙ sym (begins-less c.args.path.now (slash ∷ []) c.args.name.now (sym c.starts_with.ensures.value ∙ c.if-starts_with.false))
