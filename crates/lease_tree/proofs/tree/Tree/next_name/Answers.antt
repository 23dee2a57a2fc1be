use Rattle.std.proofs.Common.{ℕ, List, ap, ◌∙◌, Some, None}
use Rattle.std.specs.declared.option.Option.{Option}
use Rattle.std.specs.Option.{option_copied}
use Rattle.lease_tree.specs.Leases.{first_wanted}
use Rattle.lease_tree.proofs.Joins.{are_seen}
use Rattle.lease_tree.proofs.Next.{next_is}
use Rattle.lease_tree.proofs.tree.Tree.next_name.Goals as goal

pub returns : goal.returns
returns g c =
    let i = c.self.inside in
    let a = are_seen c.args.self.now i.bodies.entries i.leases c.self.view_is c.self.invariant in
    ap Some c.copy.ensures
    ∙ c.in_ok-first.ensures
    ∙ ap (λ (after : Option (List ℕ)). first_wanted after None i.leases) c.past.ensures
    ∙ next_is c.args.self.now i.bodies.entries i.leases a (option_copied c.args.after)

pub returns-in_err-first : goal.returns-in_err-first
returns-in_err-first g c =
    let i = c.self.inside in
    let a = are_seen c.args.self.now i.bodies.entries i.leases c.self.view_is c.self.invariant in
    c.from_residual.ensures
    ∙ c.in_err-first.ensures
    ∙ ap (λ (after : Option (List ℕ)). first_wanted after None i.leases) c.past.ensures
    ∙ next_is c.args.self.now i.bodies.entries i.leases a (option_copied c.args.after)
