use Rattle.std.proofs.Common.{◌∙◌}
use Rattle.lease_tree.proofs.Joins.{are, found_body}
use Rattle.lease_tree.proofs.tree.Tree.get.Goals as goal

pub returns : goal.returns
returns g c =
    let i = c.self.inside in
    rw (← c.self.view_is) (c.get.ensures.value ∙ found_body c.args.path.now _ i.bodies.entries i.leases (are i.bodies.entries i.leases c.self.invariant))
