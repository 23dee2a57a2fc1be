use Rattle.std.proofs.Common.{refl}
use Rattle.lease_tree.specs.Under.{is_same}
use Rattle.lease_tree.specs.Leases.{changed}
use Rattle.lease_tree.specs.Trees.{settled}
use Rattle.lease_tree.specs.declared.lease.Change.TheVariants.{Settle}
use Rattle.lease_tree.proofs.Joins.{are, are_changed, of_same, joined_are}
use Rattle.lease_tree.proofs.tree.Tree.settle.Goals as goal

pub invariant_of-self : goal.invariant_of-self
invariant_of-self g c =
    let i = c.self.inside in
    of_same _ _ _ (are_changed (is_same c.args.path.now) (changed Settle) settled (λ name. refl) (λ name. refl) _ i.bodies.entries i.leases c.change.new.self (are i.bodies.entries i.leases c.self.invariant) c.change.ensures)

pub returns : goal.returns
returns g c =
    let i = c.self.inside in
    rw (← c.self.view_is)
    (joined_are _ _ _ (are_changed (is_same c.args.path.now) (changed Settle) settled (λ name. refl) (λ name. refl) _ i.bodies.entries i.leases c.change.new.self (are i.bodies.entries i.leases c.self.invariant) c.change.ensures))
