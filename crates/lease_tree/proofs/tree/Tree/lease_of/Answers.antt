use Rattle.std.proofs.Common.{◌≡◌, refl, ap, ◌∙◌, Some, None}
use Rattle.std.specs.declared.option.Option.{Option}
use Rattle.std.specs.Option.{option_map}
use Rattle.lease_tree.specs.declared.lease.Lease.{Lease}
use Rattle.lease_tree.specs.Names.{Leased, lease_of}
use Rattle.lease_tree.proofs.Joins.{are, found_lease}
use Rattle.lease_tree.proofs.tree.Tree.lease_of.Goals as goal

-- the end of a name's lease
end_of : {B : Type 0} (o : Option (Leased B)) → option_map (λ (lease : Lease). lease.end) (option_map lease_of o) ≡ option_map (λ (name : Leased B). name.end) o
end_of None = refl
end_of (Some name) = refl

pub returns-in-None : goal.returns-in-None
returns-in-None g c =
    let i = c.self.inside in
    rw (← c.self.view_is)
    (ap (option_map (λ (lease : Lease). lease.end)) (c.in-None.ensures ∙ found_lease c.args.path.now _ i.bodies.entries i.leases (are i.bodies.entries i.leases c.self.invariant)) ∙ end_of _)

pub returns-in-Some : goal.returns-in-Some
returns-in-Some g c =
    let i = c.self.inside in
    rw (← c.self.view_is)
    (ap (option_map (λ (lease : Lease). lease.end)) (c.in-Some.ensures ∙ found_lease c.args.path.now _ i.bodies.entries i.leases (are i.bodies.entries i.leases c.self.invariant)) ∙ end_of _)
