use Rattle.lease_tree.proofs.Joins.{are_seen}
use Rattle.lease_tree.proofs.Dropped.{IsDropped, dropped}
use Rattle.lease_tree.specs.Trees.{last_under}
use Rattle.lease_tree.proofs.tree.Tree.drop_next.Goals as goal

is_dropped : (g : _) (c : goal.After-remove_entry g) → IsDropped c.args.self.now c.remove_entry.new.self.entries c.remove.new.self (last_under c.args.path.now c.args.self.now) c.remove_entry.result
is_dropped g c =
    let i = c.self.inside in
    let a = are_seen c.args.self.now i.bodies.entries i.leases c.self.view_is c.self.invariant in
    let out = c.remove_entry.ensures in
    dropped c.args.self.now c.remove_entry.new.self.entries c.remove.new.self c.args.path.now c.in_ok-last.last c.remove_entry.result i.bodies.entries i.leases a c.in_ok-last.ensures c.remove.ensures out.entries out.ordered out.same_key out.value

pub invariant_of-self : goal.invariant_of-self
invariant_of-self g c = (is_dropped g c).same

pub returns-clause-others : goal.returns-clause-others
returns-clause-others g c = (is_dropped g c).others

pub returns-clause-taken : goal.returns-clause-taken
returns-clause-taken g c = (is_dropped g c).taken
