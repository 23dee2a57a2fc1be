use Rattle.lease_tree.specs.Leases.{entry_of}
use Rattle.lease_tree.proofs.Puts.{next_between}
use Rattle.lease_tree.proofs.leases.join.Goals as goal

pub balance-requires : goal.balance-requires
balance-requires c = next_between c.args.path.now c.args.left c.args.right (entry_of c.in-Some.knot.value) c.in-Some.rest c.requires c.in-Some.ensures.some c.in-Some.ensures.above
