use Rattle.std.proofs.Common.{length}
use Rattle.lease_tree.proofs.leases.Leases.+without.Given as goal

abbrev pub decreases-without : goal.decreases-without
decreases-without l = length l.self
