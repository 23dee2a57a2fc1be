use Rattle.std.proofs.Common.{length}
use Rattle.lease_tree.proofs.leases.Leases.+with.Given as goal

abbrev pub decreases-with : goal.decreases-with
decreases-with l = length l.self
