use Rattle.std.proofs.Common.{length}
use Rattle.lease_tree.proofs.leases.Leases.+split_first.Given as goal

abbrev pub decreases-split_first : goal.decreases-split_first
decreases-split_first l = length l.self
