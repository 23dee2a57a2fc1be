use Rattle.std.proofs.Common.{◌≡◌, ℕ, ◌+◌, length, List}
use Rattle.std.specs.Option.{option_map_or}
use Rattle.lease_tree.specs.Under.{is_along}
use Rattle.lease_tree.specs.Leases.{changed, changed_where}
use Rattle.lease_tree.specs.declared.lease.Change.TheVariants.{Raise}
use Rattle.lease_tree.proofs.Ancestors.{along_some}
use Rattle.lease_tree.proofs.leases.Leases.raise_along.Given as goal

-- what is left to change stands along the next name
abbrev pub invariant-loop-next : goal.invariant-loop-next
invariant-loop-next l = changed_where (along_some l.next) (changed (Raise l.end)) l.self ≡ changed_where (is_along l.path) (changed (Raise l.end)) l.fn.self

abbrev pub decreases-loop-next : goal.decreases-loop-next
decreases-loop-next l = option_map_or (λ (path : List ℕ). length path + 1) l.next 0
