-- What stands at the top of the search tree.
use Rattle.std.specs.Prelude.{◌≡◌, ◌∷◌, ◌++◌}
use Rattle.lease_tree.specs.Leases.{Ends, entry_of, IsBetween, IsTied}
use Rattle.lease_tree.specs.declared.leases.Knot.{Knot}
use Rattle.lease_tree.specs.declared.leases.Untied.{Untied}

-- the knot at the top of the tree
pub record IsTop (ends : Ends) (knot : Knot) : Type 0 where
  pub is : ends ≡ knot.left ++ entry_of knot ∷ knot.right
  pub tied : IsTied knot

-- and the same where it is taken off
pub record IsUntied (ends : Ends) (top : Untied) : Type 0 where
  pub is : ends ≡ top.left ++ entry_of top.knot.value ∷ top.right
  pub between : IsBetween top.knot.value.path top.left top.right
