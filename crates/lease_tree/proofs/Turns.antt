-- What stands between what where knots turn.
use Rattle.std.proofs.Common.{◌≡◌, ℕ, List, ap, ◌∷◌, ◌++◌, ◌<◌, length, length-append, subst, arith}
use Rattle.lease_tree.specs.Leases.{Ends, IsBetween, entry_of}
use Rattle.lease_tree.specs.Untied.{IsUntied}
use Rattle.lease_tree.specs.declared.lease.Lease.{Lease}
use Rattle.lease_tree.specs.declared.leases.Untied.{Untied}
use Rattle.lease_tree.proofs.Between.{left_inner, left_outer, right_inner, right_outer}

-- k stands after a side that was untied: after its right part, and its top stands before k
module _ (k : List ℕ × Lease) (left right : Ends) (top : Untied) (u : IsUntied left top) (at : IsBetween k.0 left right) where
  after : IsBetween k.0 (top.left ++ entry_of top.knot.value ∷ top.right) right
  after = subst (λ (l : Ends). IsBetween k.0 l right) u.is at

  pub left_low : IsBetween k.0 top.right right
  left_low = left_inner top.left (entry_of top.knot.value) top.right k right after

  pub left_high : IsBetween top.knot.value.path top.left (top.right ++ k ∷ right)
  left_high = left_outer top.left (entry_of top.knot.value) top.right k right after u.between

-- and before a side that was untied
module _ (k : List ℕ × Lease) (left right : Ends) (top : Untied) (u : IsUntied right top) (at : IsBetween k.0 left right) where
  before : IsBetween k.0 left (top.left ++ entry_of top.knot.value ∷ top.right)
  before = subst (λ (r : Ends). IsBetween k.0 left r) u.is at

  pub right_low : IsBetween k.0 left top.left
  right_low = right_inner left k top.left (entry_of top.knot.value) top.right before

  pub right_high : IsBetween top.knot.value.path (left ++ k ∷ top.left) top.right
  right_high = right_outer left k top.left (entry_of top.knot.value) top.right before u.between

-- each side is shorter
pub shorter : (ends : Ends) (top : Untied) → IsUntied ends top → (length top.left < length ends) × (length top.right < length ends)
shorter ends top u =
    let count : length ends ≡ length (top.left ++ entry_of top.knot.value ∷ top.right) = ap length u.is in
    omega (arith, count, length-append top.left (entry_of top.knot.value ∷ top.right))
