-- Leases that change where their search tree was taken apart.
use Rattle.std.proofs.Common.{◌≡◌, ℕ, Bool, true, false, List, ◌∷◌, ◌++◌, sym, ap, ◌∙◌}
use Rattle.std.specs.List.{AllByRecursion}
use Rattle.lease_tree.specs.Leases.{Ends, IsBetween, entry_of, changed_where}
use Rattle.lease_tree.specs.Untied.{IsUntied}
use Rattle.lease_tree.specs.declared.lease.Lease.{Lease}
use Rattle.lease_tree.specs.declared.leases.Untied.{Untied}
use Rattle.lease_tree.proofs.Changes.{changed-low, changed-high, changed-here, between-changed_left, between-changed_right}

module _ (test : List ℕ → Bool) (f : Lease → Lease) (ends : Ends) (top : Untied) (u : IsUntied ends top) (side new : Ends) where
  -- at the left alone
  pub low_side : side ≡ changed_where test f top.left → IsBetween top.knot.value.path side top.right
  low_side is = rw is (between-changed_left test f top.knot.value.path top.left top.right u.between)

  pub low_changed : test top.knot.value.path ≡ false → AllByRecursion (λ e. test e.0 ≡ false) top.right → side ≡ changed_where test f top.left → new ≡ side ++ entry_of top.knot.value ∷ top.right → new ≡ changed_where test f ends
  low_changed here none is new_is =
      new_is ∙ ap (λ (l : Ends). l ++ entry_of top.knot.value ∷ top.right) is
      ∙ sym (changed-low test f top.left (entry_of top.knot.value) top.right here none) ∙ ap (changed_where test f) (sym u.is)

  -- at the right alone
  pub high_side : side ≡ changed_where test f top.right → IsBetween top.knot.value.path top.left side
  high_side is = rw is (between-changed_right test f top.knot.value.path top.left top.right u.between)

  pub high_changed : test top.knot.value.path ≡ false → AllByRecursion (λ e. test e.0 ≡ false) top.left → side ≡ changed_where test f top.right → new ≡ top.left ++ entry_of top.knot.value ∷ side → new ≡ changed_where test f ends
  high_changed here none is new_is =
      new_is ∙ ap (λ (r : Ends). top.left ++ entry_of top.knot.value ∷ r) is
      ∙ sym (changed-high test f top.left (entry_of top.knot.value) top.right none here) ∙ ap (changed_where test f) (sym u.is)

  -- at the top alone
  pub top_changed : AllByRecursion (λ e. test e.0 ≡ false) top.left → test top.knot.value.path ≡ true → AllByRecursion (λ e. test e.0 ≡ false) top.right → new ≡ top.left ++ (top.knot.value.path, f top.knot.value.lease) ∷ top.right → new ≡ changed_where test f ends
  top_changed below here above new_is =
      new_is ∙ sym (changed-here test f top.left (entry_of top.knot.value) top.right below here above) ∙ ap (changed_where test f) (sym u.is)
