-- Values that change again and again.
use Rattle.std.proofs.Common.{◌≡◌, ℕ, Bool, true, false, ◌||◌, cond, List, [], ◌∷◌, max, refl, sym, ap, ◌∙◌, arith}
use Rattle.far_words.specs.Paths.{parent_of}
use Rattle.lease_tree.specs.Under.{is_same, is_under, is_along}
use Rattle.lease_tree.specs.Leases.{changed, changed_where}
use Rattle.lease_tree.specs.declared.lease.Lease.{Lease}
use Rattle.lease_tree.specs.declared.lease.Change.TheVariants.{Raise}
use Rattle.lease_tree.specs.Names.{Names, Leased}
use Rattle.lease_tree.specs.Trees.{raised, renewed, touches}
use Rattle.lease_tree.proofs.Ancestors.{along_some, under_parent}

module _ {X : Type 0} (f : X → X) (again : (x : X) → f (f x) ≡ f x) where
  twice : (s t : Bool) (x : X) → cond t (f (cond s (f x) x)) (cond s (f x) x) ≡ cond (s || t) (f x) x
  twice true true x = again x
  twice true false x = refl
  twice false true x = refl
  twice false false x = refl

  -- what passes either test changes once
  pub changed-twice : (s t u : List ℕ → Bool) → ((k : List ℕ) → u k ≡ (s k || t k)) → (names : List (List ℕ × X)) → changed_where t f (changed_where s f names) ≡ changed_where u f names
  changed-twice s t u either [] = refl
  changed-twice s t u either (e ∷ names) =
      let one = twice (s e.0) (t e.0) e.1 ∙ ap (λ b. cond b (f e.1) e.1) (sym (either e.0)) in
      λ i. (e.0, one i) ∷ changed-twice s t u either names i

  -- a name, and what stands along its parent
  pub changed-along : (path : List ℕ) (names : List (List ℕ × X)) → changed_where (along_some (parent_of path)) f (changed_where (is_same path) f names) ≡ changed_where (is_along path) f names
  changed-along path = changed-twice (is_same path) (along_some (parent_of path)) (is_along path) (λ k. ap (λ b. is_same path k || b) (under_parent path k))

pub changed-never : {X : Type 0} (f : X → X) (names : List (List ℕ × X)) → changed_where (λ _. false) f names ≡ names
changed-never f [] = refl
changed-never f (e ∷ names) = ap (λ ns. e ∷ ns) (changed-never f names)

-- a lease that was raised isn't raised again
pub raised-again : (end : ℕ) (lease : Lease) → changed (Raise end) (changed (Raise end) lease) ≡ changed (Raise end) lease
raised-again end lease =
    let same : max (max lease.end end) end ≡ max lease.end end = omega arith in
    ap (λ (e : ℕ). let l : Lease = record { end = e; settled = lease.settled } in l) same

-- nor is a name's
pub name_raised-again : {B : Type 0} (end : ℕ) (name : Leased B) → raised end (raised end name) ≡ raised end name
name_raised-again {B} end name =
    let same : max (max name.end end) end ≡ max name.end end = omega arith in
    ap (λ (e : ℕ). let n : Leased B = record { end = e; settled = name.settled; body = name.body } in n) same

-- what is under a path, and what is along it
pub renewed-twice : {B : Type 0} (path : List ℕ) (end : ℕ) (names : Names B) → changed_where (is_along path) (raised end) (changed_where (is_under path) (raised end) names) ≡ renewed path end names
renewed-twice path end names = changed-twice (raised end) (name_raised-again end) (is_under path) (is_along path) (touches path) (λ k. refl) names
