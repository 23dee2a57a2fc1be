-- Names whose values change, at the side where they stand.
use Rattle.std.proofs.Common.{◌≡◌, ℕ, Bool, true, false, cond, List, [], ◌∷◌, ◌++◌, refl, ap, ◌∙◌}
use Rattle.std.specs.declared.cmp.Ordering.TheVariants.{Less}
use Rattle.std.specs.Ordering.{is_eq}
use Rattle.std.specs.List.{AllByRecursion}
use Rattle.std.proofs.lemmas.List.{map-append}
use Rattle.far_words.specs.Paths.{bytes_cmp}
use Rattle.lease_tree.specs.Under.{is_same, is_under, stem}
use Rattle.lease_tree.specs.Leases.{AreBelow, AreAbove, IsBetween, changed_where}
use Rattle.lease_tree.proofs.Between.{All-weaken}
use Rattle.lease_tree.proofs.Puts.{less_back}
use Rattle.lease_tree.proofs.Texts.{under_later, under_earlier}

module _ {X : Type 0} (test : List ℕ → Bool) (f : X → X) where
  -- the values of a name whose test is known
  abbrev pub one_changed : List ℕ × X → List ℕ × X
  one_changed e = (e.0, cond (test e.0) (f e.1) e.1)

  pub changed-parts : (left : List (List ℕ × X)) (e : List ℕ × X) (right : List (List ℕ × X)) → changed_where test f (left ++ e ∷ right) ≡ changed_where test f left ++ one_changed e ∷ changed_where test f right
  changed-parts left e right = map-append one_changed left (e ∷ right)

  pub changed-none : (names : List (List ℕ × X)) → AllByRecursion (λ e. test e.0 ≡ false) names → changed_where test f names ≡ names
  changed-none [] all = refl
  changed-none (e ∷ names) all = (λ i. (e.0, cond (all.0 i) (f e.1) e.1) ∷ changed-none names all.1 i)

  All-changed : (P : List ℕ → Type 0) (names : List (List ℕ × X)) → AllByRecursion (λ e. P e.0) names → AllByRecursion (λ e. P e.0) (changed_where test f names)
  All-changed P [] all = tt
  All-changed P (e ∷ names) all = (all.0, All-changed P names all.1)

  pub between-changed_left : (k : List ℕ) (left right : List (List ℕ × X)) → IsBetween k left right → IsBetween k (changed_where test f left) right
  between-changed_left k left right at = record { below = All-changed (λ j. bytes_cmp j k ≡ Less) left at.below; above = at.above }

  pub between-changed_right : (k : List ℕ) (left right : List (List ℕ × X)) → IsBetween k left right → IsBetween k left (changed_where test f right)
  between-changed_right k left right at = record { below = at.below; above = All-changed (λ j. bytes_cmp k j ≡ Less) right at.above }

  pub changed-low : (left : List (List ℕ × X)) (e : List ℕ × X) (right : List (List ℕ × X)) → test e.0 ≡ false → AllByRecursion (λ g. test g.0 ≡ false) right → changed_where test f (left ++ e ∷ right) ≡ changed_where test f left ++ e ∷ right
  changed-low left e right here none = changed-parts left e right ∙ (λ i. changed_where test f left ++ (e.0, cond (here i) (f e.1) e.1) ∷ changed-none right none i)

  pub changed-high : (left : List (List ℕ × X)) (e : List ℕ × X) (right : List (List ℕ × X)) → AllByRecursion (λ g. test g.0 ≡ false) left → test e.0 ≡ false → changed_where test f (left ++ e ∷ right) ≡ left ++ e ∷ changed_where test f right
  changed-high left e right none here = changed-parts left e right ∙ (λ i. changed-none left none i ++ (e.0, cond (here i) (f e.1) e.1) ∷ changed_where test f right)

  pub changed-here : (left : List (List ℕ × X)) (e : List ℕ × X) (right : List (List ℕ × X)) → AllByRecursion (λ g. test g.0 ≡ false) left → test e.0 ≡ true → AllByRecursion (λ g. test g.0 ≡ false) right → changed_where test f (left ++ e ∷ right) ≡ left ++ (e.0, f e.1) ∷ right
  changed-here left e right below here above = changed-parts left e right ∙ (λ i. changed-none left below i ++ (e.0, cond (here i) (f e.1) e.1) ∷ changed-none right above i)

  pub changed-all : (left : List (List ℕ × X)) (e : List ℕ × X) (right : List (List ℕ × X)) → test e.0 ≡ true → changed_where test f (left ++ e ∷ right) ≡ changed_where test f left ++ (e.0, f e.1) ∷ changed_where test f right
  changed-all left e right here = changed-parts left e right ∙ (λ i. changed_where test f left ++ (e.0, cond (here i) (f e.1) e.1) ∷ changed_where test f right)

module _ {X : Type 0} where
  -- names after one aren't that one, nor are those before it
  pub others_above : (k : List ℕ) (names : List (List ℕ × X)) → AreAbove k names → AllByRecursion (λ e. is_same k e.0 ≡ false) names
  others_above k = All-weaken (λ e. bytes_cmp k e.0 ≡ Less) (λ e. is_same k e.0 ≡ false) (λ e less. ap is_eq less)

  pub others_below : (k : List ℕ) (names : List (List ℕ × X)) → AreBelow k names → AllByRecursion (λ e. is_same k e.0 ≡ false) names
  others_below k = All-weaken (λ e. bytes_cmp e.0 k ≡ Less) (λ e. is_same k e.0 ≡ false) (λ e less. ap is_eq (less_back e.0 k less))

  pub none_under_above : (path k : List ℕ) (names : List (List ℕ × X)) → bytes_cmp (stem path) k ≡ Less → is_under path k ≡ false → AreAbove k names → AllByRecursion (λ e. is_under path e.0 ≡ false) names
  none_under_above path k names less not_under = All-weaken (λ e. bytes_cmp k e.0 ≡ Less) (λ e. is_under path e.0 ≡ false) (λ e above. under_later path k e.0 less not_under above) names

  pub none_under_below : (path k : List ℕ) (names : List (List ℕ × X)) → (bytes_cmp (stem path) k ≡ Less → ⊥) → AreBelow k names → AllByRecursion (λ e. is_under path e.0 ≡ false) names
  none_under_below path k names not_less = All-weaken (λ e. bytes_cmp e.0 k ≡ Less) (λ e. is_under path e.0 ≡ false) (λ e below. under_earlier path k e.0 not_less below) names
