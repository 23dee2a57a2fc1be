-- Names before a name and after it.
use Rattle.std.proofs.Common.{◌≡◌, ℕ, List, [], ◌∷◌, ◌++◌}
use Rattle.std.specs.declared.cmp.Ordering.TheVariants.{Less}
use Rattle.std.specs.List.{AllByRecursion}
use Rattle.std.specs.Cmp.Lexicographic.{nat_list_cmp_total}
use Rattle.far_words.specs.Paths.{bytes_cmp}
use Rattle.lease_tree.specs.Leases.{AreBelow, AreAbove, IsBetween}

-- what holds of each element of a list holds of its parts
pub record Parts {X : Type 0} (P : X → Type 0) (l : List X) (e : X) (r : List X) : Type 0 where
  pub front : AllByRecursion P l
  pub here : P e
  pub back : AllByRecursion P r

pub parts : {X : Type 0} (P : X → Type 0) (l : List X) (e : X) (r : List X) → AllByRecursion P (l ++ e ∷ r) → Parts P l e r
parts P [] e r all = record { front = tt; here = all.0; back = all.1 }
parts P (x ∷ l) e r all = let later = parts P l e r all.1 in record { front = (all.0, later.front); here = later.here; back = later.back }

pub whole : {X : Type 0} (P : X → Type 0) (l : List X) (e : X) (r : List X) → Parts P l e r → AllByRecursion P (l ++ e ∷ r)
whole P [] e r p = (p.here, p.back)
whole P (x ∷ l) e r p = (p.front.0, whole P l e r (record { front = p.front.1; here = p.here; back = p.back }))

pub All-weaken : {X : Type 0} (P Q : X → Type 0) → ((x : X) → P x → Q x) → (l : List X) → AllByRecursion P l → AllByRecursion Q l
All-weaken P Q f [] all = tt
All-weaken P Q f (x ∷ l) all = (f x all.0, All-weaken P Q f l all.1)

module _ {X : Type 0} where
  pub below_later : (j k : List ℕ) (names : List (List ℕ × X)) → bytes_cmp j k ≡ Less → AreBelow j names → AreBelow k names
  below_later j k names less = All-weaken (λ e. bytes_cmp e.0 j ≡ Less) (λ e. bytes_cmp e.0 k ≡ Less) (λ e l. nat_list_cmp_total.trans e.0 j k l less) names

  pub above_earlier : (j k : List ℕ) (names : List (List ℕ × X)) → bytes_cmp j k ≡ Less → AreAbove k names → AreAbove j names
  above_earlier j k names less = All-weaken (λ e. bytes_cmp k e.0 ≡ Less) (λ e. bytes_cmp j e.0 ≡ Less) (λ e l. nat_list_cmp_total.trans j k e.0 less l) names

  -- where the left side of k has e at its top: k between the inner side and its right, and e between its outer side and the rest
  module _ (outer : List (List ℕ × X)) (e : List ℕ × X) (inner : List (List ℕ × X)) (k : List ℕ × X) (right : List (List ℕ × X)) (at : IsBetween k.0 (outer ++ e ∷ inner) right) where
    pub left_inner : IsBetween k.0 inner right
    left_inner = record { below = (parts (λ f. bytes_cmp f.0 k.0 ≡ Less) outer e inner at.below).back; above = at.above }

    pub left_outer : IsBetween e.0 outer inner → IsBetween e.0 outer (inner ++ k ∷ right)
    left_outer top =
        let less = (parts (λ f. bytes_cmp f.0 k.0 ≡ Less) outer e inner at.below).here in
        record { below = top.below; above = whole (λ f. bytes_cmp e.0 f.0 ≡ Less) inner k right (record { front = top.above; here = less; back = above_earlier e.0 k.0 right less at.above }) }

  -- and the same where the right side has it
  module _ (left : List (List ℕ × X)) (k : List ℕ × X) (inner : List (List ℕ × X)) (e : List ℕ × X) (outer : List (List ℕ × X)) (at : IsBetween k.0 left (inner ++ e ∷ outer)) where
    pub right_inner : IsBetween k.0 left inner
    right_inner = record { below = at.below; above = (parts (λ f. bytes_cmp k.0 f.0 ≡ Less) inner e outer at.above).front }

    pub right_outer : IsBetween e.0 inner outer → IsBetween e.0 (left ++ k ∷ inner) outer
    right_outer top =
        let less = (parts (λ f. bytes_cmp k.0 f.0 ≡ Less) inner e outer at.above).here in
        record { below = whole (λ f. bytes_cmp f.0 e.0 ≡ Less) left k inner (record { front = below_later k.0 e.0 left less at.below; here = less; back = top.below }); above = top.above }

-- each side of one, and of another
pub sides : {X : Type 0} (path : List ℕ) (left right over under : List (List ℕ × X)) → IsBetween path left over → IsBetween path under right → IsBetween path left right
sides path left right over under a b = record { below = a.below; above = b.above }
