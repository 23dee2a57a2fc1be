-- A name that is put into leases, or taken out of them, at the side where it belongs.
use Rattle.std.proofs.Common.{◌≡◌, ◌≢◌, ℕ, Bool, true, false, cond, not, List, [], ◌∷◌, ◌++◌, refl, sym, ap, subst, ◌∙◌, Some, None}
use Rattle.std.specs.declared.cmp.Ordering.{Ordering}
use Rattle.std.specs.declared.cmp.Ordering.TheVariants.{Less, Equal, Greater}
use Rattle.std.specs.Ordering.{is_eq, ordering_reverse}
use Rattle.std.specs.List.{AllByRecursion, filter}
use Rattle.std.specs.Cmp.Lexicographic.{nat_list_cmp_total}
use Rattle.std.specs.FinMap.{find, put, slice_cmp-IsAntisymmetric, nat_cmp-IsAntisymmetric}
use Rattle.std.specs.Cmp.{tied_itself}
use Rattle.std.specs.FinMap.Entries.{by_order}
use Rattle.std.proofs.lemmas.List.Elements.{filter-append}
use Rattle.far_words.specs.Paths.{bytes_cmp}
use Rattle.lease_tree.specs.Under.{is_same}
use Rattle.lease_tree.proofs.Between.{below_later, above_earlier}
use Rattle.lease_tree.specs.Leases.{AreBelow, AreAbove, IsBetween, without}

-- a comparison that is turned round
pub greater_back : (q k : List ℕ) → bytes_cmp q k ≡ Greater → bytes_cmp k q ≡ Less
greater_back q k is = nat_list_cmp_total.antisymm k q ∙ ap ordering_reverse is

pub less_back : (q k : List ℕ) → bytes_cmp q k ≡ Less → bytes_cmp k q ≡ Greater
less_back q k is = nat_list_cmp_total.antisymm k q ∙ ap ordering_reverse is

-- the third way that a comparison may go
pub greater_else : (o : Ordering) → o ≢ Less → o ≢ Equal → o ≡ Greater
greater_else Less a b = absurd (a refl)
greater_else Equal a b = absurd (b refl)
greater_else Greater a b = refl

module _ {X : Type 0} where
  -- what isn't found among names isn't found in a part of them
  pub record Missed (q : List ℕ) (front : List (List ℕ × X)) (e : List ℕ × X) (back : List (List ℕ × X)) : Type 0 where
    pub left : find bytes_cmp q front ≡ None
    pub here : bytes_cmp q e.0 ≢ Equal
    pub right : find bytes_cmp q back ≡ None

  some_there : (x : X) → Some x ≢ None
  some_there x e = cc

  pub missed : (q : List ℕ) (left : List (List ℕ × X)) (e : List ℕ × X) (right : List (List ℕ × X)) → find bytes_cmp q (left ++ e ∷ right) ≡ None → Missed q left e right
  missed q [] e right none =
      elim (bytes_cmp q e.0) as (λ o. bytes_cmp q e.0 ≡ o → cond (is_eq o) (Some e.1) (find bytes_cmp q right) ≡ None → Missed q [] e right) [
        | Less ↦ λ is rest. record { left = refl; here = λ same. let no : Less ≡ Equal = sym is ∙ same in cc; right = rest }
        | Equal ↦ λ is rest. absurd (some_there e.1 rest)
        | Greater ↦ λ is rest. record { left = refl; here = λ same. let no : Greater ≡ Equal = sym is ∙ same in cc; right = rest }
      ] refl none
  missed q (f ∷ left) e right none =
      elim (is_eq (bytes_cmp q f.0)) as (λ b. is_eq (bytes_cmp q f.0) ≡ b → cond b (Some f.1) (find bytes_cmp q (left ++ e ∷ right)) ≡ None → Missed q (f ∷ left) e right) [
        | true ↦ λ is rest. absurd (some_there f.1 rest)
        | false ↦ λ is rest. let later = missed q left e right rest in record { left = ap (λ b. cond b (Some f.1) (find bytes_cmp q left)) is ∙ later.left; here = later.here; right = later.right }
      ] refl none

  pub put-left : (q : List ℕ) (x : X) (left : List (List ℕ × X)) (e : List ℕ × X) (right : List (List ℕ × X)) → bytes_cmp q e.0 ≡ Less → put bytes_cmp q x (left ++ e ∷ right) ≡ put bytes_cmp q x left ++ e ∷ right
  put-left q x [] e right less = ap (λ o. by_order o ((q, x) ∷ e ∷ right) ((e.0, x) ∷ right) (e ∷ put bytes_cmp q x right)) less
  put-left q x (f ∷ left) e right less =
      elim (bytes_cmp q f.0) as (λ o. by_order o ((q, x) ∷ f ∷ (left ++ e ∷ right)) ((f.0, x) ∷ (left ++ e ∷ right)) (f ∷ put bytes_cmp q x (left ++ e ∷ right)) ≡ by_order o ((q, x) ∷ f ∷ left) ((f.0, x) ∷ left) (f ∷ put bytes_cmp q x left) ++ e ∷ right) [
        | Less ↦ refl
        | Equal ↦ refl
        | Greater ↦ ap (λ names. f ∷ names) (put-left q x left e right less)
      ]

  put-past : (q : List ℕ) (x : X) (e : List ℕ × X) (names : List (List ℕ × X)) → bytes_cmp e.0 q ≡ Less → put bytes_cmp q x (e ∷ names) ≡ e ∷ put bytes_cmp q x names
  put-past q x e names less = ap (λ o. by_order o ((q, x) ∷ e ∷ names) ((e.0, x) ∷ names) (e ∷ put bytes_cmp q x names)) (less_back e.0 q less)

  pub put-right : (q : List ℕ) (x : X) (left : List (List ℕ × X)) (e : List ℕ × X) (right : List (List ℕ × X)) → bytes_cmp e.0 q ≡ Less → AreBelow e.0 left → put bytes_cmp q x (left ++ e ∷ right) ≡ left ++ e ∷ put bytes_cmp q x right
  put-right q x [] e right less below = put-past q x e right less
  put-right q x (f ∷ left) e right less below =
      put-past q x f (left ++ e ∷ right) (nat_list_cmp_total.trans f.0 e.0 q below.0 less)
      ∙ ap (λ names. f ∷ names) (put-right q x left e right less below.1)

  All-put : (P : List ℕ → Type 0) (q : List ℕ) (x : X) (names : List (List ℕ × X)) → P q → AllByRecursion (λ e. P e.0) names → AllByRecursion (λ e. P e.0) (put bytes_cmp q x names)
  All-put P q x [] here all = (here, tt)
  All-put P q x (e ∷ names) here all =
      elim (bytes_cmp q e.0) as (λ o. AllByRecursion (λ e. P e.0) (by_order o ((q, x) ∷ e ∷ names) ((e.0, x) ∷ names) (e ∷ put bytes_cmp q x names))) [
        | Less ↦ (here, all)
        | Equal ↦ all
        | Greater ↦ (all.0, All-put P q x names here all.1)
      ]

  pub between-put_left : (q : List ℕ) (x : X) (k : List ℕ) (left right : List (List ℕ × X)) → bytes_cmp q k ≡ Less → IsBetween k left right → IsBetween k (put bytes_cmp q x left) right
  between-put_left q x k left right less at = record { below = All-put (λ j. bytes_cmp j k ≡ Less) q x left less at.below; above = at.above }

  pub between-put_right : (q : List ℕ) (x : X) (k : List ℕ) (left right : List (List ℕ × X)) → bytes_cmp k q ≡ Less → IsBetween k left right → IsBetween k left (put bytes_cmp q x right)
  between-put_right q x k left right less at = record { below = at.below; above = All-put (λ j. bytes_cmp k j ≡ Less) q x right less at.above }

  All-filter : (P : List ℕ × X → Type 0) (test : List ℕ × X → Bool) (names : List (List ℕ × X)) → AllByRecursion P names → AllByRecursion P (filter test names)
  All-filter P test [] all = tt
  All-filter P test (e ∷ names) all =
      elim (test e) as (λ b. AllByRecursion P (cond b (e ∷ filter test names) (filter test names))) [
        | true ↦ (all.0, All-filter P test names all.1)
        | false ↦ All-filter P test names all.1
      ]

  pub between-without_left : (q k : List ℕ) (left right : List (List ℕ × X)) → IsBetween k left right → IsBetween k (without q left) right
  between-without_left q k left right at = record { below = All-filter (λ e. bytes_cmp e.0 k ≡ Less) (λ e. not (is_same q e.0)) left at.below; above = at.above }

  pub between-without_right : (q k : List ℕ) (left right : List (List ℕ × X)) → IsBetween k left right → IsBetween k left (without q right)
  between-without_right q k left right at = record { below = at.below; above = All-filter (λ e. bytes_cmp k e.0 ≡ Less) (λ e. not (is_same q e.0)) right at.above }

  -- a name before all of these isn't among them, nor one after them
  pub without-above : (q : List ℕ) (names : List (List ℕ × X)) → AreAbove q names → without q names ≡ names
  without-above q [] above = refl
  without-above q (e ∷ names) above =
      ap (λ o. cond (not (is_eq o)) (e ∷ without q names) (without q names)) above.0 ∙ ap (λ rest. e ∷ rest) (without-above q names above.1)

  without-below : (q : List ℕ) (names : List (List ℕ × X)) → AreBelow q names → without q names ≡ names
  without-below q [] below = refl
  without-below q (e ∷ names) below =
      ap (λ o. cond (not (is_eq o)) (e ∷ without q names) (without q names)) (less_back e.0 q below.0) ∙ ap (λ rest. e ∷ rest) (without-below q names below.1)

  pub without-low : (q : List ℕ) (left : List (List ℕ × X)) (e : List ℕ × X) (right : List (List ℕ × X)) → bytes_cmp q e.0 ≡ Less → IsBetween e.0 left right → without q (left ++ e ∷ right) ≡ without q left ++ e ∷ right
  without-low q left e right less at =
      filter-append (λ f. not (is_same q f.0)) left (e ∷ right)
      ∙ ap (λ names. without q left ++ names) (without-above q (e ∷ right) (less, above_earlier q e.0 right less at.above))

  pub without-high : (q : List ℕ) (left : List (List ℕ × X)) (e : List ℕ × X) (right : List (List ℕ × X)) → bytes_cmp e.0 q ≡ Less → IsBetween e.0 left right → without q (left ++ e ∷ right) ≡ left ++ e ∷ without q right
  without-high q left e right less at =
      filter-append (λ f. not (is_same q f.0)) left (e ∷ right)
      ∙ ap (λ names. names ++ without q (e ∷ right)) (without-below q left (below_later e.0 q left less at.below))
      ∙ ap (λ o. left ++ cond (not (is_eq o)) (e ∷ without q right) (without q right)) (less_back e.0 q less)

  pub without-same : (left : List (List ℕ × X)) (e : List ℕ × X) (right : List (List ℕ × X)) → IsBetween e.0 left right → without e.0 (left ++ e ∷ right) ≡ left ++ right
  without-same left e right at =
      filter-append (λ f. not (is_same e.0 f.0)) left (e ∷ right)
      ∙ ap (λ names. names ++ without e.0 (e ∷ right)) (without-below e.0 left at.below)
      ∙ ap (λ o. left ++ cond (not (is_eq o)) (e ∷ without e.0 right) (without e.0 right)) (tied_itself nat_list_cmp_total e.0)
      ∙ ap (λ names. left ++ names) (without-above e.0 right at.above)

  -- the first of the names at the right takes the middle's place
  pub next_between : (k : List ℕ) (left right : List (List ℕ × X)) (e : List ℕ × X) (rest : List (List ℕ × X)) → IsBetween k left right → right ≡ e ∷ rest → AreAbove e.0 rest → IsBetween e.0 left rest
  next_between k left right e rest at is above =
      let less = (subst (AreAbove k) is at.above).0 in
      record { below = below_later k e.0 left less at.below; above = above }

-- names that compare as equal are the same
pub same_name : (j k : List ℕ) → bytes_cmp j k ≡ Equal → j ≡ k
same_name = slice_cmp-IsAntisymmetric nat_cmp-IsAntisymmetric
