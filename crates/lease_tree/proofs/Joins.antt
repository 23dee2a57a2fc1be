-- Names with leases and bodies, seen as their leases and their bodies.
use Rattle.std.proofs.Common.{◌≡◌, ℕ, Bool, true, false, cond, not, List, [], ◌∷◌, refl, sym, ap, subst, ◌∙◌, Some}
use Rattle.std.specs.declared.cmp.Ordering.TheVariants.{Less, Equal, Greater}
use Rattle.std.specs.Ordering.{is_eq, match_ordering}
use Rattle.std.specs.Option.{option_map}
use Rattle.std.specs.List as list
use Rattle.std.specs.List.{AllByRecursion}
use Rattle.std.specs.List.Sorted.{IsStrictlySortedBy}
use Rattle.std.specs.Map.{keys_of, lookup, set_value, remove_entry}
use Rattle.std.specs.BTreeMap.{is_at, insert_entry}
use Rattle.std.specs.FinMap.{find, put}
use Rattle.std.specs.FinMap.Entries.{by_order}
use Rattle.std.proofs.lemmas.Map.Keys.{sorted_head, sorted_tail}
use Rattle.far_words.specs.Paths.{bytes_cmp}
use Rattle.lease_tree.specs.Under.{is_same}
use Rattle.lease_tree.specs.declared.lease.Lease.{Lease}
use Rattle.lease_tree.specs.Leases.{Ends, AreAbove, changed_where, without}
use Rattle.lease_tree.specs.Names.{Leased, Names, lease_of, joined, ends_of, bodies_of, AreOfSame}
use Rattle.lease_tree.proofs.Changes.{others_above, changed-none}
use Rattle.lease_tree.proofs.Puts.{same_name, without-above}

-- ---- keys

first_of : List ℕ → List (List ℕ) → List ℕ
first_of d [] = d
first_of d (x ∷ xs) = x

rest_of : List (List ℕ) → List (List ℕ)
rest_of [] = []
rest_of (x ∷ xs) = xs

head_key : (j k : List ℕ) (js ks : List (List ℕ)) → ◌≡◌ {A = List (List ℕ)} (j ∷ js) (k ∷ ks) → j ≡ k
unfolding first_of
head_key j k js ks e = ap (λ l. first_of j l) e

later_keys : (j k : List ℕ) (js ks : List (List ℕ)) → ◌≡◌ {A = List (List ℕ)} (j ∷ js) (k ∷ ks) → js ≡ ks
unfolding rest_of
later_keys j k js ks e = ap (λ l. rest_of l) e

no_key : {A : Type 0} (k : List ℕ) (ks : List (List ℕ)) → ◌≡◌ {A = List (List ℕ)} (k ∷ ks) [] → A
no_key k ks e = absurd (let no : ◌≡◌ {A = List (List ℕ)} (k ∷ ks) [] = e in cc)

module _ {X : Type 0} where
  -- the later names are above the first
  pub above_head : (e : List ℕ × X) (names : List (List ℕ × X)) → IsStrictlySortedBy bytes_cmp (keys_of (e ∷ names)) → AreAbove e.0 names
  above_head e names s = by names (sorted_head bytes_cmp e.0 (keys_of names) s)
    where
      by : (ns : List (List ℕ × X)) → AllByRecursion (λ y. bytes_cmp e.0 y ≡ Less) (keys_of ns) → AreAbove e.0 ns
      by [] all = tt
      by (n ∷ ns) all = (all.0, by ns all.1)

  pub keys-changed : (test : List ℕ → Bool) (f : X → X) (names : List (List ℕ × X)) → keys_of (changed_where test f names) ≡ keys_of names
  keys-changed test f [] = refl
  keys-changed test f (e ∷ names) = ap (λ ks. e.0 ∷ ks) (keys-changed test f names)

-- ---- both and each

module _ {B : Type 0} where
  pub keys-ends_of : (names : Names B) → keys_of (ends_of names) ≡ keys_of names
  keys-ends_of [] = refl
  keys-ends_of (e ∷ names) = ap (λ ks. e.0 ∷ ks) (keys-ends_of names)

  pub keys-bodies_of : (names : Names B) → keys_of (bodies_of names) ≡ keys_of names
  keys-bodies_of [] = refl
  keys-bodies_of (e ∷ names) = ap (λ ks. e.0 ∷ ks) (keys-bodies_of names)

  pub joined-each : (names : Names B) → joined (bodies_of names) (ends_of names) ≡ names
  joined-each [] = refl
  joined-each (e ∷ names) = ap (λ ns. e ∷ ns) (joined-each names)

  pub bodies_of-joined : (bodies : List (List ℕ × B)) (ends : Ends) → keys_of bodies ≡ keys_of ends → bodies_of (joined bodies ends) ≡ bodies
  bodies_of-joined [] ends same = refl
  bodies_of-joined (b ∷ bodies) [] same = no_key b.0 (keys_of bodies) same
  bodies_of-joined (b ∷ bodies) (e ∷ ends) same = ap (λ bs. b ∷ bs) (bodies_of-joined bodies ends (later_keys b.0 e.0 _ _ same))

  pub ends_of-joined : (bodies : List (List ℕ × B)) (ends : Ends) → keys_of bodies ≡ keys_of ends → ends_of (joined bodies ends) ≡ ends
  ends_of-joined [] [] same = refl
  ends_of-joined [] (e ∷ ends) same = no_key e.0 (keys_of ends) (sym same)
  ends_of-joined (b ∷ bodies) [] same = no_key b.0 (keys_of bodies) same
  ends_of-joined (b ∷ bodies) (e ∷ ends) same = λ i. (head_key b.0 e.0 _ _ same i, e.1) ∷ ends_of-joined bodies ends (later_keys b.0 e.0 _ _ same) i

  -- names in order that have these bodies and leases
  pub record Are (names : Names B) (bodies : List (List ℕ × B)) (ends : Ends) : Type 0 where
    pub ordered : IsStrictlySortedBy bytes_cmp (keys_of names)
    pub bodies_are : bodies ≡ bodies_of names
    pub ends_are : ends ≡ ends_of names

  pub are : (bodies : List (List ℕ × B)) (ends : Ends) → AreOfSame bodies ends → Are (joined bodies ends) bodies ends
  are bodies ends at =
      let bs = bodies_of-joined bodies ends at.same in
      let keys : keys_of (joined bodies ends) ≡ keys_of bodies = sym (keys-bodies_of (joined bodies ends)) ∙ ap (λ (l : List (List ℕ × B)). keys_of l) bs in
      record { ordered = subst (IsStrictlySortedBy bytes_cmp) (sym keys) at.ordered; bodies_are = sym bs; ends_are = sym (ends_of-joined bodies ends at.same) }

  -- and so the names that a tree is seen as
  pub are_seen : (names : Names B) (bodies : List (List ℕ × B)) (ends : Ends) → joined bodies ends ≡ names → AreOfSame bodies ends → Are names bodies ends
  are_seen names bodies ends is at = subst (λ ns. Are ns bodies ends) is (are bodies ends at)

  pub of_same : (names : Names B) (bodies : List (List ℕ × B)) (ends : Ends) → Are names bodies ends → AreOfSame bodies ends
  of_same names bodies ends a = record {
    same = ap (λ (l : List (List ℕ × B)). keys_of l) a.bodies_are ∙ keys-bodies_of names ∙ sym (keys-ends_of names) ∙ sym (ap (λ (l : Ends). keys_of l) a.ends_are);
    ordered = subst (IsStrictlySortedBy bytes_cmp) (sym (ap (λ (l : List (List ℕ × B)). keys_of l) a.bodies_are ∙ keys-bodies_of names)) a.ordered;
  }

  pub joined_are : (names : Names B) (bodies : List (List ℕ × B)) (ends : Ends) → Are names bodies ends → joined bodies ends ≡ names
  joined_are names bodies ends a = (λ i. joined (a.bodies_are i) (a.ends_are i)) ∙ joined-each names

  -- ---- what is found

  pub find-ends_of : (q : List ℕ) (names : Names B) → find bytes_cmp q (ends_of names) ≡ option_map lease_of (find bytes_cmp q names)
  find-ends_of q [] = refl
  find-ends_of q (e ∷ names) = elim (is_eq (bytes_cmp q e.0)) as (λ t. cond t (Some (lease_of e.1)) (find bytes_cmp q (ends_of names)) ≡ option_map lease_of (cond t (Some e.1) (find bytes_cmp q names))) [ true ↦ refl | false ↦ find-ends_of q names ]

  pub lookup-bodies_of : (q : List ℕ) (names : Names B) → lookup (is_at (bytes_cmp q)) (bodies_of names) ≡ option_map (λ name. name.body) (find bytes_cmp q names)
  lookup-bodies_of q [] = refl
  lookup-bodies_of q (e ∷ names) = elim (is_eq (bytes_cmp q e.0)) as (λ t. cond t (Some e.1.body) (lookup (is_at (bytes_cmp q)) (bodies_of names)) ≡ option_map (λ (name : Leased B). name.body) (cond t (Some e.1) (find bytes_cmp q names))) [ true ↦ refl | false ↦ lookup-bodies_of q names ]

  -- ---- what changes

  pub ends_of-changed : (test : List ℕ → Bool) (f : Lease → Lease) (g : Leased B → Leased B) → ((name : Leased B) → f (lease_of name) ≡ lease_of (g name)) → (names : Names B) → changed_where test f (ends_of names) ≡ ends_of (changed_where test g names)
  ends_of-changed test f g law [] = refl
  ends_of-changed test f g law (e ∷ names) =
      let one : cond (test e.0) (f (lease_of e.1)) (lease_of e.1) ≡ lease_of (cond (test e.0) (g e.1) e.1) = elim (test e.0) as (λ t. cond t (f (lease_of e.1)) (lease_of e.1) ≡ lease_of (cond t (g e.1) e.1)) [ true ↦ law e.1 | false ↦ refl ] in
      λ i. (e.0, one i) ∷ ends_of-changed test f g law names i

  pub bodies_of-changed : (test : List ℕ → Bool) (g : Leased B → Leased B) → ((name : Leased B) → (g name).body ≡ name.body) → (names : Names B) → bodies_of (changed_where test g names) ≡ bodies_of names
  bodies_of-changed test g law [] = refl
  bodies_of-changed test g law (e ∷ names) =
      let one : (cond (test e.0) (g e.1) e.1).body ≡ e.1.body = elim (test e.0) as (λ t. (cond t (g e.1) e.1).body ≡ e.1.body) [ true ↦ law e.1 | false ↦ refl ] in
      λ i. (e.0, one i) ∷ bodies_of-changed test g law names i

  -- the body of one name
  pub bodies_of-set : (q : List ℕ) (w : B) (g : Leased B → Leased B) → ((name : Leased B) → w ≡ (g name).body) → (names : Names B) → IsStrictlySortedBy bytes_cmp (keys_of names) → set_value (is_at (bytes_cmp q)) (bodies_of names) w ≡ bodies_of (changed_where (is_same q) g names)
  bodies_of-set q w g law [] ordered = refl
  bodies_of-set q w g law (e ∷ names) ordered =
      elim (bytes_cmp q e.0) as (λ o. bytes_cmp q e.0 ≡ o → cond (is_eq o) ((e.0, w) ∷ bodies_of names) ((e.0, e.1.body) ∷ set_value (is_at (bytes_cmp q)) (bodies_of names) w) ≡ (e.0, (cond (is_eq o) (g e.1) e.1).body) ∷ bodies_of (changed_where (is_same q) g names)) [
        | Less ↦ λ is. ap (λ bs. (e.0, e.1.body) ∷ bs) (bodies_of-set q w g law names (sorted_tail bytes_cmp e.0 (keys_of names) ordered))
        | Equal ↦ λ is.
            let apart : AllByRecursion (λ n. is_same q n.0 ≡ false) names = subst (λ (k : List ℕ). AllByRecursion (λ n. is_same k n.0 ≡ false) names) (sym (same_name q e.0 is)) (others_above e.0 names (above_head e names ordered)) in
            λ i. (e.0, law e.1 i) ∷ bodies_of (sym (changed-none (is_same q) g names apart) i)
        | Greater ↦ λ is. ap (λ bs. (e.0, e.1.body) ∷ bs) (bodies_of-set q w g law names (sorted_tail bytes_cmp e.0 (keys_of names) ordered))
      ] refl

  -- ---- what is found by a name, and what is put and taken out

  pub found_body : (q : List ℕ) (names : Names B) (bodies : List (List ℕ × B)) (ends : Ends) → Are names bodies ends → lookup (is_at (bytes_cmp q)) bodies ≡ option_map (λ name. name.body) (find bytes_cmp q names)
  found_body q names bodies ends a = ap (lookup (is_at (bytes_cmp q))) a.bodies_are ∙ lookup-bodies_of q names

  pub found_lease : (q : List ℕ) (names : Names B) (bodies : List (List ℕ × B)) (ends : Ends) → Are names bodies ends → find bytes_cmp q ends ≡ option_map lease_of (find bytes_cmp q names)
  found_lease q names bodies ends a = ap (find bytes_cmp q) a.ends_are ∙ find-ends_of q names

  -- leases alone change
  pub are_changed : (test : List ℕ → Bool) (f : Lease → Lease) (g : Leased B → Leased B) → ((name : Leased B) → f (lease_of name) ≡ lease_of (g name)) → ((name : Leased B) → (g name).body ≡ name.body)
      → (names : Names B) (bodies : List (List ℕ × B)) (ends new : Ends) → Are names bodies ends → new ≡ changed_where test f ends → Are (changed_where test g names) bodies new
  are_changed test f g lease body names bodies ends new a is = record {
    ordered = subst (IsStrictlySortedBy bytes_cmp) (sym (keys-changed test g names)) a.ordered;
    bodies_are = a.bodies_are ∙ sym (bodies_of-changed test g body names);
    ends_are = is ∙ ap (changed_where test f) a.ends_are ∙ ends_of-changed test f g lease names;
  }

  ends_of-put : (q : List ℕ) (name : Leased B) (names : Names B) → put bytes_cmp q (lease_of name) (ends_of names) ≡ ends_of (put bytes_cmp q name names)
  ends_of-put q name [] = refl
  ends_of-put q name (e ∷ names) =
      elim (bytes_cmp q e.0) as (λ o. by_order o ((q, lease_of name) ∷ (e.0, lease_of e.1) ∷ ends_of names) ((e.0, lease_of name) ∷ ends_of names) ((e.0, lease_of e.1) ∷ put bytes_cmp q (lease_of name) (ends_of names)) ≡ ends_of (by_order o ((q, name) ∷ e ∷ names) ((e.0, name) ∷ names) (e ∷ put bytes_cmp q name names))) [
        | Less ↦ refl
        | Equal ↦ refl
        | Greater ↦ ap (λ (es : Ends). (e.0, lease_of e.1) ∷ es) (ends_of-put q name names)
      ]

  bodies_of-put : (q : List ℕ) (name : Leased B) (names : Names B) → insert_entry bytes_cmp (bodies_of names) q name.body ≡ bodies_of (put bytes_cmp q name names)
  bodies_of-put q name [] = refl
  bodies_of-put q name (e ∷ names) =
      elim (bytes_cmp q e.0) as (λ o. match_ordering o ((q, name.body) ∷ (e.0, e.1.body) ∷ bodies_of names) ((e.0, name.body) ∷ bodies_of names) ((e.0, e.1.body) ∷ insert_entry bytes_cmp (bodies_of names) q name.body) ≡ bodies_of (by_order o ((q, name) ∷ e ∷ names) ((e.0, name) ∷ names) (e ∷ put bytes_cmp q name names))) [
        | Less ↦ refl
        | Equal ↦ refl
        | Greater ↦ ap (λ (bs : List (List ℕ × B)). (e.0, e.1.body) ∷ bs) (bodies_of-put q name names)
      ]

  -- a name with its body and its lease
  pub are_put : (q : List ℕ) (name : Leased B) (names : Names B) (bodies new : List (List ℕ × B)) (ends later : Ends) → Are names bodies ends → new ≡ insert_entry bytes_cmp bodies q name.body → IsStrictlySortedBy bytes_cmp (keys_of new)
      → later ≡ put bytes_cmp q (lease_of name) ends → Are (put bytes_cmp q name names) new later
  are_put q name names bodies new ends later a is ordered later_is =
      let bodies_are : new ≡ bodies_of (put bytes_cmp q name names) = is ∙ ap (λ (bs : List (List ℕ × B)). insert_entry bytes_cmp bs q name.body) a.bodies_are ∙ bodies_of-put q name names in
      record {
        ordered = subst (IsStrictlySortedBy bytes_cmp) (ap (λ (bs : List (List ℕ × B)). keys_of bs) bodies_are ∙ keys-bodies_of (put bytes_cmp q name names)) ordered;
        bodies_are = bodies_are;
        ends_are = later_is ∙ ap (put bytes_cmp q (lease_of name)) a.ends_are ∙ ends_of-put q name names;
      }

  ends_of-without : (q : List ℕ) (names : Names B) → without q (ends_of names) ≡ ends_of (without q names)
  ends_of-without q [] = refl
  ends_of-without q (e ∷ names) =
      elim (is_same q e.0) as (λ t. cond (not t) ((e.0, lease_of e.1) ∷ without q (ends_of names)) (without q (ends_of names)) ≡ ends_of (cond (not t) (e ∷ without q names) (without q names))) [
        | true ↦ ends_of-without q names
        | false ↦ ap (λ (es : Ends). (e.0, lease_of e.1) ∷ es) (ends_of-without q names)
      ]

  bodies_of-without : (q : List ℕ) (names : Names B) → IsStrictlySortedBy bytes_cmp (keys_of names) → remove_entry (is_at (bytes_cmp q)) (bodies_of names) ≡ bodies_of (without q names)
  bodies_of-without q [] ordered = refl
  bodies_of-without q (e ∷ names) ordered =
      elim (bytes_cmp q e.0) as (λ o. bytes_cmp q e.0 ≡ o → cond (is_eq o) (bodies_of names) ((e.0, e.1.body) ∷ remove_entry (is_at (bytes_cmp q)) (bodies_of names)) ≡ bodies_of (cond (not (is_eq o)) (e ∷ without q names) (without q names))) [
        | Less ↦ λ is. ap (λ (bs : List (List ℕ × B)). (e.0, e.1.body) ∷ bs) (bodies_of-without q names (sorted_tail bytes_cmp e.0 (keys_of names) ordered))
        | Equal ↦ λ is.
            let above = above_head e names ordered in
            ap bodies_of (sym (without-above q names (subst (λ (k : List ℕ). AreAbove k names) (sym (same_name q e.0 is)) above)))
        | Greater ↦ λ is. ap (λ (bs : List (List ℕ × B)). (e.0, e.1.body) ∷ bs) (bodies_of-without q names (sorted_tail bytes_cmp e.0 (keys_of names) ordered))
      ] refl

  -- without a name
  pub are_without : (q : List ℕ) (names : Names B) (bodies new : List (List ℕ × B)) (ends later : Ends) → Are names bodies ends → new ≡ remove_entry (is_at (bytes_cmp q)) bodies → IsStrictlySortedBy bytes_cmp (keys_of new)
      → later ≡ without q ends → Are (without q names) new later
  are_without q names bodies new ends later a is ordered later_is =
      let bodies_are : new ≡ bodies_of (without q names) = is ∙ ap (remove_entry (is_at (bytes_cmp q))) a.bodies_are ∙ bodies_of-without q names a.ordered in
      record {
        ordered = subst (IsStrictlySortedBy bytes_cmp) (ap (λ (bs : List (List ℕ × B)). keys_of bs) bodies_are ∙ keys-bodies_of (without q names)) ordered;
        bodies_are = bodies_are;
        ends_are = later_is ∙ ap (without q) a.ends_are ∙ ends_of-without q names;
      }

  -- ---- the first that passes

  pub first-ends_of : (p : List ℕ × Lease → Bool) (r : List ℕ × Leased B → Bool) → ((e : List ℕ × Leased B) → p (e.0, lease_of e.1) ≡ r e) → (names : Names B)
      → option_map (λ e. e.0) (list.find p (ends_of names)) ≡ option_map (λ e. e.0) (list.find r names)
  first-ends_of p r same [] = refl
  first-ends_of p r same (e ∷ names) =
      ap (λ b. option_map (λ (f : List ℕ × Lease). f.0) (cond b (Some (e.0, lease_of e.1)) (list.find p (ends_of names)))) (same e)
      ∙ elim (r e) as (λ b. option_map (λ (f : List ℕ × Lease). f.0) (cond b (Some (e.0, lease_of e.1)) (list.find p (ends_of names))) ≡ option_map (λ (f : List ℕ × Leased B). f.0) (cond b (Some e) (list.find r names))) [
        | true ↦ refl
        | false ↦ first-ends_of p r same names
      ]
