-- Names of which one body was lent.
use borrow.Follows.Closed.{read_of}
use Rattle.std.proofs.Common.{◌≡◌, ℕ, Bool, true, false, cond, List, [], ◌∷◌, refl, sym, ap, subst, ◌∙◌, inl, inr, MutBor, Some, None}
use Rattle.std.specs.declared.option.Option.{Option}
use Rattle.std.specs.Option.{option_map, ghost_name_of}
use Rattle.std.specs.List.{AllByRecursion}
use Rattle.std.specs.List.Sorted.{IsStrictlySortedBy}
use Rattle.std.specs.Map.{keys_of, set_value}
use Rattle.std.specs.BTreeMap.{is_at}
use Rattle.std.specs.FinMap.{find}
use Rattle.far_words.specs.Paths.{bytes_cmp}
use Rattle.lease_tree.specs.Under.{is_same}
use Rattle.lease_tree.specs.declared.lease.Change.TheVariants.{Wake}
use Rattle.lease_tree.specs.Leases.{Ends, changed, changed_where}
use Rattle.lease_tree.specs.Names.{Leased, Names, joined}
use Rattle.lease_tree.specs.Lending.{with_body}
use Rattle.lease_tree.proofs.Changes.{changed-none}
use Rattle.lease_tree.proofs.Joins.{Are, joined_are, keys-changed, ends_of-changed, bodies_of-set, are_changed}

-- names are in order where one's value changes
pub ordered-changed : {X : Type 0} (test : List ℕ → Bool) (f : X → X) (names : List (List ℕ × X)) → IsStrictlySortedBy bytes_cmp (keys_of names) → IsStrictlySortedBy bytes_cmp (keys_of (changed_where test f names))
ordered-changed test f names s = subst (IsStrictlySortedBy bytes_cmp) (sym (keys-changed test f names)) s

-- a name that isn't found has nothing that changes
pub missing : {X : Type 0} (q : List ℕ) (f : X → X) (names : List (List ℕ × X)) → find bytes_cmp q names ≡ None → changed_where (is_same q) f names ≡ names
missing {X} q f names none = changed-none (is_same q) f names (by names none)
  where
    by : (ms : List (List ℕ × X)) → find bytes_cmp q ms ≡ None → AllByRecursion (λ e. is_same q e.0 ≡ false) ms
    by [] none = tt
    by (m ∷ ms) none =
        elim (is_same q m.0) as (λ t. is_same q m.0 ≡ t → cond t (Some m.1) (find bytes_cmp q ms) ≡ None → AllByRecursion (λ e. is_same q e.0 ≡ false) (m ∷ ms)) [
          | true ↦ λ t bad. absurd (let no : Some m.1 ≡ None = bad in cc)
          | false ↦ λ t rest. (t, by ms rest)
        ] refl none

module _ {B : Type 0} (q : List ℕ) (names : Names B) (bodies : List (List ℕ × B)) (ends woken : Ends) (a : Are names bodies ends) (is : woken ≡ changed_where (is_same q) (changed Wake) ends) where
  -- the body that came back
  pub lent : (w : B) (new : List (List ℕ × B)) → new ≡ set_value (is_at (bytes_cmp q)) bodies w → Are (changed_where (is_same q) (with_body w) names) new woken
  lent w new set = record {
    ordered = ordered-changed (is_same q) (with_body w) names a.ordered;
    bodies_are = set ∙ ap (λ (bs : List (List ℕ × B)). set_value (is_at (bytes_cmp q)) bs w) a.bodies_are ∙ bodies_of-set q w (with_body w) (λ name. refl) names a.ordered;
    ends_are = is ∙ ap (changed_where (is_same q) (changed Wake)) a.ends_are ∙ ends_of-changed (is_same q) (changed Wake) (with_body w) (λ name. refl) names;
  }

  abbrev pub woke : Leased B → Leased B
  woke name = record { end = name.end; settled = false; body = name.body }

  pub unlent : Are (changed_where (is_same q) woke names) bodies woken
  unlent = are_changed (is_same q) (changed Wake) woke (λ name. refl) (λ name. refl) names bodies ends woken a is

  -- where the name isn't there, all is as before
  pub unlent_is : (new : List (List ℕ × B)) → new ≡ bodies → find bytes_cmp q names ≡ None → joined new woken ≡ names
  unlent_is new same none =
      ap (λ (bs : List (List ℕ × B)). joined bs woken) same
      ∙ joined_are (changed_where (is_same q) woke names) bodies woken unlent
      ∙ missing q woke names none

  pub lent_is : (w : B) (new : List (List ℕ × B)) → new ≡ set_value (is_at (bytes_cmp q)) bodies w → joined new woken ≡ changed_where (is_same q) (with_body w) names
  lent_is w new set = joined_are (changed_where (is_same q) (with_body w) names) new woken (lent w new set)

pub none_of_mapped : {X Y : Type 0} (f : X → Y) (o : Option X) → None ≡ option_map f o → o ≡ None
none_of_mapped f None is = refl
none_of_mapped f (Some x) is = absurd (let no : None ≡ Some (f x) = is in cc)

-- two readings of a loan that agree on what comes back, and on nothing where nothing was lent
pub same_read : {D E : Type 0} (o : Option (MutBor E)) (F G : E → D) (u v : D) → ((w : E) → F w ≡ G w) → (o ≡ None → u ≡ v) → read_of (ghost_name_of o) F u ≡ read_of (ghost_name_of o) G v
same_read None F G u v agree none = ap inr (none refl)
same_read (Some r) F G u v agree none = λ t. inl (r.ghost_name, λ w. agree w t)
