-- A tree without the greatest name at or under a path.
use Rattle.std.proofs.Common.{◌≡◌, ℕ, List, IfSome, refl, sym, ap, ◌∙◌, Some, None}
use Rattle.std.specs.declared.option.Option.{Option}
use Rattle.std.specs.declared.cmp.Ordering.TheVariants.{Equal}
use Rattle.std.specs.Option.{option_map, option_map_or, unwrap_or}
use Rattle.std.specs.List.Sorted.{IsStrictlySortedBy}
use Rattle.std.specs.Map.{keys_of, lookup, remove_entry}
use Rattle.std.specs.BTreeMap.{is_at}
use Rattle.std.specs.FinMap.{find}
use Rattle.far_words.specs.Paths.{bytes_cmp}
use Rattle.lease_tree.specs.Leases.{Ends, without}
use Rattle.lease_tree.specs.Names.{Names, Leased, joined, AreOfSame}
use Rattle.lease_tree.specs.Trees.{last_under}
use Rattle.lease_tree.proofs.Joins.{Are, of_same, joined_are, found_body, are_without}
use Rattle.lease_tree.proofs.Lasts.{at, found_by_name}
use Rattle.lease_tree.proofs.Puts.{same_name}

module _ {B : Type 0} (names : Names B) (new : List (List ℕ × B)) (later : Ends) where
  -- what is there once one name was taken out
  pub record IsDropped (last : Option (List ℕ × Leased B)) (result : Option (List ℕ × B)) : Type 0 where
    pub taken : result ≡ option_map (λ e. (e.0, e.1.body)) last
    pub others : joined new later ≡ option_map_or (λ e. without e.0 names) last names
    pub same : AreOfSame new later

  pair_is : (k : List ℕ) (result : Option (List ℕ × B)) (body : B) → IfSome result (λ p. bytes_cmp k p.0 ≡ Equal) → option_map (λ p. p.1) result ≡ Some body → result ≡ Some (k, body)
  pair_is k None body same value = absurd (let no : None ≡ Some body = value in cc)
  pair_is k (Some p) body same value =
      let name : k ≡ p.0 = same_name k p.0 same in
      let is : p.1 ≡ body = ap (λ (o : Option B). unwrap_or o p.1) value in
      λ i. Some (sym name i, is i)

  pub dropped : (path k : List ℕ) (result : Option (List ℕ × B)) (bodies : List (List ℕ × B)) (ends : Ends) → Are names bodies ends → Some k ≡ option_map (λ e. e.0) (last_under path names) → later ≡ without k ends
      → new ≡ remove_entry (is_at (bytes_cmp k)) bodies → IsStrictlySortedBy bytes_cmp (keys_of new) → IfSome result (λ p. bytes_cmp k p.0 ≡ Equal) → option_map (λ p. p.1) result ≡ lookup (is_at (bytes_cmp k)) bodies
      → IsDropped (last_under path names) result
  dropped path k result bodies ends a last later_is new_is ordered same value =
      elim (last_under path names) as (λ o. last_under path names ≡ o → Some k ≡ option_map (λ e. e.0) o → IsDropped o result) [
        | None ↦ λ _ bad. absurd (let no : Some k ≡ None = bad in cc)
        | Some f ↦ λ found key.
            let here : k ≡ f.0 = ap (λ (o : Option (List ℕ)). unwrap_or o k) key in
            let rest = are_without k names bodies new ends later a new_is ordered later_is in
            let there : find bytes_cmp k names ≡ Some f.1 = ap (λ (q : List ℕ). find bytes_cmp q names) here ∙ found_by_name (at path) names f a.ordered found in
            let body : lookup (is_at (bytes_cmp k)) bodies ≡ Some f.1.body = found_body k names bodies ends a ∙ ap (option_map (λ (name : Leased B). name.body)) there in
            record {
              taken = pair_is k result f.1.body same (value ∙ body) ∙ ap (λ (q : List ℕ). Some (q, f.1.body)) here;
              others = joined_are (without k names) new later rest ∙ ap (λ (q : List ℕ). without q names) here;
              same = of_same (without k names) new later rest;
            }
      ] refl last
