-- The greatest name at or under a path: the last one before the path's text and the byte after the slash, where it is
-- under the path, and else the path itself.
use Rattle.std.proofs.Common.{◌≡◌, ℕ, ◌<◌, nat_eq, Bool, true, false, ◌&&◌, ◌||◌, cond, List, [], ◌∷◌, ◌++◌, length, drop, refl, sym, ap, subst, ◌∙◌, append_assoc, arith, Some, None}
use Rattle.std.specs.declared.option.Option.{Option}
use Rattle.std.specs.declared.cmp.Ordering.{Ordering}
use Rattle.std.specs.declared.cmp.Ordering.TheVariants.{Less, Equal, Greater}
use Rattle.std.specs.Ordering.{nat_cmp, ordering_then, ordering_reverse, is_eq, is_lt}
use Rattle.std.specs.Option.{option_map, option_or, unwrap_or}
use Rattle.std.specs.Cmp.{ranked, nat_cmp_total, tied_itself, Equal-is}
use Rattle.std.specs.Cmp.Lexicographic.{nat_list_cmp_total}
use Rattle.std.specs.List.{AllByRecursion}
use Rattle.std.specs.List.Sorted.{IsStrictlySortedBy}
use Rattle.std.specs.Map.{keys_of}
use Rattle.std.specs.FinMap.{find}
use Rattle.std.proofs.lemmas.Map.Keys.{sorted_tail}
use Rattle.std.proofs.lemmas.Bool.{or_right}
use Rattle.std.proofs.lemmas.Bool.Decides.{nat_tests}
use Rattle.std.proofs.lemmas.List.{append-nil}
use Rattle.far_words.specs.Paths.{bytes_cmp, slash}
use Rattle.lease_tree.specs.Under.{is_same, is_under, is_before, stem}
use Rattle.lease_tree.specs.declared.lease.Lease.{Lease}
use Rattle.lease_tree.specs.Leases.{Ends, find_last, last_before}
use Rattle.lease_tree.specs.Names.{Names, Leased, lease_of, ends_of}
use Rattle.lease_tree.proofs.Found.{or_none}
use Rattle.lease_tree.proofs.Joins.{Are, above_head}
use Rattle.lease_tree.proofs.Puts.{same_name, less_back}
use Rattle.lease_tree.proofs.Texts.{begins, begins-rest, cmp-front, not_after, no_greater}

-- the text after all names under a path
abbrev pub past_under : List ℕ → List ℕ
past_under path = path ++ 48 ∷ []

or_false : (a b : Bool) → (a || b) ≡ true → (a ≡ false) → b ≡ true
or_false true b e f = absurd (let no : true ≡ false = f in cc)
or_false false b e f = e

-- ---- names around a path

under_before : (path name : List ℕ) → is_under path name ≡ true → is_before (past_under path) name ≡ true
under_before path name under =
    let rest = drop (length (stem path)) name in
    let is : name ≡ path ++ (slash ∷ rest) = begins-rest (stem path) name under ∙ append_assoc path (slash ∷ []) rest in
    ap (λ (n : List ℕ). is_lt (bytes_cmp n (past_under path))) is ∙ ap is_lt (cmp-front path (slash ∷ rest) (48 ∷ []))

same_before : (path name : List ℕ) → is_same path name ≡ true → is_before (past_under path) name ≡ true
same_before path name same =
    let is : path ≡ name = same_name path name ((Equal-is (bytes_cmp path name)).0 same) in
    ap (λ (n : List ℕ). is_lt (bytes_cmp n (past_under path))) (sym is ∙ sym (append-nil path)) ∙ ap is_lt (cmp-front path [] (48 ∷ []))

pub at_before : (path name : List ℕ) → (is_same path name || is_under path name) ≡ true → is_before (past_under path) name ≡ true
at_before path name at =
    elim (is_same path name) as (λ t. is_same path name ≡ t → (t || is_under path name) ≡ true → is_before (past_under path) name ≡ true) [
      | true ↦ λ same _. same_before path name same
      | false ↦ λ _ under. under_before path name under
    ] refl at

-- a text from the slash on, before the byte after it, begins with the slash
between_bytes : (text : List ℕ) → (bytes_cmp (slash ∷ []) text ≡ Greater → ⊥) → bytes_cmp text (48 ∷ []) ≡ Less → begins text (slash ∷ []) ≡ true
between_bytes [] low high = absurd (low refl)
between_bytes (x ∷ text) low high =
    elim (nat_cmp slash x) as (λ o. nat_cmp slash x ≡ o → (ordering_then o (bytes_cmp [] text) ≡ Greater → ⊥) → (nat_eq slash x && true) ≡ true) [
      | Less ↦ λ is l.
          let above : slash < x = ranked slash x Less (sym is) in
          elim (nat_cmp x 48) as (λ o. nat_cmp x 48 ≡ o → ordering_then o (bytes_cmp text []) ≡ Less → (nat_eq slash x && true) ≡ true) [
            | Less ↦ λ e h. let below : x < 48 = ranked x 48 Less (sym e) in absurd (omega arith)
            | Equal ↦ λ e h. absurd (no_less text h)
            | Greater ↦ λ e h. absurd (no_greater h)
          ] refl high
      | Equal ↦ λ is l. let same : slash ≡ x = ranked slash x Equal (sym is) in let one : nat_eq slash x ≡ true = grind (arith, nat_tests, same) in ap (λ b. b && true) one
      | Greater ↦ λ is l. absurd (l refl)
    ] refl low
  where
    no_less : (t : List ℕ) → bytes_cmp t [] ≡ Less → ⊥
    no_less [] e = let no : Equal ≡ Less = e in cc
    no_less (y ∷ t) e = let no : Greater ≡ Less = e in cc

-- and so for what comes after a path
between_under : (path text : List ℕ) → (bytes_cmp (stem path) text ≡ Greater → ⊥) → bytes_cmp text (past_under path) ≡ Less → is_under path text ≡ true
between_under [] text low high = between_bytes text low high
between_under (x ∷ path) [] low high = absurd (low refl)
between_under (x ∷ path) (y ∷ text) low high =
    elim (nat_cmp x y) as (λ o. nat_cmp x y ≡ o → (ordering_then o (bytes_cmp (stem path) text) ≡ Greater → ⊥) → ordering_then (ordering_reverse o) (bytes_cmp text (past_under path)) ≡ Less → (nat_eq x y && begins text (stem path)) ≡ true) [
      | Less ↦ λ is l h. absurd (no_greater h)
      | Equal ↦ λ is l h.
          let same : x ≡ y = ranked x y Equal (sym is) in
          let one : nat_eq x y ≡ true = grind (arith, nat_tests, same) in
          ap (λ t. t && begins text (stem path)) one ∙ between_under path text l h
      | Greater ↦ λ is l h. absurd (l refl)
    ] refl low (ap (λ o. ordering_then o (bytes_cmp text (past_under path))) (sym (nat_cmp_total.antisymm y x)) ∙ high)

pub is_less : (o : Ordering) → is_lt o ≡ true → o ≡ Less
is_less Less e = refl
is_less Equal e = let no : false ≡ true = e in cc
is_less Greater e = let no : false ≡ true = e in cc

-- a name under a path, with a later one before the end: that one is under it too
later_under : (path name later : List ℕ) → is_under path name ≡ true → bytes_cmp name later ≡ Less → is_before (past_under path) later ≡ true → is_under path later ≡ true
later_under path name later under less before =
    let rest = drop (length (stem path)) name in
    let is = begins-rest (stem path) name under in
    between_under path later
    (λ greater.
    let back : bytes_cmp later (stem path) ≡ Less = nat_list_cmp_total.antisymm later (stem path) ∙ ap ordering_reverse greater in
    not_after (stem path) rest (ap (bytes_cmp (stem path)) (sym is) ∙ (nat_list_cmp_total.antisymm (stem path) name ∙ ap ordering_reverse (nat_list_cmp_total.trans name later (stem path) less back))))
    (is_less (bytes_cmp later (past_under path)) before)

-- so where that one isn't, neither is the earlier
not_under : (path name later : List ℕ) → bytes_cmp name later ≡ Less → is_before (past_under path) later ≡ true → is_under path later ≡ false → is_under path name ≡ false
not_under path name later less before apart = elim (is_under path name) as (λ b. is_under path name ≡ b → b ≡ false) [ true ↦ λ is. sym (later_under path name later is less before) ∙ apart | false ↦ λ is. refl ] refl

-- ---- the last that passes

module _ {X : Type 0} (path : List ℕ) where
  abbrev pub at : List ℕ × X → Bool
  at e = is_same path e.0 || is_under path e.0

  abbrev pub early : List ℕ × X → Bool
  early e = is_before (past_under path) e.0

  abbrev pub itself : List ℕ × X → Bool
  itself e = is_same path e.0

  not_early : (e : List ℕ × X) → early e ≡ false → at e ≡ false
  not_early e late = elim (at e) as (λ b. at e ≡ b → b ≡ false) [ true ↦ λ is. sym (at_before path e.0 is) ∙ late | false ↦ λ is. refl ] refl

  -- none passes where none is early
  none_early : (names : List (List ℕ × X)) → find_last early names ≡ None → find_last at names ≡ None
  none_early [] none = refl
  none_early (e ∷ names) none =
      elim (find_last early names) as (λ o. find_last early names ≡ o → option_or o (cond (early e) (Some e) None) ≡ None → option_or (find_last at names) (cond (at e) (Some e) None) ≡ None) [
        | None ↦ λ is.
            elim (early e) as (λ b. early e ≡ b → option_or None (cond b (Some e) None) ≡ None → option_or (find_last at names) (cond (at e) (Some e) None) ≡ None) [
              | true ↦ λ is2 bad. absurd (let no : Some e ≡ None = bad in cc)
              | false ↦ λ is2 _. (λ i. option_or (none_early names is i) (cond (not_early e is2 i) (Some e) None))
            ] refl
        | Some f ↦ λ is bad. absurd (let no : Some f ≡ None = bad in cc)
      ] refl none

  -- the last early one is the last at or under the path, where it is one
  last_at : (names : List (List ℕ × X)) (f : List ℕ × X) → find_last early names ≡ Some f → at f ≡ true → find_last at names ≡ Some f
  last_at [] f is there = absurd (let no : None ≡ Some f = is in cc)
  last_at (e ∷ names) f is there =
      elim (find_last early names) as (λ o. find_last early names ≡ o → option_or o (cond (early e) (Some e) None) ≡ Some f → option_or (find_last at names) (cond (at e) (Some e) None) ≡ Some f) [
        | None ↦ λ none.
            elim (early e) as (λ b. option_or None (cond b (Some e) None) ≡ Some f → option_or (find_last at names) (cond (at e) (Some e) None) ≡ Some f) [
              | true ↦ λ same.
                  let here : at e ≡ true = ap (λ (o : Option (List ℕ × X)). at (unwrap_or o e)) same ∙ there in
                  (λ i. option_or (none_early names none i) (cond (here i) (Some e) None)) ∙ same
              | false ↦ λ bad. absurd (let no : None ≡ Some f = bad in cc)
            ]
        | Some g ↦ λ later same. ap (λ o. option_or o (cond (at e) (Some e) None)) (last_at names f (later ∙ same) there)
      ] refl is

  -- what holds of all holds of the one that is found
  found_of_all : (R : List ℕ × X → Type 0) (test : List ℕ × X → Bool) (names : List (List ℕ × X)) (f : List ℕ × X) → AllByRecursion R names → find_last test names ≡ Some f → R f
  found_of_all R test [] f all is = absurd (let no : None ≡ Some f = is in cc)
  found_of_all R test (e ∷ names) f all is =
      elim (find_last test names) as (λ o. find_last test names ≡ o → option_or o (cond (test e) (Some e) None) ≡ Some f → R f) [
        | None ↦ λ none.
            elim (test e) as (λ b. option_or None (cond b (Some e) None) ≡ Some f → R f) [
              | true ↦ λ same. subst R (ap (λ (o : Option (List ℕ × X)). unwrap_or o e) same) all.0
              | false ↦ λ bad. absurd (let no : None ≡ Some f = bad in cc)
            ]
        | Some g ↦ λ later same. found_of_all R test names f all.1 (later ∙ same)
      ] refl is

  -- and it passes
  pub found_passes : (test : List ℕ × X → Bool) (names : List (List ℕ × X)) (f : List ℕ × X) → find_last test names ≡ Some f → test f ≡ true
  found_passes test [] f is = absurd (let no : None ≡ Some f = is in cc)
  found_passes test (e ∷ names) f is =
      elim (find_last test names) as (λ o. find_last test names ≡ o → option_or o (cond (test e) (Some e) None) ≡ Some f → test f ≡ true) [
        | None ↦ λ none.
            elim (test e) as (λ b. test e ≡ b → option_or None (cond b (Some e) None) ≡ Some f → test f ≡ true) [
              | true ↦ λ passes same. sym (ap (λ (o : Option (List ℕ × X)). test (unwrap_or o e)) same) ∙ passes
              | false ↦ λ _ bad. absurd (let no : None ≡ Some f = bad in cc)
            ] refl
        | Some g ↦ λ later same. found_passes test names f (later ∙ same)
      ] refl is

  no_name_under : (e : List ℕ × X) → early e ≡ false → is_under path e.0 ≡ false
  no_name_under e late = elim (is_under path e.0) as (λ b. is_under path e.0 ≡ b → b ≡ false) [ true ↦ λ is. sym (under_before path e.0 is) ∙ late | false ↦ λ is. refl ] refl

  all_late : (names : List (List ℕ × X)) → find_last early names ≡ None → AllByRecursion (λ e. is_under path e.0 ≡ false) names
  all_late [] none = tt
  all_late (e ∷ names) none =
      elim (find_last early names) as (λ o. find_last early names ≡ o → option_or o (cond (early e) (Some e) None) ≡ None → AllByRecursion (λ f. is_under path f.0 ≡ false) (e ∷ names)) [
        | None ↦ λ is.
            elim (early e) as (λ b. early e ≡ b → option_or None (cond b (Some e) None) ≡ None → AllByRecursion (λ f. is_under path f.0 ≡ false) (e ∷ names)) [
              | true ↦ λ _ bad. absurd (let no : Some e ≡ None = bad in cc)
              | false ↦ λ late _. (no_name_under e late, all_late names is)
            ] refl
        | Some f ↦ λ is bad. absurd (let no : Some f ≡ None = bad in cc)
      ] refl none

  -- where the last early name isn't under the path none is
  none_under : (names : List (List ℕ × X)) (f : List ℕ × X) → IsStrictlySortedBy bytes_cmp (keys_of names) → find_last early names ≡ Some f → is_under path f.0 ≡ false → AllByRecursion (λ e. is_under path e.0 ≡ false) names
  none_under [] f ordered is apart = tt
  none_under (e ∷ names) f ordered is apart =
      elim (find_last early names) as (λ o. find_last early names ≡ o → option_or o (cond (early e) (Some e) None) ≡ Some f → AllByRecursion (λ n. is_under path n.0 ≡ false) (e ∷ names)) [
        | None ↦ λ none.
            elim (early e) as (λ b. option_or None (cond b (Some e) None) ≡ Some f → AllByRecursion (λ n. is_under path n.0 ≡ false) (e ∷ names)) [
              | true ↦ λ same. (ap (λ (o : Option (List ℕ × X)). is_under path (unwrap_or o e).0) same ∙ apart, all_late names none)
              | false ↦ λ bad. absurd (let no : None ≡ Some f = bad in cc)
            ]
        | Some g ↦ λ later same.
            let found = later ∙ same in
            let less = found_of_all (λ n. bytes_cmp e.0 n.0 ≡ Less) early names f (above_head e names ordered) found in
            (not_under path e.0 f.0 less (found_passes early names f found) apart, none_under names f (sorted_tail bytes_cmp e.0 (keys_of names) ordered) found apart)
      ] refl is

  -- then the path itself is all that is at or under it
  only_itself : (names : List (List ℕ × X)) → AllByRecursion (λ e. is_under path e.0 ≡ false) names → find_last at names ≡ find_last itself names
  only_itself [] all = refl
  only_itself (e ∷ names) all =
      let one : at e ≡ itself e = elim (is_same path e.0) as (λ b. (b || is_under path e.0) ≡ b) [ true ↦ refl | false ↦ all.0 ] in
      λ i. option_or (only_itself names all.1 i) (cond (one i) (Some e) None)

  itself_found : (names : List (List ℕ × X)) → option_map (λ e. e.0) (find_last itself names) ≡ option_map (λ _. path) (find bytes_cmp path names)
  itself_found [] = refl
  itself_found (e ∷ names) =
      elim (is_same path e.0) as (λ b. is_same path e.0 ≡ b → option_map (λ f. f.0) (option_or (find_last itself names) (cond b (Some e) None)) ≡ option_map (λ _. path) (cond b (Some e.1) (find bytes_cmp path names))) [
        | true ↦ λ is.
            let same : path ≡ e.0 = same_name path e.0 ((Equal-is (bytes_cmp path e.0)).0 is) in
            elim (find_last itself names) as (λ o. option_map (λ f. f.0) o ≡ option_map (λ _. path) (find bytes_cmp path names) → find_last itself names ≡ o → option_map (λ f. f.0) (option_or o (Some e)) ≡ Some path) [
              | None ↦ λ _ _. ap Some (sym same)
              | Some f ↦ λ _ found. ap Some (sym (same_name path f.0 ((Equal-is (bytes_cmp path f.0)).0 (found_passes itself names f found))))
            ] (itself_found names) refl
        | false ↦ λ is. ap (option_map (λ (f : List ℕ × X). f.0)) (or_none (find_last itself names)) ∙ itself_found names
      ] refl

  -- ---- what that comes to, by the last early name

  pub last_under_found : (names : List (List ℕ × X)) (k : List ℕ) → option_map (λ e. e.0) (find_last early names) ≡ Some k → is_under path k ≡ true → option_map (λ e. e.0) (find_last at names) ≡ Some k
  last_under_found names k is under =
      elim (find_last early names) as (λ o. find_last early names ≡ o → option_map (λ e. e.0) o ≡ Some k → option_map (λ e. e.0) (find_last at names) ≡ Some k) [
        | None ↦ λ _ bad. absurd (let no : None ≡ Some k = bad in cc)
        | Some f ↦ λ found key.
            let same : f.0 ≡ k = ap (λ (o : Option (List ℕ)). unwrap_or o k) key in
            let there : at f ≡ true = or_right (is_same path f.0) (is_under path f.0) (ap (is_under path) same ∙ under) in
            ap (option_map (λ (e : List ℕ × X). e.0)) (last_at names f found there) ∙ key
      ] refl is

  pub last_apart : (names : List (List ℕ × X)) (k : List ℕ) → IsStrictlySortedBy bytes_cmp (keys_of names) → option_map (λ e. e.0) (find_last early names) ≡ Some k → is_under path k ≡ false
      → option_map (λ e. e.0) (find_last at names) ≡ option_map (λ _. path) (find bytes_cmp path names)
  last_apart names k ordered is apart =
      elim (find_last early names) as (λ o. find_last early names ≡ o → option_map (λ e. e.0) o ≡ Some k → option_map (λ e. e.0) (find_last at names) ≡ option_map (λ _. path) (find bytes_cmp path names)) [
        | None ↦ λ _ bad. absurd (let no : None ≡ Some k = bad in cc)
        | Some f ↦ λ found key.
            let same : f.0 ≡ k = ap (λ (o : Option (List ℕ)). unwrap_or o k) key in
            ap (option_map (λ (e : List ℕ × X). e.0)) (only_itself names (none_under names f ordered found (ap (is_under path) same ∙ apart))) ∙ itself_found names
      ] refl is

  pub last_missed : (names : List (List ℕ × X)) → option_map (λ e. e.0) (find_last early names) ≡ None → option_map (λ e. e.0) (find_last at names) ≡ option_map (λ _. path) (find bytes_cmp path names)
  last_missed names is =
      elim (find_last early names) as (λ o. find_last early names ≡ o → option_map (λ e. e.0) o ≡ None → option_map (λ e. e.0) (find_last at names) ≡ option_map (λ _. path) (find bytes_cmp path names)) [
        | None ↦ λ none _. ap (option_map (λ (e : List ℕ × X). e.0)) (only_itself names (all_late names none)) ∙ itself_found names
        | Some f ↦ λ _ bad. absurd (let no : Some f.0 ≡ None = bad in cc)
      ] refl is

-- a name that is found last is found by its name
pub found_by_name : {X : Type 0} (test : List ℕ × X → Bool) (names : List (List ℕ × X)) (f : List ℕ × X) → IsStrictlySortedBy bytes_cmp (keys_of names) → find_last test names ≡ Some f → find bytes_cmp f.0 names ≡ Some f.1
found_by_name test [] f ordered is = absurd (let no : None ≡ Some f = is in cc)
found_by_name {X} test (e ∷ names) f ordered is =
    elim (find_last test names) as (λ o. find_last test names ≡ o → option_or o (cond (test e) (Some e) None) ≡ Some f → find bytes_cmp f.0 (e ∷ names) ≡ Some f.1) [
      | None ↦ λ none.
          elim (test e) as (λ b. option_or None (cond b (Some e) None) ≡ Some f → find bytes_cmp f.0 (e ∷ names) ≡ Some f.1) [
            | true ↦ λ same.
                let one : e ≡ f = ap (λ (o : Option (List ℕ × X)). unwrap_or o e) same in
                subst (λ (g : List ℕ × X). find bytes_cmp g.0 (e ∷ names) ≡ Some g.1) one (ap (λ o. cond (is_eq o) (Some e.1) (find bytes_cmp e.0 names)) (tied_itself nat_list_cmp_total e.0))
            | false ↦ λ bad. absurd (let no : None ≡ Some f = bad in cc)
          ]
      | Some g ↦ λ later same.
          let found = later ∙ same in
          let less = found_of_all [] (λ n. bytes_cmp e.0 n.0 ≡ Less) test names f (above_head e names ordered) found in
          ap (λ o. cond (is_eq o) (Some e.1) (find bytes_cmp f.0 names)) (less_back e.0 f.0 less) ∙ found_by_name test names f (sorted_tail bytes_cmp e.0 (keys_of names) ordered) found
    ] refl is

-- ---- among leases

map_or : {A C : Type 0} (f : A → C) (a b : Option A) → option_map f (option_or a b) ≡ option_or (option_map f a) (option_map f b)
map_or f None b = refl
map_or f (Some x) b = refl

last-ends_of : {B : Type 0} (text : List ℕ) (names : Names B) → last_before text (ends_of names) ≡ last_before text names
last-ends_of text [] = refl
last-ends_of {B} text (e ∷ names) =
    let here : option_map (λ (f : List ℕ × Lease). f.0) (cond (is_before text e.0) (Some (e.0, lease_of e.1)) None) ≡ option_map (λ (f : List ℕ × Leased B). f.0) (cond (is_before text e.0) (Some e) None)
    = elim (is_before text e.0) as (λ b. option_map (λ (f : List ℕ × Lease). f.0) (cond b (Some (e.0, lease_of e.1)) None) ≡ option_map (λ (f : List ℕ × Leased B). f.0) (cond b (Some e) None)) [ true ↦ refl | false ↦ refl ] in
    map_or (λ (f : List ℕ × Lease). f.0) (find_last (λ f. is_before text f.0) (ends_of names)) (cond (is_before text e.0) (Some (e.0, lease_of e.1)) None)
    ∙ (λ i. option_or (last-ends_of text names i) (here i))
    ∙ sym (map_or (λ (f : List ℕ × Leased B). f.0) (find_last (λ f. is_before text f.0) names) (cond (is_before text e.0) (Some e) None))

pub last_is : {B : Type 0} (text : List ℕ) (names : Names B) (bodies : List (List ℕ × B)) (ends : Ends) → Are names bodies ends → last_before text ends ≡ last_before text names
last_is text names bodies ends a = ap (last_before text) a.ends_are ∙ last-ends_of text names
