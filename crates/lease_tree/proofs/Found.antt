-- What is found among names, at the side where it stands.
use Rattle.std.proofs.Common.{◌≡◌, ℕ, ◌≤◌, min, Bool, true, false, ◌&&◌, cond, List, [], ◌∷◌, ◌++◌, refl, sym, ap, ◌∙◌, arith, Some, None}
use Rattle.std.specs.declared.option.Option.{Option}
use Rattle.std.specs.declared.cmp.Ordering.TheVariants.{Less, Equal, Greater}
use Rattle.std.specs.Ordering.{is_eq, is_lt}
use Rattle.std.specs.Option.{option_map, option_or}
use Rattle.std.specs.List as list
use Rattle.std.specs.Cmp.{tied_itself}
use Rattle.std.specs.Cmp.Lexicographic.{nat_list_cmp_total}
use Rattle.std.specs.FinMap.{find}
use Rattle.std.proofs.lemmas.Bool.{ltb-false, le-ltb}
use Rattle.std.proofs.lemmas.List.Folds.{find-append}
use Rattle.far_words.specs.Paths.{bytes_cmp}
use Rattle.lease_tree.specs.Under.{is_past, is_before}
use Rattle.lease_tree.specs.declared.lease.Lease.{Lease}
use Rattle.lease_tree.specs.Leases.{Ends, AreBelow, AreAbove, due_of, is_reached, is_due, is_wanted, first_wanted, find_last, last_before, least_due}
use Rattle.lease_tree.proofs.Between.{above_earlier}
use Rattle.lease_tree.proofs.Puts.{less_back}

module _ {X : Type 0} where
  -- a name before all of these is none of them, nor one after them
  find-above : (q : List ℕ) (names : List (List ℕ × X)) → AreAbove q names → find bytes_cmp q names ≡ None
  find-above q [] above = refl
  find-above q (e ∷ names) above = ap (λ o. cond (is_eq o) (Some e.1) (find bytes_cmp q names)) above.0 ∙ find-above q names above.1

  find-past : (q : List ℕ) (e : List ℕ × X) (names : List (List ℕ × X)) → bytes_cmp e.0 q ≡ Less → find bytes_cmp q (e ∷ names) ≡ find bytes_cmp q names
  find-past q e names less = ap (λ o. cond (is_eq o) (Some e.1) (find bytes_cmp q names)) (less_back e.0 q less)

  pub find-low : (q : List ℕ) (left : List (List ℕ × X)) (e : List ℕ × X) (right : List (List ℕ × X)) → bytes_cmp q e.0 ≡ Less → AreAbove e.0 right → find bytes_cmp q (left ++ e ∷ right) ≡ find bytes_cmp q left
  find-low q [] e right less above = find-above q (e ∷ right) (less, above_earlier q e.0 right less above)
  find-low q (f ∷ left) e right less above = ap (cond (is_eq (bytes_cmp q f.0)) (Some f.1)) (find-low q left e right less above)

  pub find-high : (q : List ℕ) (left : List (List ℕ × X)) (e : List ℕ × X) (right : List (List ℕ × X)) → bytes_cmp e.0 q ≡ Less → AreBelow e.0 left → find bytes_cmp q (left ++ e ∷ right) ≡ find bytes_cmp q right
  find-high q [] e right less below = find-past q e right less
  find-high q (f ∷ left) e right less below =
      find-past q f (left ++ e ∷ right) (nat_list_cmp_total.trans f.0 e.0 q below.0 less) ∙ find-high q left e right less below.1

  pub find-here : (left : List (List ℕ × X)) (e : List ℕ × X) (right : List (List ℕ × X)) → AreBelow e.0 left → find bytes_cmp e.0 (left ++ e ∷ right) ≡ Some e.1
  find-here [] e right below = ap (λ o. cond (is_eq o) (Some e.1) (find bytes_cmp e.0 right)) (tied_itself nat_list_cmp_total e.0)
  find-here (f ∷ left) e right below = find-past e.0 f (left ++ e ∷ right) below.0 ∙ find-here left e right below.1

-- ---- the first that is wanted

-- what stands before a name that isn't past isn't past either
past_earlier : (after : Option (List ℕ)) (j k : List ℕ) → bytes_cmp j k ≡ Less → is_past after k ≡ false → is_past after j ≡ false
past_earlier None j k less is = is
past_earlier (Some text) j k less is =
    elim (bytes_cmp text j) as (λ o. bytes_cmp text j ≡ o → is_lt o ≡ false) [
      | Less ↦ λ e. sym (ap is_lt (nat_list_cmp_total.trans text j k e less)) ∙ is
      | Equal ↦ λ e. refl
      | Greater ↦ λ e. refl
    ] refl

module _ (after : Option (List ℕ)) (now : Option ℕ) where
  unwanted : (e : List ℕ × Lease) (ends : Ends) → is_wanted after now e ≡ false → list.find (is_wanted after now) (e ∷ ends) ≡ list.find (is_wanted after now) ends
  unwanted e ends is = ap (λ b. cond b (Some e) (list.find (is_wanted after now) ends)) is

  none_past : (k : List ℕ) (ends : Ends) → AreBelow k ends → is_past after k ≡ false → list.find (is_wanted after now) ends ≡ None
  none_past k [] below is = refl
  none_past k (e ∷ ends) below is = unwanted e ends (ap (λ b. b && is_due now e.1) (past_earlier after e.0 k below.0 is)) ∙ none_past k ends below.1 is

  pub first-high : (left : Ends) (e : List ℕ × Lease) (right : Ends) → AreBelow e.0 left → is_past after e.0 ≡ false → first_wanted after now (left ++ e ∷ right) ≡ first_wanted after now right
  first-high left e right below is =
      ap (option_map (λ f. f.0))
      (find-append (is_wanted after now) left (e ∷ right)
      ∙ ap (λ o. option_or o (list.find (is_wanted after now) (e ∷ right))) (none_past e.0 left below is)
      ∙ unwanted e right (ap (λ b. b && is_due now e.1) is))

  pub first-low : (p : List ℕ) (left : Ends) (e : List ℕ × Lease) (right : Ends) → first_wanted after now left ≡ Some p → first_wanted after now (left ++ e ∷ right) ≡ Some p
  first-low p left e right is =
      ap (option_map (λ f. f.0)) (find-append (is_wanted after now) left (e ∷ right))
      ∙ elim (list.find (is_wanted after now) left) as (λ o. option_map (λ f. f.0) o ≡ Some p → option_map (λ f. f.0) (option_or o (list.find (is_wanted after now) (e ∷ right))) ≡ Some p) [
        | None ↦ λ no. absurd (let bad : None ≡ Some p = no in cc)
        | Some f ↦ λ found. found
      ] is

  pub first-later : (left : Ends) (e : List ℕ × Lease) (right : Ends) → first_wanted after now left ≡ None → first_wanted after now (left ++ e ∷ right) ≡ first_wanted after now (e ∷ right)
  first-later left e right is =
      ap (option_map (λ f. f.0)) (find-append (is_wanted after now) left (e ∷ right))
      ∙ elim (list.find (is_wanted after now) left) as (λ o. option_map (λ f. f.0) o ≡ None → option_map (λ f. f.0) (option_or o (list.find (is_wanted after now) (e ∷ right))) ≡ first_wanted after now (e ∷ right)) [
        | None ↦ λ none. refl
        | Some f ↦ λ bad. absurd (let no : Some f.0 ≡ None = bad in cc)
      ] is

  pub first-here : (e : List ℕ × Lease) (right : Ends) → is_past after e.0 ≡ true → is_due now e.1 ≡ true → first_wanted after now (e ∷ right) ≡ Some e.0
  first-here e right past due = ap (λ b. option_map (λ f. f.0) (cond b (Some e) (list.find (is_wanted after now) right))) (ap (λ b. b && is_due now e.1) past ∙ due)

  pub first-after : (e : List ℕ × Lease) (right : Ends) → is_past after e.0 ≡ true → is_due now e.1 ≡ false → first_wanted after now (e ∷ right) ≡ first_wanted after now right
  first-after e right past due = ap (λ b. option_map (λ f. f.0) (cond b (Some e) (list.find (is_wanted after now) right))) (ap (λ b. b && is_due now e.1) past ∙ due)

-- a moment that isn't reached at the lesser of two is reached at neither
unreached : (now : Option ℕ) (a b : ℕ) → is_reached now (min a b) ≡ false → (is_reached now a ≡ false) × (is_reached now b ≡ false)
unreached None a b is = (is, is)
unreached (Some m) a b is =
    let above : m ≤ min a b = ltb-false (min a b) m is in
    (le-ltb a m (omega arith), le-ltb b m (omega arith))

pub and_false : (b : Bool) → (b && false) ≡ false
and_false true = refl
and_false false = refl

pub first-none : (after : Option (List ℕ)) (now : Option ℕ) (ends : Ends) → is_reached now (least_due ends) ≡ false → first_wanted after now ends ≡ None
first-none after now [] is = refl
first-none after now (e ∷ ends) is =
    let both = unreached now (due_of e.1) (least_due ends) is in
    ap (λ b. option_map (λ f. f.0) (cond b (Some e) (list.find (is_wanted after now) ends))) (ap (λ b. is_past after e.0 && b) both.0 ∙ and_false (is_past after e.0)) ∙ first-none after now ends both.1

-- ---- the last before a text

pub or_none : {A : Type 0} (o : Option A) → option_or o None ≡ o
or_none None = refl
or_none (Some x) = refl

or_assoc : {A : Type 0} (a b c : Option A) → option_or (option_or a b) c ≡ option_or a (option_or b c)
or_assoc None b c = refl
or_assoc (Some x) b c = refl

find_last-append : {A : Type 0} (test : A → Bool) (xs ys : List A) → find_last test (xs ++ ys) ≡ option_or (find_last test ys) (find_last test xs)
find_last-append test [] ys = sym (or_none (find_last test ys))
find_last-append test (x ∷ xs) ys =
    ap (λ o. option_or o (cond (test x) (Some x) None)) (find_last-append test xs ys)
    ∙ or_assoc (find_last test ys) (find_last test xs) (cond (test x) (Some x) None)

-- what stands after a name that isn't before the text isn't before it either
before_later : (text j k : List ℕ) → bytes_cmp k j ≡ Less → is_before text k ≡ false → is_before text j ≡ false
before_later text j k less is =
    elim (bytes_cmp j text) as (λ o. bytes_cmp j text ≡ o → is_lt o ≡ false) [
      | Less ↦ λ e. sym (ap is_lt (nat_list_cmp_total.trans k j text less e)) ∙ is
      | Equal ↦ λ e. refl
      | Greater ↦ λ e. refl
    ] refl

module _ {X : Type 0} (text : List ℕ) where
  abbrev stands_before : List ℕ × X → Bool
  stands_before e = is_before text e.0

  none_before : (k : List ℕ) (names : List (List ℕ × X)) → AreAbove k names → is_before text k ≡ false → find_last stands_before names ≡ None
  none_before k [] above is = refl
  none_before k (e ∷ names) above is =
      ap (λ b. option_or (find_last stands_before names) (cond b (Some e) None)) (before_later text e.0 k above.0 is)
      ∙ or_none (find_last stands_before names) ∙ none_before k names above.1 is

  split : (left : List (List ℕ × X)) (e : List ℕ × X) (right : List (List ℕ × X)) → last_before text (left ++ e ∷ right)
      ≡ option_map (λ f. f.0) (option_or (option_or (find_last stands_before right) (cond (is_before text e.0) (Some e) None)) (find_last stands_before left))
  split left e right = ap (option_map (λ f. f.0)) (find_last-append stands_before left (e ∷ right))

  pub last-low : (left : List (List ℕ × X)) (e : List ℕ × X) (right : List (List ℕ × X)) → AreAbove e.0 right → is_before text e.0 ≡ false → last_before text (left ++ e ∷ right) ≡ last_before text left
  last-low left e right above is =
      split left e right
      ∙ (λ i. option_map (λ f. f.0) (option_or (option_or (none_before e.0 right above is i) (cond (is i) (Some e) None)) (find_last stands_before left)))

  pub last-high : (p : List ℕ) (left : List (List ℕ × X)) (e : List ℕ × X) (right : List (List ℕ × X)) → last_before text right ≡ Some p → last_before text (left ++ e ∷ right) ≡ Some p
  last-high p left e right is =
      split left e right
      ∙ elim (find_last stands_before right) as (λ o. option_map (λ f. f.0) o ≡ Some p → option_map (λ f. f.0) (option_or (option_or o (cond (is_before text e.0) (Some e) None)) (find_last stands_before left)) ≡ Some p) [
        | None ↦ λ bad. absurd (let no : None ≡ Some p = bad in cc)
        | Some f ↦ λ found. found
      ] is

  pub last-here : (left : List (List ℕ × X)) (e : List ℕ × X) (right : List (List ℕ × X)) → last_before text right ≡ None → is_before text e.0 ≡ true → last_before text (left ++ e ∷ right) ≡ Some e.0
  last-here left e right none is =
      split left e right
      ∙ elim (find_last stands_before right) as (λ o. option_map (λ f. f.0) o ≡ None → option_map (λ f. f.0) (option_or (option_or o (cond (is_before text e.0) (Some e) None)) (find_last stands_before left)) ≡ Some e.0) [
        | None ↦ λ _. ap (λ b. option_map (λ f. f.0) (option_or (option_or None (cond b (Some e) None)) (find_last stands_before left))) is
        | Some f ↦ λ bad. absurd (let no : Some f.0 ≡ None = bad in cc)
      ] none
