-- The parts of names after a text, which a list walks through.
use Rattle.std.proofs.Common.{◌≡◌, ℕ, suc, ◌<◌, ◌≤◌, Bool, true, false, ◌&&◌, cond, List, [], ◌∷◌, ◌++◌, length, drop, refl, sym, ap, subst, ◌∙◌, arith, Some, None}
use Rattle.std.specs.declared.option.Option.{Option}
use Rattle.std.specs.declared.cmp.Ordering.TheVariants.{Less, Equal, Greater}
use Rattle.std.specs.Ordering.{is_lt, ordering_reverse}
use Rattle.std.specs.Option.{option_map, unwrap_or}
use Rattle.std.specs.Cmp.{tied_itself}
use Rattle.std.specs.Cmp.Lexicographic.{nat_list_cmp_total}
use Rattle.std.specs.List as list
use Rattle.std.specs.List.{AllByRecursion, filter, filter_map, cons_option}
use Rattle.std.specs.List.Sorted.{IsStrictlySortedBy}
use Rattle.std.specs.Map.{keys_of}
use Rattle.std.proofs.lemmas.Map.Keys.{sorted_tail}
use Rattle.far_words.specs.Paths.{bytes_cmp, is_part}
use Rattle.lease_tree.specs.Under.{is_after}
use Rattle.lease_tree.specs.Leases.{AreAbove}
use Rattle.lease_tree.specs.Trees.{begins_with, part_after}
use Rattle.lease_tree.specs.Lists.{IsSkipped}
use Rattle.lease_tree.proofs.Joins.{above_head}
use Rattle.lease_tree.proofs.Puts.{less_back}
use Rattle.lease_tree.proofs.Lasts.{is_less}
use Rattle.lease_tree.proofs.Texts.{begins-rest, cmp-front, sandwich}

-- ---- texts in order

-- what is up to a text is before what comes after it
pub after_trans : (i j k : List ℕ) → (bytes_cmp i j ≡ Greater → ⊥) → is_after j k ≡ true → is_after i k ≡ true
after_trans i j k low after =
    elim (bytes_cmp i j) as (λ o. bytes_cmp i j ≡ o → is_after i k ≡ true) [
      | Less ↦ λ e. ap is_lt (nat_list_cmp_total.trans i j k e (is_less (bytes_cmp j k) after))
      | Equal ↦ λ e. ap is_lt (nat_list_cmp_total.congr i j k e ∙ is_less (bytes_cmp j k) after)
      | Greater ↦ λ e. absurd (low e)
    ] refl

-- where a name isn't after a text it is up to it
pub up_to : (text name : List ℕ) → is_after text name ≡ false → bytes_cmp name text ≡ Greater → ⊥
up_to text name late greater =
    let after : is_after text name ≡ true = ap is_lt (nat_list_cmp_total.antisymm text name ∙ ap ordering_reverse greater) in
    let no : true ≡ false = sym after ∙ late in cc

pub not_before : (text name : List ℕ) → is_after text name ≡ true → bytes_cmp text name ≡ Greater → ⊥
not_before text name after greater = let no : Less ≡ Greater = sym (is_less (bytes_cmp text name) after) ∙ greater in cc

apart : (base k : List ℕ) → begins_with base k ≡ false → part_after base k ≡ None
apart base k is = ap (λ b. cond (b && is_part (drop (length base) k)) (Some (drop (length base) k)) None) is

-- past the names that begin with a base none does
out_later : (base k j : List ℕ) → (bytes_cmp base k ≡ Greater → ⊥) → begins_with base k ≡ false → is_after k j ≡ true → begins_with base j ≡ false
out_later base k j low out after =
    elim (begins_with base j) as (λ b. begins_with base j ≡ b → b ≡ false) [
      | true ↦ λ inside.
          let rest = drop (length base) j in
          sym (sandwich base k rest low (ap (bytes_cmp k) (sym (begins-rest base j inside)) ∙ is_less (bytes_cmp k j) after)) ∙ out
      | false ↦ λ _. refl
    ] refl

module _ {X : Type 0} (base : List ℕ) where
  abbrev pub step : List ℕ → List ℕ × X → Option (List ℕ)
  step text e = cond (is_after text e.0) (part_after base e.0) None

  abbrev pub parts_after : List ℕ → List (List ℕ × X) → List (List ℕ)
  parts_after text names = filter_map (step text) names

  -- two texts after which the same parts stand
  same_parts : (text other : List ℕ) (names : List (List ℕ × X)) → ((k : List ℕ) → cond (is_after text k) (part_after base k) None ≡ cond (is_after other k) (part_after base k) None) → parts_after text names ≡ parts_after other names
  same_parts text other [] same = refl
  same_parts text other (e ∷ names) same = λ i. cons_option (same e.0 i) (same_parts text other names same i)

  all_after : (text : List ℕ) (names : List (List ℕ × X)) → AreAbove text names → parts_after text names ≡ filter_map (λ e. part_after base e.0) names
  all_after text [] above = refl
  all_after text (e ∷ names) above = λ i. cons_option (cond (is_lt (above.0 i)) (part_after base e.0) None) (all_after text names above.1 i)

  above_trans : (text k : List ℕ) (names : List (List ℕ × X)) → is_after text k ≡ true → AreAbove k names → AreAbove text names
  above_trans text k [] after above = tt
  above_trans text k (e ∷ names) after above = (nat_list_cmp_total.trans text k e.0 (is_less (bytes_cmp text k) after) above.0, above_trans text k names after above.1)

  -- what holds of all holds of the next
  next_of_all : (R : List ℕ → Type 0) (text : List ℕ) (names : List (List ℕ × X)) (k : List ℕ) → AllByRecursion (λ e. R e.0) names → option_map (λ e. e.0) (list.find (λ e. is_after text e.0) names) ≡ Some k → R k
  next_of_all R text [] k all is = absurd (let no : None ≡ Some k = is in cc)
  next_of_all R text (e ∷ names) k all is =
      elim (is_after text e.0) as (λ b. option_map (λ f. f.0) (cond b (Some e) (list.find (λ f. is_after text f.0) names)) ≡ Some k → R k) [
        | true ↦ λ same. subst R (ap (λ (o : Option (List ℕ)). unwrap_or o k) same) all.0
        | false ↦ λ later. next_of_all R text names k all.1 later
      ] is

  pub next_is_after : (text : List ℕ) (names : List (List ℕ × X)) (k : List ℕ) → option_map (λ e. e.0) (list.find (λ e. is_after text e.0) names) ≡ Some k → is_after text k ≡ true
  next_is_after text [] k is = absurd (let no : None ≡ Some k = is in cc)
  next_is_after text (e ∷ names) k is =
      elim (is_after text e.0) as (λ b. is_after text e.0 ≡ b → option_map (λ f. f.0) (cond b (Some e) (list.find (λ f. is_after text f.0) names)) ≡ Some k → is_after text k ≡ true) [
        | true ↦ λ after same. ap (is_after text) (sym (ap (λ (o : Option (List ℕ)). unwrap_or o k) same)) ∙ after
        | false ↦ λ _ later. next_is_after text names k later
      ] refl is

  -- the next name's part comes first, and then those after it
  pub parts-next : (text : List ℕ) (names : List (List ℕ × X)) (k : List ℕ) → IsStrictlySortedBy bytes_cmp (keys_of names) → option_map (λ e. e.0) (list.find (λ e. is_after text e.0) names) ≡ Some k → parts_after text names ≡ cons_option (part_after base k) (parts_after k names)
  parts-next text [] k ordered is = absurd (let no : None ≡ Some k = is in cc)
  parts-next text (e ∷ names) k ordered is =
      let above = above_head e names ordered in
      elim (is_after text e.0) as (λ b. is_after text e.0 ≡ b → option_map (λ f. f.0) (cond b (Some e) (list.find (λ f. is_after text f.0) names)) ≡ Some k → cons_option (cond b (part_after base e.0) None) (parts_after text names) ≡ cons_option (part_after base k) (parts_after k (e ∷ names))) [
        | true ↦ λ after same.
            let here : e.0 ≡ k = ap (λ (o : Option (List ℕ)). unwrap_or o k) same in
            let itself : parts_after e.0 (e ∷ names) ≡ parts_after e.0 names = ap (λ o. cons_option (cond (is_lt o) (part_after base e.0) None) (parts_after e.0 names)) (tied_itself nat_list_cmp_total e.0) in
            ap (cons_option (part_after base e.0)) (all_after text names (above_trans text e.0 names after above) ∙ sym (all_after e.0 names above) ∙ sym itself)
            ∙ ap (λ (j : List ℕ). cons_option (part_after base j) (parts_after j (e ∷ names))) here
        | false ↦ λ _ later.
            let less : bytes_cmp e.0 k ≡ Less = next_of_all (λ j. bytes_cmp e.0 j ≡ Less) text names k above later in
            let skip : parts_after k (e ∷ names) ≡ parts_after k names = ap (λ o. cons_option (cond (is_lt o) (part_after base e.0) None) (parts_after k names)) (less_back e.0 k less) in
            parts-next text names k (sorted_tail bytes_cmp e.0 (keys_of names) ordered) later ∙ ap (cons_option (part_after base k)) (sym skip)
      ] refl is

  pub parts-end : (text : List ℕ) (names : List (List ℕ × X)) → option_map (λ e. e.0) (list.find (λ e. is_after text e.0) names) ≡ None → parts_after text names ≡ []
  parts-end text [] is = refl
  parts-end text (e ∷ names) is =
      elim (is_after text e.0) as (λ b. option_map (λ f. f.0) (cond b (Some e) (list.find (λ f. is_after text f.0) names)) ≡ None → cons_option (cond b (part_after base e.0) None) (parts_after text names) ≡ []) [
        | true ↦ λ bad. absurd (let no : Some e.0 ≡ None = bad in cc)
        | false ↦ λ later. parts-end text names later
      ] is

  -- what was passed over has no part
  pub parts-skipped : (k other : List ℕ) (names : List (List ℕ × X)) → IsSkipped base k other → parts_after k names ≡ parts_after other names
  parts-skipped k other names skipped =
      same_parts k other names (λ j.
      elim (is_after other j) as (λ b. is_after other j ≡ b → cond (is_after k j) (part_after base j) None ≡ cond b (part_after base j) None) [
        | true ↦ λ after. ap (λ b. cond b (part_after base j) None) (after_trans k other j (up_to other k skipped.onward) after)
        | false ↦ λ late.
            elim (is_after k j) as (λ b. is_after k j ≡ b → cond b (part_after base j) None ≡ None) [
              | true ↦ λ later. skipped.passed j later late
              | false ↦ λ _. refl
            ] refl
      ] refl)

  -- from a name on that doesn't begin with the base, and isn't before it, nothing is listed
  pub parts-out : (k : List ℕ) (names : List (List ℕ × X)) → (bytes_cmp base k ≡ Greater → ⊥) → begins_with base k ≡ false → cons_option (part_after base k) (parts_after k names) ≡ []
  parts-out k [] low out = ap (λ o. cons_option o []) (apart base k out)
  parts-out k (e ∷ names) low out =
      elim (is_after k e.0) as (λ b. is_after k e.0 ≡ b → cons_option (part_after base k) (cons_option (cond b (part_after base e.0) None) (parts_after k names)) ≡ []) [
        | true ↦ λ after. ap (λ o. cons_option (part_after base k) (cons_option o (parts_after k names))) (apart base e.0 (out_later base k e.0 low out after)) ∙ parts-out k names low out
        | false ↦ λ _. parts-out k names low out
      ] refl

  -- ---- all of them

  pub parts-all : (after : List ℕ) (names : List (List ℕ × X)) → parts_after (base ++ after) names ≡ filter (is_after after) (filter_map (λ e. part_after base e.0) names)
  parts-all after [] = refl
  parts-all after (e ∷ names) =
      elim (begins_with base e.0) as (λ b. begins_with base e.0 ≡ b → cons_option (cond (is_after (base ++ after) e.0) (cond (b && is_part (drop (length base) e.0)) (Some (drop (length base) e.0)) None) None) (parts_after (base ++ after) names)
      ≡ filter (is_after after) (cons_option (cond (b && is_part (drop (length base) e.0)) (Some (drop (length base) e.0)) None) (filter_map (λ e. part_after base e.0) names))) [
        | true ↦ λ is.
            let rest = drop (length base) e.0 in
            let same : is_after (base ++ after) e.0 ≡ is_after after rest = ap (λ (n : List ℕ). is_lt (bytes_cmp (base ++ after) n)) (begins-rest base e.0 is) ∙ ap is_lt (cmp-front base after rest) in
            by (is_after (base ++ after) e.0) (is_after after rest) (is_part rest) rest (parts_after (base ++ after) names) (filter_map (λ e. part_after base e.0) names) same refl (parts-all after names)
        | false ↦ λ _.
            elim (is_after (base ++ after) e.0) as (λ b. cons_option (cond b None None) (parts_after (base ++ after) names) ≡ filter (is_after after) (filter_map (λ e. part_after base e.0) names)) [ true ↦ parts-all after names | false ↦ parts-all after names ]
      ] refl
    where
      by : (a b c : Bool) (rest : List ℕ) (ps qs : List (List ℕ)) → a ≡ b → is_after after rest ≡ b → ps ≡ filter (is_after after) qs → cons_option (cond a (cond c (Some rest) None) None) ps ≡ filter (is_after after) (cons_option (cond c (Some rest) None) qs)
      by a b true rest ps qs same is ih =
          ap (λ t. cons_option (cond t (Some rest) None) ps) same
          ∙ elim b as (λ t. cons_option (cond t (Some rest) None) ps ≡ cond t (rest ∷ filter (is_after after) qs) (filter (is_after after) qs)) [ true ↦ ap (λ l. rest ∷ l) ih | false ↦ ih ]
          ∙ sym (ap (λ t. cond t (rest ∷ filter (is_after after) qs) (filter (is_after after) qs)) is)
      by a b false rest ps qs same is ih = elim a as (λ t. cons_option (cond t None None) ps ≡ filter (is_after after) qs) [ true ↦ ih | false ↦ ih ]

-- ---- how many names are left

module _ {X : Type 0} where
  pub left_after : List ℕ → List (List ℕ × X) → ℕ
  left_after k [] = 0
  left_after k (e ∷ names) = cond (is_after k e.0) (suc (left_after k names)) (left_after k names)

  fewer_after : (j k : List ℕ) (names : List (List ℕ × X)) → ((n : List ℕ) → is_after k n ≡ true → is_after j n ≡ true) → left_after k names ≤ left_after j names
  unfolding left_after
  fewer_after j k [] onward = omega arith
  fewer_after j k (e ∷ names) onward =
      let rest = fewer_after j k names onward in
      elim (is_after k e.0) as (λ b. is_after k e.0 ≡ b → cond b (suc (left_after k names)) (left_after k names) ≤ left_after j (e ∷ names)) [
        | true ↦ λ after. rw (onward e.0 after) (let more : suc (left_after k names) ≤ suc (left_after j names) = omega (arith, rest) in more)
        | false ↦ λ _. elim (is_after j e.0) as (λ b. left_after k names ≤ cond b (suc (left_after j names)) (left_after j names)) [ true ↦ omega (arith, rest) | false ↦ rest ]
      ] refl

  -- after the next name fewer are left than after one before it
  pub fewer_left : (j text k : List ℕ) (names : List (List ℕ × X)) → (bytes_cmp j text ≡ Greater → ⊥) → option_map (λ e. e.0) (list.find (λ e. is_after text e.0) names) ≡ Some k → left_after k names < left_after j names
  unfolding left_after
  fewer_left j text k [] low is = absurd (let no : None ≡ Some k = is in cc)
  fewer_left j text k (e ∷ names) low is =
      let next = after_trans j text k low (next_is_after [] text (e ∷ names) k is) in
      let onward : (n : List ℕ) → is_after k n ≡ true → is_after j n ≡ true = λ n after. after_trans j k n (not_before j k next) after in
      elim (is_after text e.0) as (λ b. is_after text e.0 ≡ b → option_map (λ f. f.0) (cond b (Some e) (list.find (λ f. is_after text f.0) names)) ≡ Some k → left_after k (e ∷ names) < left_after j (e ∷ names)) [
        | true ↦ λ after same.
            let here : e.0 ≡ k = ap (λ (o : Option (List ℕ)). unwrap_or o k) same in
            let itself : is_after k e.0 ≡ false = ap (is_after k) here ∙ ap is_lt (tied_itself nat_list_cmp_total k) in
            let there : is_after j e.0 ≡ true = ap (is_after j) here ∙ next in
            let rest = fewer_after j k names onward in
            rw (itself, there) (let less : left_after k names < suc (left_after j names) = omega (arith, rest) in less)
        | false ↦ λ _ later.
            let rest = fewer_left j text k names low later in
            elim (is_after k e.0) as (λ b. is_after k e.0 ≡ b → cond b (suc (left_after k names)) (left_after k names) < left_after j (e ∷ names)) [
              | true ↦ λ after. rw (onward e.0 after) (let less : suc (left_after k names) < suc (left_after j names) = omega (arith, rest) in less)
              | false ↦ λ _. elim (is_after j e.0) as (λ b. left_after k names < cond b (suc (left_after j names)) (left_after j names)) [ true ↦ omega (arith, rest) | false ↦ rest ]
            ] refl
      ] refl is
