-- A list that is filled name by name.
use Rattle.std.proofs.Common.{◌≡◌, ◌≢◌, ℕ, ◌+◌, ◌<◌, ◌≤◌, false, List, [], ◌++◌, length, take, refl, sym, ap, ◌∙◌, append_assoc, length-append, arith, Some, None}
use Rattle.std.specs.declared.option.Option.{Option}
use Rattle.std.specs.declared.cmp.Ordering.TheVariants.{Less, Greater}
use Rattle.std.specs.Option.{option_map_or, unwrap_or}
use Rattle.std.specs.Cmp.Lexicographic.{nat_list_cmp_total}
use Rattle.std.specs.List.{cons_option}
use Rattle.std.specs.List.Sorted.{IsStrictlySortedBy}
use Rattle.std.specs.Map.{keys_of}
use Rattle.std.proofs.lemmas.List.{take_all, append-nil}
use Rattle.std.proofs.Math.Seq.{take-append_seam}
use Rattle.far_words.specs.Paths.{bytes_cmp}
use Rattle.lease_tree.specs.Under.{is_after}
use Rattle.lease_tree.specs.Names.{Names}
use Rattle.lease_tree.specs.Trees.{begins_with, part_after, next_after, listed}
use Rattle.lease_tree.specs.Lists.{IsSkipped}
use Rattle.lease_tree.specs.declared.tree.TheConstants.{MOST_LISTED}
use Rattle.lease_tree.proofs.Listing.{after_trans, up_to, not_before, parts_after, next_is_after, parts-next, parts-end, parts-skipped, parts-out, parts-all, left_after, fewer_left}
use Rattle.lease_tree.proofs.Lasts.{is_less}
use Rattle.lease_tree.proofs.Puts.{less_back, greater_back}
use Rattle.lease_tree.proofs.Texts.{not_after}

-- what a walk that doesn't go back below a text finds next
abbrev pub IsLow : List ℕ → Option (List ℕ) → Type 0
IsLow base next = (k : List ℕ) → next ≡ Some k → bytes_cmp base k ≡ Greater → ⊥

some_is : (k j : List ℕ) → Some k ≡ Some j → k ≡ j
some_is k j is = ap (λ (o : Option (List ℕ)). unwrap_or o k) is

module _ {B : Type 0} (base : List ℕ) (names : Names B) where
  -- the parts from the next name on
  abbrev pub rest_from : Option (List ℕ) → List (List ℕ)
  rest_from None = []
  rest_from (Some k) = cons_option (part_after base k) (parts_after base k names)

  -- what a list has so far, where so much is still to come
  pub record IsFilled (after : List ℕ) (next : Option (List ℕ)) (out : List (List ℕ)) : Type 0 where
    pub whole : out ++ rest_from next ≡ parts_after base (base ++ after) names
    pub fits : length out ≤ MOST_LISTED
    pub low : IsLow base next

  -- the names that are still to come
  abbrev pub left_from : Option (List ℕ) → ℕ
  left_from next = option_map_or (λ k. left_after k names + 1) next 0

  rest_is : (text : List ℕ) (next : Option (List ℕ)) → IsStrictlySortedBy bytes_cmp (keys_of names) → next ≡ next_after (Some text) names → rest_from next ≡ parts_after base text names
  rest_is text None ordered is = sym (parts-end base text names (sym is))
  rest_is text (Some k) ordered is = sym (parts-next base text names k ordered (sym is))

  pub filled_first : (after : List ℕ) (next : Option (List ℕ)) → IsStrictlySortedBy bytes_cmp (keys_of names) → next ≡ next_after (Some (base ++ after)) names → IsFilled after next []
  filled_first after next ordered is = record {
    whole = rest_is (base ++ after) next ordered is;
    fits = omega arith;
    low = λ k here greater.
        let past : bytes_cmp (base ++ after) k ≡ Less = is_less (bytes_cmp (base ++ after) k) (next_is_after base (base ++ after) names k (sym is ∙ here)) in
        let less : bytes_cmp (base ++ after) base ≡ Less = nat_list_cmp_total.trans (base ++ after) k base past (greater_back base k greater) in
        not_after base after (less_back (base ++ after) base less);
  }

  consed : (o : Option (List ℕ)) (l : List (List ℕ)) → cons_option o [] ++ l ≡ cons_option o l
  consed None l = refl
  consed (Some part) l = refl

  one_more : (o : Option (List ℕ)) → length (cons_option o []) ≤ 1
  one_more None = omega arith
  one_more (Some part) = omega arith

  pub filled_next : (after k text : List ℕ) (next : Option (List ℕ)) (out new : List (List ℕ)) → IsStrictlySortedBy bytes_cmp (keys_of names) → IsFilled after (Some k) out → length out ≢ MOST_LISTED → IsSkipped base k text
      → new ≡ out ++ cons_option (part_after base k) [] → next ≡ next_after (Some text) names → IsFilled after next new
  filled_next after k text next out new ordered filled room skipped new_is is = record {
    whole =
        (λ i. new_is i ++ rest_is text next ordered is i)
        ∙ append_assoc out (cons_option (part_after base k) []) (parts_after base text names)
        ∙ ap (λ (l : List (List ℕ)). out ++ l) (consed (part_after base k) (parts_after base text names) ∙ ap (cons_option (part_after base k)) (sym (parts-skipped base k text names skipped)))
        ∙ filled.whole;
    fits = omega (arith, ap length new_is, length-append out (cons_option (part_after base k) []), one_more (part_after base k), filled.fits, room);
    low = λ j here.
        let past = after_trans k text j (up_to text k skipped.onward) (next_is_after base text names j (sym is ∙ here)) in
        not_before base j (after_trans base k j (filled.low k refl) past);
  }

  pub fewer_next : (k text : List ℕ) (next : Option (List ℕ)) → is_after text k ≡ false → next ≡ next_after (Some text) names → left_from next < left_after k names + 1
  fewer_next k text None onward is = omega arith
  fewer_next k text (Some j) onward is =
      let fewer = fewer_left k text j names (up_to text k onward) (sym is) in
      omega (arith, fewer)

  -- ---- where it is done

  pub filled_whole : (after : List ℕ) (next : Option (List ℕ)) (out : List (List ℕ)) → IsFilled after next out → rest_from next ≡ [] → out ≡ listed base after names
  filled_whole after next out filled none =
      let all : out ≡ parts_after base (base ++ after) names = sym (append-nil out) ∙ ap (λ (l : List (List ℕ)). out ++ l) (sym none) ∙ filled.whole in
      sym (take_all MOST_LISTED out filled.fits) ∙ ap (take MOST_LISTED) (all ∙ parts-all base after names)

  pub filled_out : (after k : List ℕ) (out : List (List ℕ)) → IsFilled after (Some k) out → begins_with base k ≡ false → out ≡ listed base after names
  filled_out after k out filled out_is = filled_whole after (Some k) out filled (parts-out base k names (filled.low k refl) out_is)

  pub filled_full : (after : List ℕ) (next : Option (List ℕ)) (out : List (List ℕ)) → IsFilled after next out → length out ≡ MOST_LISTED → out ≡ listed base after names
  filled_full after next out filled full =
      sym (take-append_seam out (rest_from next))
      ∙ (λ i. take (full i) (filled.whole i))
      ∙ ap (take MOST_LISTED) (parts-all base after names)
