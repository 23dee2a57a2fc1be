-- The free slices of a table of places.
use Rattle.std.proofs.Common.{◌≡◌, ◌==◌, ℕ, zero, suc, ◌+◌, ◌<◌, nat_lt, Bool, true, false, is_some, List, [], ◌∷◌, length, map, get_or, set, replicate, count_by, refl, sym, ◌∙◌, ap, arith, Some, None}
use Rattle.std.specs.Prelude.{All}
use Rattle.std.specs.declared.option.Option.{Option}
use Rattle.std.specs.List.{range_with_len, position}
use Rattle.std.specs.Ordering.{nat_cmp}
use Rattle.std.specs.FinMap.{find}
use Rattle.std.proofs.lemmas.Bool.{false≢true, eqb-true, eqb-false, ltb-true, ltb-false}
use Rattle.std.proofs.lemmas.List.{get_or-map, get_or-set_same, get_or-set_other, get_or_past, length-map}
use Rattle.std.proofs.lemmas.List.FromFn.{get_or-map-range_with_len, length-map-range_with_len}
use Rattle.std.proofs.lemmas.List.Quantifiers.{position-Some}
use Rattle.std.proofs.lemmas.List.Elements.{All-nil, All-cons}
use Rattle.id_set.specs.Tables.{entries_from, entries_of}
use Rattle.id_set.proofs.Tables.{find-entries, length-entries, count_by-map, position_none}
use Rattle.slice_seq.specs.Slice.{SliceView}
use Rattle.block_pool.specs.Pools.{fresh_slice, fresh_slices}
use Rattle.block_pool.specs.Inside.{AreInPlace}

-- the lowest place that has a slice is the map's first entry
first_from : {X : Type 0} (from : ℕ) (xs : List (Option X)) (i : ℕ) (x : X) → ((k : ℕ) → k < i → is_some (get_or xs k None) ≡ false) → get_or xs i None ≡ Some x
    → entries_from from xs ≡ (from + i, x) ∷ entries_from from (set xs i None)
first_from from [] i x none here = cc
first_from from (None ∷ xs) zero x none here = cc
first_from from (Some y ∷ xs) zero x none here =
    let same : y ≡ x = cc in
    let place : from ≡ from + zero = omega arith in
    λ i. (place i, same i) ∷ entries_from (from + 1) xs
first_from from (None ∷ xs) (suc i) x none here =
    let place : from + 1 + i ≡ from + suc i = omega arith in
    first_from (from + 1) xs i x (λ k below. none (suc k) (omega arith)) here ∙ (λ j. (place j, x) ∷ entries_from (from + 1) (set xs i None))
first_from from (Some y ∷ xs) (suc i) x none here = absurd (false≢true (sym (none 0 (omega arith))))

entries_above : {X : Type 0} (low from : ℕ) (xs : List (Option X)) → low < from → All (λ e. low < e.0) (entries_from from xs)
entries_above low from [] less = All-nil (λ e. low < e.0)
entries_above low from (None ∷ xs) less = entries_above low (from + 1) xs (omega arith)
entries_above low from (Some x ∷ xs) less = All-cons (λ e. low < e.0) (from, x) (entries_from (from + 1) xs) less (entries_above low (from + 1) xs (omega arith))

rest_above : {X : Type 0} (from : ℕ) (xs : List (Option X)) (i low : ℕ) → low ≡ from + i → ((k : ℕ) → k < i → is_some (get_or xs k None) ≡ false)
    → All (λ e. low < e.0) (entries_from from (set xs i None))
rest_above from [] i low is none = All-nil (λ e. low < e.0)
rest_above from (o ∷ xs) zero low is none = entries_above low (from + 1) xs (omega arith)
rest_above from (None ∷ xs) (suc i) low is none = rest_above (from + 1) xs i low (omega arith) (λ k below. none (suc k) (omega arith))
rest_above from (Some y ∷ xs) (suc i) low is none = absurd (false≢true (sym (none 0 (omega arith))))

some_of : {X : Type 0} (o : Option X) → is_some o ≡ true → (x : X) × (o ≡ Some x)
some_of None some = absurd (false≢true some)
some_of (Some x) some = (x, refl)

module _ {X : Type 0} (xs : List (Option X)) where
  flag_at : (k : ℕ) → k < length xs → get_or (map is_some xs) k false ≡ is_some (get_or xs k None)
  flag_at k inside = get_or-map is_some xs k None false inside

  -- what the lowest member of the set of free places tells of the table
  pub record IsLowest (i : ℕ) : Type 0 where
    pub inside : i < length xs
    pub there : is_some (get_or xs i None) ≡ true
    pub below : (k : ℕ) → k < i → is_some (get_or xs k None) ≡ false

  pub lowest_is : (members : List Bool) (i : ℕ) → members ≡ map is_some xs → position (λ (m : Bool). m) members ≡ Some i → IsLowest i
  lowest_is members i are first =
      let found = position-Some (λ (m : Bool). m) (map is_some xs) i false (ap (position (λ (m : Bool). m)) (sym are) ∙ first) in
      let inside : i < length xs = omega (arith, found.0, length-map xs (λ (o : Option X). is_some o)) in
      record {
        inside = inside;
        there = sym (flag_at i inside) ∙ found.1;
        below = λ k low. sym (flag_at k (omega arith)) ∙ found.2 k low;
      }

  pub lowest_entry : (i : ℕ) (x : X) → IsLowest i → get_or xs i None ≡ Some x → entries_of xs ≡ (i, x) ∷ entries_of (set xs i None)
  lowest_entry i x lowest here =
      let place : 0 + i ≡ i = omega arith in
      first_from 0 xs i x lowest.below here ∙ (λ j. (place j, x) ∷ entries_of (set xs i None))

  -- where no place has a slice, there is no entry
  pub no_entry : (members : List Bool) → members ≡ map is_some xs → position (λ (m : Bool). m) members ≡ None → entries_of xs ≡ []
  no_entry members are none =
      no_length (entries_of xs) (length-entries 0 xs ∙ sym (count_by-map (λ (m : Bool). m) is_some xs) ∙ position_none (λ (m : Bool). m) (map is_some xs) (ap (position (λ (m : Bool). m)) (sym are) ∙ none))
    where
      no_length : (es : List (ℕ × X)) → length es ≡ 0 → es ≡ []
      no_length [] short = refl
      no_length (e ∷ es) short = absurd (omega arith)

  pub counted : (members : List Bool) → members ≡ map is_some xs → count_by (λ (m : Bool). m) members ≡ length (entries_of xs)
  counted members are = ap (count_by (λ (m : Bool). m)) are ∙ count_by-map (λ (m : Bool). m) is_some xs ∙ sym (length-entries 0 xs)

  -- every other id is above it
  pub others_above : (i : ℕ) → IsLowest i → All (λ e. i < e.0) (entries_of (set xs i None))
  others_above i lowest = let place : i ≡ 0 + i = omega arith in rest_above 0 xs i i place lowest.below

  pub lowest_gone : (i : ℕ) → IsLowest i → find nat_cmp i (entries_of (set xs i None)) ≡ None
  lowest_gone i lowest = find-entries i (set xs i None) ∙ get_or-set_same xs i None None lowest.inside

-- places after one of them was written
pub in_place-emptied : (places : List (Option SliceView)) (i : ℕ) → i < length places → AreInPlace places → AreInPlace (set places i None)
in_place-emptied places i inside are = record { each = each }
  where
    each : (id : ℕ) (slice : SliceView) → get_or (set places i None) id None ≡ Some slice → slice.id ≡ id
    each id slice there = by (id == i) refl
      where
        by : (b : Bool) → (id == i) ≡ b → slice.id ≡ id
        by true same =
            let here : get_or (set places i None) id None ≡ None = ap (λ j. get_or (set places i None) j None) (eqb-true id i same) ∙ get_or-set_same places i None None inside in
            cc
        by false apart = are.each id slice (sym (get_or-set_other places i id None None (eqb-false id i apart)) ∙ there)

pub in_place-filled : (places : List (Option SliceView)) (i : ℕ) (slice : SliceView) → i < length places → slice.id ≡ i → AreInPlace places → AreInPlace (set places i (Some slice))
in_place-filled places i slice inside own are = record { each = each }
  where
    each : (id : ℕ) (other : SliceView) → get_or (set places i (Some slice)) id None ≡ Some other → other.id ≡ id
    each id other there = by (id == i) refl
      where
        by : (b : Bool) → (id == i) ≡ b → other.id ≡ id
        by true same =
            let place : id ≡ i = eqb-true id i same in
            let here : get_or (set places i (Some slice)) id None ≡ Some slice = ap (λ j. get_or (set places i (Some slice)) j None) place ∙ get_or-set_same places i (Some slice) None inside in
            let is : slice ≡ other = cc in
            sym (ap (λ s. s.id) is) ∙ own ∙ sym place
        by false apart = are.each id other (sym (get_or-set_other places i id (Some slice) None (eqb-false id i apart)) ∙ there)

-- every slice is free
fresh_entries : (size from count : ℕ) → entries_from from (map (λ id. Some (fresh_slice size id)) (range_with_len from count)) ≡ map (λ id. (id, fresh_slice size id)) (range_with_len from count)
fresh_entries size from zero = refl
fresh_entries size from (suc count) = ap (λ es. (from, fresh_slice size from) ∷ es) (fresh_entries size (from + 1) count)

pub all_fresh : (size count : ℕ) → entries_of (fresh_slices size count) ≡ map (λ id. (id, fresh_slice size id)) (range_with_len 0 count)
all_fresh size count = fresh_entries size 0 count

free_from : (size from count : ℕ) → map is_some (map (λ id. Some (fresh_slice size id)) (range_with_len from count)) ≡ replicate count true
free_from size from zero = refl
free_from size from (suc count) = ap (λ flags. true ∷ flags) (free_from size (from + 1) count)

pub all_free : (size count : ℕ) → replicate count true ≡ map is_some (fresh_slices size count)
all_free size count = sym (free_from size 0 count)

pub fresh_length : (size count : ℕ) → length (fresh_slices size count) ≡ count
fresh_length size count = length-map-range_with_len (λ id. Some (fresh_slice size id)) 0 count

pub fresh_in_place : (size count : ℕ) → AreInPlace (fresh_slices size count)
fresh_in_place size count = record { each = each }
  where
    each : (id : ℕ) (slice : SliceView) → get_or (fresh_slices size count) id None ≡ Some slice → slice.id ≡ id
    each id slice there = by (nat_lt id count) refl
      where
        made : ℕ → Option SliceView
        made number = Some (fresh_slice size number)

        by : (b : Bool) → nat_lt id count ≡ b → slice.id ≡ id
        by true low =
            let from : 0 + id ≡ id = omega arith in
            let is : get_or (fresh_slices size count) id None ≡ made id = get_or-map-range_with_len made 0 count id id None (ltb-true id count low) from in
            let same : slice ≡ fresh_slice size id = cc in
            ap (λ s. s.id) same
        by false high =
            let past : get_or (fresh_slices size count) id None ≡ None = get_or_past (fresh_slices size count) id None (omega (arith, fresh_length size count, ltb-false id count high)) in
            cc
