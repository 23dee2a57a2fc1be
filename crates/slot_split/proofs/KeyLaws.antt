-- Records by their keys: what is found, how often, and what is left.
use Rattle.std.proofs.Common.{◌≡◌, ℕ, ◌+◌, ◌<◌, ◌≤◌, Bool, true, false, cond, not, List, [], ◌∷◌, ◌++◌, length, replicate, get_or, Some, None, zero, suc, refl, sym, ap, subst, ◌∙◌, append_assoc, length-append, arith}
use Rattle.std.specs.Prelude.{nat_le, filter, find, Contains}
use Rattle.std.specs.declared.option.Option.{Option}
use Rattle.std.specs.Option.{option_map, option_or}
use Rattle.std.specs.List.{list_any}
use Rattle.std.specs.List.Sorted.{IsPermutation}
use Rattle.std.proofs.lemmas.Bool.{both_ways, le-leb, false_from_ne_true, or_parts, or_from}
use Rattle.std.proofs.lemmas.List.{get_or_default}
use Rattle.std.proofs.lemmas.Slice.Eq.{bytes_eq-Decides}
use Rattle.std.proofs.lemmas.List.Elements.{filter-append, Contains-from_at}
use Rattle.std.proofs.lemmas.List.Filters.{length-filter_both}
use Rattle.std.proofs.lemmas.List.Folds.{find-append, list_any_at, Any-from_list_any}
use Rattle.std.proofs.lemmas.List.Sums.{length-filter}
use Rattle.std.proofs.lemmas.List.Sorted.{IsPermutation-refl, IsPermutation-sym, IsPermutation-trans, IsPermutation-cons, IsPermutation-to_front, IsPermutation-append_left, sum_by-IsPermutation, list_any-IsPermutation, Contains-permutation}
use Rattle.table_block.specs.Records.{Record, record_size, records_size}
use Rattle.slot_split.specs.Puts.{has_key, value_in, one_of, with_value, without}
use Rattle.slot_split.specs.Well.{IsOnce}
use Rattle.slot_split.proofs.Parts.{filter-none, filter-all, filter-some}

-- ---- the test of a key

pub has_key-same : (key value : List ℕ) → has_key key (key, value) ≡ true
has_key-same key value = (bytes_eq-Decides key key).1 refl

pub has_key-is : (key : List ℕ) (r : Record) → has_key key r ≡ true → r.0 ≡ key
has_key-is key r is = (bytes_eq-Decides r.0 key).0 is

pub has_key-other : (key : List ℕ) (r : Record) → (r.0 ≡ key → ⊥) → has_key key r ≡ false
has_key-other key r other = false_from_ne_true (has_key key r) (λ is. other (has_key-is key r is))

-- ---- how many pass a test

pub filter-fewer : {X : Type 0} (p q : X → Bool) (xs : List X) → length (filter p (filter q xs)) ≤ length (filter p xs)
filter-fewer p q [] = omega arith
filter-fewer p q (x ∷ xs) =
    let more = filter-fewer p q xs in
    elim (q x) as (λ b. length (filter p (cond b (x ∷ filter q xs) (filter q xs))) ≤ length (cond (p x) (x ∷ filter p xs) (filter p xs))) [
      | true ↦
          elim (p x) as (λ b. length (cond b (x ∷ filter p (filter q xs)) (filter p (filter q xs))) ≤ length (cond b (x ∷ filter p xs) (filter p xs))) [
            | true ↦ omega (arith, more)
            | false ↦ more
          ]
      | false ↦
          elim (p x) as (λ b. length (filter p (filter q xs)) ≤ length (cond b (x ∷ filter p xs) (filter p xs))) [
            | true ↦ omega (arith, more)
            | false ↦ more
          ]
    ]

pub filter-permutation : {X : Type 0} (p : X → Bool) (xs ys : List X) → IsPermutation xs ys → length (filter p ys) ≡ length (filter p xs)
filter-permutation p xs ys moved =
    length-filter p ys ∙ sum_by-IsPermutation (λ x. cond (p x) 1 0) xs ys moved ∙ sym (length-filter p xs)

pub filter-parts : {X : Type 0} (p : X → Bool) (xs ys : List X) → length (filter p (xs ++ ys)) ≡ length (filter p xs) + length (filter p ys)
filter-parts p xs ys = ap length (filter-append p xs ys) ∙ length-append (filter p xs) (filter p ys)

pub none-from_filter : {X : Type 0} (p : X → Bool) (xs : List X) → length (filter p xs) ≤ 0 → list_any p xs ≡ false
none-from_filter p xs few = false_from_ne_true (list_any p xs) (λ some. absurd (omega (arith, filter-some p xs some)))

-- ---- the records but those of a key

pub without-any : (key : List ℕ) (rs : List Record) → list_any (has_key key) (without key rs) ≡ false
without-any key [] = refl
without-any key (r ∷ rs) = by (has_key key r) refl (without-any key rs)
  where
    by : (b : Bool) → has_key key r ≡ b → list_any (has_key key) (without key rs) ≡ false
        → list_any (has_key key) (cond (not b) (r ∷ without key rs) (without key rs)) ≡ false
    by true is more = more
    by false is more = or_from (has_key key r) (list_any (has_key key) (without key rs)) is more

pub without-length : (key : List ℕ) (rs : List Record) → length (filter (has_key key) rs) + length (without key rs) ≡ length rs
without-length key rs = length-filter_both (has_key key) (λ r. not (has_key key r)) (λ r. refl) rs

-- the key's record taken out of the middle
pub without-among : (key : List ℕ) (before here after : List Record) → list_any (has_key key) before ≡ false → list_any (has_key key) after ≡ false
    → without key (before ++ (here ++ after)) ≡ before ++ (without key here ++ after)
without-among key before here after no_before no_after =
    filter-append (λ r. not (has_key key r)) before (here ++ after)
    ∙ (λ i. filter-all (has_key key) before no_before i ++ filter-append (λ r. not (has_key key r)) here after i)
    ∙ ap (λ (rs : List Record). before ++ (without key here ++ rs)) (filter-all (has_key key) after no_after)

-- each key stands once after a put and after a remove, too
pub put_once : (key value : List ℕ) (rs : List Record) → IsOnce rs → IsOnce ((key, value) ∷ without key rs)
put_once key value rs once other = by (has_key other (key, value)) refl
  where
    by : (b : Bool) → has_key other (key, value) ≡ b
        → length (cond b ((key, value) ∷ filter (has_key other) (without key rs)) (filter (has_key other) (without key rs))) ≤ 1
    by true same =
        let none : filter (has_key other) (without key rs) ≡ [] =
        ap (λ (k : List ℕ). filter (has_key k) (without key rs)) (sym (has_key-is other (key, value) same))
        ∙ filter-none (has_key key) (without key rs) (without-any key rs) in
        omega (arith, ap length none)
    by false apart =
        let fewer = filter-fewer (has_key other) (λ r. not (has_key key r)) rs in
        omega (arith, fewer, once other)

pub removed_once : (key : List ℕ) (rs : List Record) → IsOnce rs → IsOnce (without key rs)
removed_once key rs once other =
    let fewer = filter-fewer (has_key other) (λ r. not (has_key key r)) rs in
    omega (arith, fewer, once other)

pub once-permutation : (xs ys : List Record) → IsPermutation xs ys → IsOnce xs → IsOnce ys
once-permutation xs ys moved once key = omega (arith, filter-permutation (has_key key) xs ys moved, once key)

-- ---- the value of a key

find-none : {X : Type 0} (p : X → Bool) (xs : List X) → list_any p xs ≡ false → find p xs ≡ None
find-none p [] none = refl
find-none p (x ∷ xs) none =
    let parts = or_parts (p x) (list_any p xs) none in
    ap (λ (b : Bool). cond b (Some x) (find p xs)) parts.0 ∙ find-none p xs parts.1

pub value_in-none : (key : List ℕ) (rs : List Record) → list_any (has_key key) rs ≡ false → value_in key rs ≡ None
value_in-none key rs none = ap (option_map (λ (r : Record). r.1)) (find-none (has_key key) rs none)

pub value_in-among : (key : List ℕ) (before here after : List Record) → list_any (has_key key) before ≡ false → list_any (has_key key) after ≡ false
    → value_in key (before ++ (here ++ after)) ≡ value_in key here
value_in-among key before here after no_before no_after =
    let p : Record → Bool = has_key key in
    ap (option_map (λ (r : Record). r.1))
    (find-append p before (here ++ after)
    ∙ ap (λ (o : Option Record). option_or o (find p (here ++ after))) (find-none p before no_before)
    ∙ find-append p here after
    ∙ ap (λ (o : Option Record). option_or (find p here) o) (find-none p after no_after)
    ∙ alone (find p here))
  where
    alone : (o : Option Record) → option_or o None ≡ o
    alone None = refl
    alone (Some r) = refl

-- it is that of the record that has the key
pub value_in-held : (key value : List ℕ) (rs : List Record) → length (filter (has_key key) rs) ≤ 1 → Contains rs (key, value) → value_in key rs ≡ Some value
value_in-held key value [] few held = absurd (omega (arith, held.1))
value_in-held key value (r ∷ rs) few held =
    by (has_key key r) refl few held.0 held.1 held.2 (λ few k within is. value_in-held key value rs few (k, within, is))
  where
    by : (b : Bool) → has_key key r ≡ b → length (cond b (r ∷ filter (has_key key) rs) (filter (has_key key) rs)) ≤ 1
        → (k : ℕ) → k < length (r ∷ rs) → get_or (r ∷ rs) k (key, value) ≡ (key, value)
        → (length (filter (has_key key) rs) ≤ 1 → (k : ℕ) → k < length rs → get_or rs k (key, value) ≡ (key, value) → value_in key rs ≡ Some value)
        → option_map (λ (r : Record). r.1) (cond b (Some r) (find (has_key key) rs)) ≡ Some value
    by true is few zero within same later = ap (λ (r : Record). Some r.1) same
    by true is few (suc k) within same later =
        let some : list_any (has_key key) rs ≡ true =
        list_any_at (has_key key) rs k (key, value) (omega arith) (ap (has_key key) same ∙ has_key-same key value) in
        absurd (omega (arith, filter-some (has_key key) rs some))
    by false isnt few zero within same later =
        absurd (both_ways (has_key key r) isnt (ap (has_key key) same ∙ has_key-same key value))
    by false isnt few (suc k) within same later = later few k (omega arith) same

-- and it is there
value_in-there : (key : List ℕ) (rs : List Record) → list_any (has_key key) rs ≡ true → (value : List ℕ) × Contains rs (key, value)
value_in-there key rs some =
    let any = Any-from_list_any (has_key key) rs some in
    let r : Record = any.1 in
    let same : r.0 ≡ key = has_key-is key r any.4 in
    (r.1, Contains-from_at rs (key, r.1) (any.0, any.2, (λ d. get_or_default rs any.0 d r any.2 ∙ any.3 ∙ (λ i. (same i, r.1)))))

-- so records in another order have the same values
pub value_in-permutation : (key : List ℕ) (xs ys : List Record) → IsPermutation xs ys → length (filter (has_key key) xs) ≤ 1
    → value_in key xs ≡ value_in key ys
value_in-permutation key xs ys moved few = by (list_any (has_key key) xs) refl
  where
    by : (b : Bool) → list_any (has_key key) xs ≡ b → value_in key xs ≡ value_in key ys
    by true some =
        let held = value_in-there key xs some in
        value_in-held key held.0 xs few held.1
        ∙ sym (value_in-held key held.0 ys (omega (arith, filter-permutation (has_key key) xs ys moved))
        (Contains-permutation xs ys (key, held.0) moved held.1))
    by false none =
        value_in-none key xs none ∙ sym (value_in-none key ys (sym (list_any-IsPermutation (has_key key) xs ys moved) ∙ none))

pub value_in-put : (key value : List ℕ) (rs : List Record) → value_in key ((key, value) ∷ rs) ≡ Some value
value_in-put key value rs =
    ap (λ (b : Bool). option_map (λ (r : Record). r.1) (cond b (Some (key, value)) (find (has_key key) rs))) (has_key-same key value)

pub value_in-past : (key value other : List ℕ) (rs : List Record) → (key ≡ other → ⊥) → value_in other ((key, value) ∷ rs) ≡ value_in other rs
value_in-past key value other rs apart =
    ap (λ (b : Bool). option_map (λ (r : Record). r.1) (cond b (Some (key, value)) (find (has_key other) rs))) (has_key-other other (key, value) apart)

pub value_in-without : (key other : List ℕ) (rs : List Record) → (key ≡ other → ⊥) → value_in other (without key rs) ≡ value_in other rs
value_in-without key other [] apart = refl
value_in-without key other (r ∷ rs) apart = by (has_key key r) refl (value_in-without key other rs apart)
  where
    by : (b : Bool) → has_key key r ≡ b → value_in other (without key rs) ≡ value_in other rs
        → value_in other (cond (not b) (r ∷ without key rs) (without key rs)) ≡ value_in other (r ∷ rs)
    by true is more =
        more
        ∙ sym (ap (λ (b : Bool). option_map (λ (r : Record). r.1) (cond b (Some r) (find (has_key other) rs)))
        (has_key-other other r (λ same. apart (sym (has_key-is key r is) ∙ same))))
    by false is more =
        elim (has_key other r) as (λ b. option_map (λ (r : Record). r.1) (cond b (Some r) (find (has_key other) (without key rs)))
        ≡ option_map (λ (r : Record). r.1) (cond b (Some r) (find (has_key other) rs))) [
          | true ↦ refl
          | false ↦ more
        ]

-- a key has as many records as values
pub one_of-value : (key : List ℕ) (rs : List Record) → length (filter (has_key key) rs) ≤ 1
    → one_of (value_in key rs) ≡ length (filter (has_key key) rs)
one_of-value key [] few = refl
one_of-value key (r ∷ rs) few = by (has_key key r) few (λ few. one_of-value key rs few)
  where
    by : (b : Bool) → length (cond b (r ∷ filter (has_key key) rs) (filter (has_key key) rs)) ≤ 1
        → (length (filter (has_key key) rs) ≤ 1 → one_of (value_in key rs) ≡ length (filter (has_key key) rs))
        → one_of (option_map (λ (r : Record). r.1) (cond b (Some r) (find (has_key key) rs)))
        ≡ length (cond b (r ∷ filter (has_key key) rs) (filter (has_key key) rs))
    by true few later = omega arith
    by false few later = later few

-- ---- a value in place of another

pub to_middle : {X : Type 0} (x : X) (xs ys : List X) → IsPermutation (x ∷ (xs ++ ys)) (xs ++ x ∷ ys)
to_middle x xs ys =
    subst (λ zs. IsPermutation (x ∷ (xs ++ ys)) zs) (append_assoc xs (x ∷ []) ys)
    (IsPermutation-append_left ys (x ∷ xs) (xs ++ x ∷ []) (IsPermutation-sym (xs ++ x ∷ []) (x ∷ xs) (IsPermutation-to_front xs x)))

with_value-all : (key value : List ℕ) (rs : List Record)
    → IsPermutation (with_value key value rs) (replicate (length (filter (has_key key) rs)) (key, value) ++ without key rs)
with_value-all key value [] = IsPermutation-refl []
with_value-all key value (r ∷ rs) =
    let more = with_value-all key value rs in
    let news : List Record = replicate (length (filter (has_key key) rs)) (key, value) in
    let kept : IsPermutation (r ∷ with_value key value rs) (news ++ r ∷ without key rs) =
    IsPermutation-trans (r ∷ with_value key value rs) (r ∷ (news ++ without key rs)) (news ++ r ∷ without key rs)
    (IsPermutation-cons r (with_value key value rs) (news ++ without key rs) more) (to_middle r news (without key rs)) in
    elim (has_key key r) as (λ b. IsPermutation (cond b (key, value) r ∷ with_value key value rs)
    (replicate (length (cond b (r ∷ filter (has_key key) rs) (filter (has_key key) rs))) (key, value) ++ cond (not b) (r ∷ without key rs) (without key rs))) [
      | true ↦ IsPermutation-cons (key, value) (with_value key value rs) (news ++ without key rs) more
      | false ↦ kept
    ]

pub with_value-put : (key value : List ℕ) (rs : List Record) → length (filter (has_key key) rs) ≡ 1
    → IsPermutation (with_value key value rs) ((key, value) ∷ without key rs)
with_value-put key value rs one =
    subst (λ n. IsPermutation (with_value key value rs) (replicate n (key, value) ++ without key rs)) one (with_value-all key value rs)

-- a block keeps a record where its key's new one has no room in it
pub without-some : (size : ℕ) (key value : List ℕ) (rs : List Record) → length (filter (has_key key) rs) ≤ 1 → record_size (key, value) ≤ size
    → nat_le (records_size (with_value key value rs)) size ≡ false → 0 < length rs → 0 < length (without key rs)
without-some size key value [] few fits full some = absurd (omega arith)
without-some size key value (r ∷ []) few fits full some = by (has_key key r) full
  where
    by : (b : Bool) → nat_le (records_size (cond b (key, value) r ∷ [])) size ≡ false → 0 < length (cond (not b) (r ∷ []) [])
    by true full = absurd (both_ways (nat_le (record_size (key, value) + 0) size) full (le-leb (record_size (key, value) + 0) size (omega arith)))
    by false full = omega arith
without-some size key value (r ∷ s ∷ rs) few fits full some = omega (arith, without-length key (r ∷ s ∷ rs))
