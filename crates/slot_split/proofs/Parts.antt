-- Parts of lists of records.
use Rattle.std.proofs.Common.{◌≡◌, ℕ, zero, suc, ◌+◌, ◌<◌, ◌≤◌, Bool, true, false, cond, not, ◌||◌, List, [], ◌∷◌, ◌++◌, length, get_or, take, refl, ap, ◌∙◌, arith}
use Rattle.std.specs.Prelude.{All, HoldsAt, filter}
use Rattle.std.specs.List.{list_any}
use Rattle.std.proofs.lemmas.List.Elements.{All-nil, All-cons, filter_more}
use Rattle.table_block.specs.Records.{Record, record_size, records_size}

-- a record by its key and its value
pub record_is : (rs : List Record) (i : ℕ) (key value : List ℕ) → HoldsAt (λ r. r.0 ≡ key) rs i → HoldsAt (λ r. r.1 ≡ value) rs i
    → (d : Record) → get_or rs i d ≡ (key, value)
record_is rs i key value keyed valued d = (λ j. (keyed d j, valued d j))

pub records_size-append : (xs ys : List Record) → records_size (xs ++ ys) ≡ records_size xs + records_size ys
records_size-append [] ys = omega arith
records_size-append (x ∷ xs) ys = omega (arith, records_size-append xs ys)

-- a record has no more bytes than all
pub each_within : (size : ℕ) (rs : List Record) → records_size rs ≤ size → All (λ r. record_size r ≤ size) rs
each_within size [] within = All-nil (λ r. record_size r ≤ size)
each_within size (r ∷ rs) within = All-cons (λ r. record_size r ≤ size) r rs (omega arith) (each_within size rs (omega arith))

-- nor have some of them
pub filter_size : (p : Record → Bool) (rs : List Record) → records_size (filter p rs) ≤ records_size rs
filter_size p [] = omega arith
filter_size p (r ∷ rs) =
    let more = filter_size p rs in
    elim (p r) as (λ b. records_size (cond b (r ∷ filter p rs) (filter p rs)) ≤ record_size r + records_size rs) [
      | true ↦ omega (arith, more)
      | false ↦ omega (arith, more)
    ]

-- nor those before a record and it
pub front_size : (p : Record → Bool) (rs : List Record) (i : ℕ) (d : Record) → i < length rs
    → records_size (filter p (take i rs)) + record_size (get_or rs i d) ≤ records_size rs
front_size p [] i d within = absurd (omega arith)
front_size p (r ∷ rs) zero d within = omega arith
front_size p (r ∷ rs) (suc i) d within =
    let more = front_size p rs i d (omega arith) in
    elim (p r) as (λ b. records_size (cond b (r ∷ filter p (take i rs)) (filter p (take i rs))) + record_size (get_or rs i d) ≤ record_size r + records_size rs) [
      | true ↦ omega (arith, more)
      | false ↦ omega (arith, more)
    ]

-- one record more, by its key and its value: it is kept where it passes the test
pub kept-more : (p : Record → Bool) (rs : List Record) (i : ℕ) (key value : List ℕ) (b : Bool) → i < length rs
    → HoldsAt (λ r. r.0 ≡ key) rs i → HoldsAt (λ r. r.1 ≡ value) rs i → p (key, value) ≡ b
    → filter p (take (i + 1) rs) ≡ filter p (take i rs) ++ cond b ((key, value) ∷ []) []
kept-more p rs i key value b within keyed valued test =
    let is = record_is rs i key value keyed valued (key, value) in
    filter_more p rs i (key, value) within
    ∙ (λ j. filter p (take i rs) ++ cond (p (is j)) (is j ∷ []) [])
    ∙ ap (λ (t : Bool). filter p (take i rs) ++ cond t ((key, value) ∷ []) []) test

-- where none passes a test, none is kept by it, and all are by its opposite
pub filter-none : {X : Type 0} (p : X → Bool) (xs : List X) → list_any p xs ≡ false → filter p xs ≡ []
filter-none p [] none = refl
filter-none p (x ∷ xs) none = by (p x) none (λ later. filter-none p xs later)
  where
    by : (b : Bool) → (b || list_any p xs) ≡ false → (list_any p xs ≡ false → filter p xs ≡ []) → cond b (x ∷ filter p xs) (filter p xs) ≡ []
    by true none more = cc
    by false none more = more none

pub filter-all : {X : Type 0} (p : X → Bool) (xs : List X) → list_any p xs ≡ false → filter (λ x. not (p x)) xs ≡ xs
filter-all p [] none = refl
filter-all p (x ∷ xs) none = by (p x) none (λ later. filter-all p xs later)
  where
    by : (b : Bool) → (b || list_any p xs) ≡ false → (list_any p xs ≡ false → filter (λ x. not (p x)) xs ≡ xs)
        → cond (not b) (x ∷ filter (λ x. not (p x)) xs) (filter (λ x. not (p x)) xs) ≡ x ∷ xs
    by true none more = cc
    by false none more = ap (λ rest. x ∷ rest) (more none)

-- where one passes it, one is kept
pub filter-some : {X : Type 0} (p : X → Bool) (xs : List X) → list_any p xs ≡ true → 0 < length (filter p xs)
filter-some p [] some = cc
filter-some p (x ∷ xs) some = by (p x) some (λ later. filter-some p xs later)
  where
    by : (b : Bool) → (b || list_any p xs) ≡ true → (list_any p xs ≡ true → 0 < length (filter p xs))
        → 0 < length (cond b (x ∷ filter p xs) (filter p xs))
    by true some more = omega arith
    by false some more = more some
