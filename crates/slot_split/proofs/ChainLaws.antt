-- A bucket's chain after a put and a remove: its records, its blocks and their numbers.
use Rattle.std.proofs.Common.{◌≡◌, ℕ, ◌+◌, ◌<◌, ◌≤◌, Bool, true, false, cond, not, List, [], ◌∷◌, ◌++◌, length, map, refl, sym, ap, subst, ◌∙◌, inl, inr, ◌⊎◌, arith}
use Rattle.std.specs.Prelude.{◌==◌, All, filter, nat_le}
use Rattle.std.specs.List.{list_any}
use Rattle.std.specs.List.Sorted.{IsPermutation}
use Rattle.std.proofs.lemmas.Bool.{leb-true, or_parts, or_cases, or_left, or_right, and_cases, and_parts, cond_both}
use Rattle.std.proofs.lemmas.List.{length-map, map-append}
use Rattle.std.proofs.lemmas.List.Elements.{All-nil, All-cons, All-head, All-tail, All-map, filter-append}
use Rattle.std.proofs.lemmas.List.Folds.{flat_map-map, list_any-append}
use Rattle.std.proofs.lemmas.List.Sorted.{IsPermutation-sym, IsPermutation-trans, IsPermutation-to_front}
use Rattle.table_block.specs.Records.{Record, record_size, records_size}
use Rattle.slot_split.specs.Packing.{fits_in, with_record}
use Rattle.slot_split.specs.Plans.{all_records, is_empty, IsNewBlock}
use Rattle.slot_split.specs.Tables.{TableBlock, chain_records, chain_numbers, records_in}
use Rattle.slot_split.specs.Puts.{has_key, holds_key, with_value, without, with_records_of, fits_in_place, is_put_in_place, chain_with_value, chain_without, chain_with, chain_put, chain_removed}
use Rattle.slot_split.specs.Well.{times}
use Rattle.slot_split.proofs.Parts.{filter-all, filter-some, filter_size}
use Rattle.slot_split.proofs.PackedLaws.{with_record_keeps, with_record_new}
use Rattle.slot_split.proofs.KeyLaws.{filter-parts, none-from_filter, with_value-put, without-some}

abbrev pub IsGood : ℕ → TableBlock → Type 0
IsGood size b = IsNewBlock size b.records

pub records_in-is : (chain : List TableBlock) → all_records (chain_records chain) ≡ records_in chain
records_in-is chain = flat_map-map (λ (block : List Record). block) (λ (b : TableBlock). b.records) chain

pub All-unmap : {X Y : Type 0} (P : Y → Type 0) (f : X → Y) (xs : List X) → All P (map f xs) → All (λ x. P (f x)) xs
All-unmap P f [] all = All-nil (λ x. P (f x))
All-unmap P f (x ∷ xs) all =
    All-cons (λ x. P (f x)) x xs (All-head P (f x) (map f xs) all) (All-unmap P f xs (All-tail P (f x) (map f xs) all))

-- ---- how often a number stands there

pub times-cons : (n m : ℕ) (ms : List ℕ) → times n (m ∷ ms) ≡ times n (m ∷ []) + times n ms
times-cons n m ms = filter-parts (λ k. k == n) (m ∷ []) ms

pub times-append : (n : ℕ) (ms ks : List ℕ) → times n (ms ++ ks) ≡ times n ms + times n ks
times-append n ms ks = filter-parts (λ k. k == n) ms ks

pub times_around : (n : ℕ) (before chain after : List TableBlock)
    → times n (chain_numbers (before ++ (chain ++ after))) ≡ times n (chain_numbers before) + (times n (chain_numbers chain) + times n (chain_numbers after))
times_around n before chain after =
    ap (times n) (map-append (λ (b : TableBlock). b.block) before (chain ++ after))
    ∙ times-append n (chain_numbers before) (chain_numbers (chain ++ after))
    ∙ ap (λ (k : ℕ). times n (chain_numbers before) + k)
    (ap (times n) (map-append (λ (b : TableBlock). b.block) chain after) ∙ times-append n (chain_numbers chain) (chain_numbers after))

-- ---- blocks rewritten in their places

pub rewritten-numbers : (f : List Record → List Record) (chain : List TableBlock)
    → chain_numbers (map (λ b. with_records_of b (f b.records)) chain) ≡ chain_numbers chain
rewritten-numbers f [] = refl
rewritten-numbers f (b ∷ chain) = ap (λ (ns : List ℕ). b.block ∷ ns) (rewritten-numbers f chain)

pub with_value-records : (key value : List ℕ) (chain : List TableBlock) → records_in (chain_with_value key value chain) ≡ with_value key value (records_in chain)
with_value-records key value [] = refl
with_value-records key value (b ∷ chain) =
    ap (λ (rs : List Record). with_value key value b.records ++ rs) (with_value-records key value chain)
    ∙ sym (map-append (λ (r : Record). cond (has_key key r) (key, value) r) b.records (records_in chain))

pub without-records : (key : List ℕ) (chain : List TableBlock) → records_in (chain_without key chain) ≡ without key (records_in chain)
without-records key [] = refl
without-records key (b ∷ chain) =
    ap (λ (rs : List Record). without key b.records ++ rs) (without-records key chain)
    ∙ sym (filter-append (λ (r : Record). not (has_key key r)) b.records (records_in chain))

-- ---- a record more

chain_with-is : (size new : ℕ) (chain : List TableBlock) (r : Record) → chain_records (chain_with size new chain r) ≡ with_record size (chain_records chain) r
chain_with-is size new [] r = refl
chain_with-is size new (b ∷ chain) r =
    let more = chain_with-is size new chain r in
    elim (fits_in size (record_size r) b.records) as (λ t. chain_records (cond t (with_records_of b (b.records ++ r ∷ []) ∷ chain) (b ∷ chain_with size new chain r))
    ≡ cond t ((b.records ++ r ∷ []) ∷ chain_records chain) (b.records ∷ with_record size (chain_records chain) r)) [
      | true ↦ refl
      | false ↦ ap (λ (bs : List (List Record)). b.records ∷ bs) more
    ]

pub chain_with-records : (size new : ℕ) (chain : List TableBlock) (r : Record)
    → IsPermutation (records_in (chain_with size new chain r)) (r ∷ records_in chain)
chain_with-records size new chain r =
    let now = records_in (chain_with size new chain r) in
    let is : all_records (with_record size (chain_records chain) r) ≡ now =
    ap all_records (sym (chain_with-is size new chain r)) ∙ records_in-is (chain_with size new chain r) in
    let more : IsPermutation (records_in chain ++ r ∷ []) now =
    coe 0 1 (i. IsPermutation (records_in-is chain i ++ r ∷ []) (is i)) (with_record_keeps size (chain_records chain) r) in
    IsPermutation-trans now (records_in chain ++ r ∷ []) (r ∷ records_in chain)
    (IsPermutation-sym (records_in chain ++ r ∷ []) now more) (IsPermutation-to_front (records_in chain) r)

pub chain_with-good : (size new : ℕ) (chain : List TableBlock) (r : Record) → record_size r ≤ size → All (IsGood size) chain
    → All (IsGood size) (chain_with size new chain r)
chain_with-good size new chain r fits good =
    All-unmap (IsNewBlock size) (λ (b : TableBlock). b.records) (chain_with size new chain r)
    (subst (λ (bs : List (List Record)). All (IsNewBlock size) bs) (sym (chain_with-is size new chain r))
    (with_record_new size (chain_records chain) r fits (All-map (IsNewBlock size) (λ (b : TableBlock). b.records) chain good)))

-- the numbers are those that were there, and the new one where no block has room
pub chain_with-numbers : (size new : ℕ) (chain : List TableBlock) (r : Record)
    → (chain_numbers (chain_with size new chain r) ≡ chain_numbers chain) ⊎ (chain_numbers (chain_with size new chain r) ≡ chain_numbers chain ++ new ∷ [])
chain_with-numbers size new [] r = inr refl
chain_with-numbers size new (b ∷ chain) r =
    let more = chain_with-numbers size new chain r in
    elim (fits_in size (record_size r) b.records) as (λ t.
    (chain_numbers (cond t (with_records_of b (b.records ++ r ∷ []) ∷ chain) (b ∷ chain_with size new chain r)) ≡ chain_numbers (b ∷ chain))
    ⊎ (chain_numbers (cond t (with_records_of b (b.records ++ r ∷ []) ∷ chain) (b ∷ chain_with size new chain r)) ≡ chain_numbers (b ∷ chain) ++ new ∷ [])) [
      | true ↦ inl refl
      | false ↦
          elim more [
            | inl same ↦ inl (ap (λ (ns : List ℕ). b.block ∷ ns) same)
            | inr grown ↦ inr (ap (λ (ns : List ℕ). b.block ∷ ns) grown)
          ]
    ]

-- ---- a put

-- it is put in place only where the key is there
in_place-some : (size : ℕ) (key value : List ℕ) (chain : List TableBlock) → is_put_in_place size chain key value ≡ true
    → list_any (has_key key) (records_in chain) ≡ true
in_place-some size key value [] some = cc
in_place-some size key value (b ∷ chain) some =
    list_any-append (has_key key) b.records (records_in chain)
    ∙ elim (or_cases (fits_in_place size key value b) (is_put_in_place size chain key value) some) [
      | inl here ↦
          or_left (list_any (has_key key) b.records) (list_any (has_key key) (records_in chain))
          (and_parts (holds_key key b) (nat_le (records_size (with_value key value b.records)) size) here).0
      | inr later ↦
          or_right (list_any (has_key key) b.records) (list_any (has_key key) (records_in chain)) (in_place-some size key value chain later)
    ]

pub chain_put-records : (size new : ℕ) (chain : List TableBlock) (key value : List ℕ) → length (filter (has_key key) (records_in chain)) ≤ 1
    → IsPermutation (records_in (chain_put size new chain key value)) ((key, value) ∷ without key (records_in chain))
chain_put-records size new chain key value few = by (is_put_in_place size chain key value) refl
  where
    by : (b : Bool) → is_put_in_place size chain key value ≡ b
        → IsPermutation (records_in (cond b (chain_with_value key value chain) (chain_with size new (chain_without key chain) (key, value))))
        ((key, value) ∷ without key (records_in chain))
    by true in_place =
        let one : length (filter (has_key key) (records_in chain)) ≡ 1 =
        (let some = filter-some (has_key key) (records_in chain) (in_place-some size key value chain in_place) in omega arith) in
        subst (λ (rs : List Record). IsPermutation rs ((key, value) ∷ without key (records_in chain))) (sym (with_value-records key value chain))
        (with_value-put key value (records_in chain) one)
    by false other =
        subst (λ (rs : List Record). IsPermutation (records_in (chain_with size new (chain_without key chain) (key, value))) ((key, value) ∷ rs))
        (without-records key chain) (chain_with-records size new (chain_without key chain) (key, value))

pub chain_put-numbers : (size new : ℕ) (chain : List TableBlock) (key value : List ℕ)
    → (chain_numbers (chain_put size new chain key value) ≡ chain_numbers chain) ⊎ (chain_numbers (chain_put size new chain key value) ≡ chain_numbers chain ++ new ∷ [])
chain_put-numbers size new chain key value =
    let left = chain_without key chain in
    let same : chain_numbers left ≡ chain_numbers chain = rewritten-numbers (without key) chain in
    let other = chain_with-numbers size new left (key, value) in
    elim (is_put_in_place size chain key value) as (λ b.
    (chain_numbers (cond b (chain_with_value key value chain) (chain_with size new left (key, value))) ≡ chain_numbers chain)
    ⊎ (chain_numbers (cond b (chain_with_value key value chain) (chain_with size new left (key, value))) ≡ chain_numbers chain ++ new ∷ [])) [
      | true ↦ inl (rewritten-numbers (with_value key value) chain)
      | false ↦
          elim other [
            | inl kept ↦ inl (kept ∙ same)
            | inr grown ↦ inr (grown ∙ ap (λ (ns : List ℕ). ns ++ new ∷ []) same)
          ]
    ]

with_value-none : (key value : List ℕ) (rs : List Record) → list_any (has_key key) rs ≡ false → with_value key value rs ≡ rs
with_value-none key value [] none = refl
with_value-none key value (r ∷ rs) none =
    let parts = or_parts (has_key key r) (list_any (has_key key) rs) none in
    (λ i. cond (parts.0 i) (key, value) r ∷ with_value-none key value rs parts.1 i)

chain_with_value-none : (key value : List ℕ) (chain : List TableBlock) → list_any (has_key key) (records_in chain) ≡ false
    → chain_with_value key value chain ≡ chain
chain_with_value-none key value [] none = refl
chain_with_value-none key value (b ∷ chain) none =
    let parts = or_parts (list_any (has_key key) b.records) (list_any (has_key key) (records_in chain))
    (sym (list_any-append (has_key key) b.records (records_in chain)) ∙ none) in
    (λ i. with_records_of b (with_value-none key value b.records parts.0 i) ∷ chain_with_value-none key value chain parts.1 i)

-- in place no block grows past its size, and the others are as they were
in_place-good : (size : ℕ) (key value : List ℕ) (chain : List TableBlock) → length (filter (has_key key) (records_in chain)) ≤ 1
    → is_put_in_place size chain key value ≡ true → All (IsGood size) chain → All (IsGood size) (chain_with_value key value chain)
in_place-good size key value [] few in_place good = good
in_place-good size key value (b ∷ chain) few in_place good =
    let counted = filter-parts (has_key key) b.records (records_in chain) in
    let here : IsNewBlock size b.records = All-head (IsGood size) b chain good in
    let later : All (IsGood size) chain = All-tail (IsGood size) b chain good in
    let now : TableBlock = with_records_of b (with_value key value b.records) in
    elim (or_cases (fits_in_place size key value b) (is_put_in_place size chain key value) in_place) [
      | inl fits ↦
          let parts = and_parts (holds_key key b) (nat_le (records_size (with_value key value b.records)) size) fits in
          let one = filter-some (has_key key) b.records parts.0 in
          let none : list_any (has_key key) (records_in chain) ≡ false = none-from_filter (has_key key) (records_in chain) (omega (arith, counted)) in
          All-cons (IsGood size) now (chain_with_value key value chain)
          (record {
            some = omega (arith, length-map b.records (λ (r : Record). cond (has_key key r) (key, value) r), here.some);
            within = leb-true (records_size (with_value key value b.records)) size parts.1;
          })
          (subst (λ (bs : List TableBlock). All (IsGood size) bs) (sym (chain_with_value-none key value chain none)) later)
      | inr there ↦
          let one = filter-some (has_key key) (records_in chain) (in_place-some size key value chain there) in
          let none : list_any (has_key key) b.records ≡ false = none-from_filter (has_key key) b.records (omega (arith, counted)) in
          All-cons (IsGood size) now (chain_with_value key value chain)
          (subst (λ (rs : List Record). IsNewBlock size rs) (sym (with_value-none key value b.records none)) here)
          (in_place-good size key value chain (omega (arith, counted)) there later)
    ]

-- the block that the key leaves keeps a record
left-good : (size : ℕ) (key value : List ℕ) (chain : List TableBlock) → length (filter (has_key key) (records_in chain)) ≤ 1 → record_size (key, value) ≤ size
    → is_put_in_place size chain key value ≡ false → All (IsGood size) chain → All (IsGood size) (chain_without key chain)
left-good size key value [] few fits none good = good
left-good size key value (b ∷ chain) few fits none good =
    let parts = or_parts (fits_in_place size key value b) (is_put_in_place size chain key value) none in
    let counted = filter-parts (has_key key) b.records (records_in chain) in
    let here : IsNewBlock size b.records = All-head (IsGood size) b chain good in
    let some : 0 < length (without key b.records) =
    elim (and_cases (holds_key key b) (nat_le (records_size (with_value key value b.records)) size) parts.0) [
      | inl absent ↦ (let same = ap length (filter-all (has_key key) b.records absent) in omega (arith, same, here.some))
      | inr full ↦ without-some size key value b.records (omega (arith, counted)) fits full here.some
    ] in
    All-cons (IsGood size) (with_records_of b (without key b.records)) (chain_without key chain)
    (record { some = some; within = omega (arith, filter_size (λ (r : Record). not (has_key key r)) b.records, here.within) })
    (left-good size key value chain (omega (arith, counted)) fits parts.1 (All-tail (IsGood size) b chain good))

pub chain_put-good : (size new : ℕ) (chain : List TableBlock) (key value : List ℕ) → length (filter (has_key key) (records_in chain)) ≤ 1
    → record_size (key, value) ≤ size → All (IsGood size) chain → All (IsGood size) (chain_put size new chain key value)
chain_put-good size new chain key value few fits good = by (is_put_in_place size chain key value) refl
  where
    by : (b : Bool) → is_put_in_place size chain key value ≡ b
        → All (IsGood size) (cond b (chain_with_value key value chain) (chain_with size new (chain_without key chain) (key, value)))
    by true in_place = in_place-good size key value chain few in_place good
    by false other = chain_with-good size new (chain_without key chain) (key, value) fits (left-good size key value chain few fits other good)

-- ---- a remove

pub is_empty-nil : (rs : List Record) → is_empty rs ≡ true → rs ≡ []
is_empty-nil [] nil = refl
is_empty-nil (r ∷ rs) nil = cc

pub not_empty : (rs : List Record) → not (is_empty rs) ≡ true → 0 < length rs
not_empty [] some = cc
not_empty (r ∷ rs) some = omega arith

nonempty-records : (chain : List TableBlock) → records_in (filter (λ b. not (is_empty b.records)) chain) ≡ records_in chain
nonempty-records [] = refl
nonempty-records (b ∷ chain) = by (is_empty b.records) refl (nonempty-records chain)
  where
    by : (t : Bool) → is_empty b.records ≡ t → records_in (filter (λ b. not (is_empty b.records)) chain) ≡ records_in chain
        → records_in (cond (not t) (b ∷ filter (λ b. not (is_empty b.records)) chain) (filter (λ b. not (is_empty b.records)) chain))
        ≡ b.records ++ records_in chain
    by true nil more = more ∙ ap (λ (rs : List Record). rs ++ records_in chain) (sym (is_empty-nil b.records nil))
    by false some more = ap (λ (rs : List Record). b.records ++ rs) more

pub chain_removed-records : (key : List ℕ) (chain : List TableBlock) → records_in (chain_removed key chain) ≡ without key (records_in chain)
chain_removed-records key chain = nonempty-records (chain_without key chain) ∙ without-records key chain

pub chain_removed-good : (size : ℕ) (key : List ℕ) (chain : List TableBlock) → All (IsGood size) chain → All (IsGood size) (chain_removed key chain)
chain_removed-good size key [] good = good
chain_removed-good size key (b ∷ chain) good =
    let more = chain_removed-good size key chain (All-tail (IsGood size) b chain good) in
    let here : IsNewBlock size b.records = All-head (IsGood size) b chain good in
    cond_both (not (is_empty (without key b.records))) (with_records_of b (without key b.records) ∷ chain_removed key chain) (chain_removed key chain)
    (All (IsGood size))
    (λ some.
    All-cons (IsGood size) (with_records_of b (without key b.records)) (chain_removed key chain)
    (record {
      some = not_empty (without key b.records) some;
      within = omega (arith, filter_size (λ (r : Record). not (has_key key r)) b.records, here.within);
    }) more)
    (λ none. more)

-- of the numbers none is more often there
pub chain_removed-numbers : (key : List ℕ) (chain : List TableBlock) (n : ℕ)
    → times n (chain_numbers (chain_removed key chain)) ≤ times n (chain_numbers chain)
chain_removed-numbers key [] n = omega arith
chain_removed-numbers key (b ∷ chain) n =
    let more = chain_removed-numbers key chain n in
    let now = chain_numbers (chain_removed key chain) in
    elim (is_empty (without key b.records)) as (λ t.
    length (filter (λ m. m == n) (chain_numbers (cond (not t) (with_records_of b (without key b.records) ∷ chain_removed key chain) (chain_removed key chain))))
    ≤ length (cond (b.block == n) (b.block ∷ filter (λ m. m == n) (chain_numbers chain)) (filter (λ m. m == n) (chain_numbers chain)))) [
      | true ↦
          elim (b.block == n) as (λ t. length (filter (λ m. m == n) now)
          ≤ length (cond t (b.block ∷ filter (λ m. m == n) (chain_numbers chain)) (filter (λ m. m == n) (chain_numbers chain)))) [
            | true ↦ omega (arith, more)
            | false ↦ more
          ]
      | false ↦
          elim (b.block == n) as (λ t. length (cond t (b.block ∷ filter (λ m. m == n) now) (filter (λ m. m == n) now))
          ≤ length (cond t (b.block ∷ filter (λ m. m == n) (chain_numbers chain)) (filter (λ m. m == n) (chain_numbers chain)))) [
            | true ↦ omega (arith, more)
            | false ↦ more
          ]
    ]
