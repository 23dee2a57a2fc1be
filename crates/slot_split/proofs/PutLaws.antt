-- A table after a put and after a remove: a map with one value changed, well formed as before.
use Rattle.std.proofs.Common.{◌≡◌, ℕ, ◌+◌, ◌≤◌, Bool, true, false, cond, not, List, [], ◌∷◌, ◌++◌, length, Some, None, sym, ap, subst, ◌∙◌, inl, inr, arith}
use Rattle.std.specs.Prelude.{◌==◌, All, filter}
use Rattle.std.specs.List.{flat_map}
use Rattle.std.specs.List.Sorted.{IsPermutation}
use Rattle.std.proofs.lemmas.Bool.{ne_eqb, cases_eq}
use Rattle.std.proofs.lemmas.List.Elements.{All-cons, All-append, All-filter}
use Rattle.std.proofs.lemmas.List.Sorted.{IsPermutation-sym, IsPermutation-trans, IsPermutation-append_left, IsPermutation-append_right, length_permutation, All-permutation}
use Rattle.table_block.specs.Records.{Record, record_size}
use Rattle.table_block.specs.Slots.{slot_of}
use Rattle.slot_split.specs.Tables.{TableBlock, Bucket, Table, records_in, chain_numbers, bucket_records, table_chain, table_records}
use Rattle.slot_split.specs.Puts.{has_key, value_in, one_of, without, chain_put, chain_removed, key_chain, value_of, table_put, table_removed}
use Rattle.slot_split.specs.Well.{LiesIn, IsOnce, times, AreApart, IsFiled, IsTable}
use Rattle.slot_split.proofs.KeyLaws.{to_middle, filter-parts, once-permutation, put_once, removed_once, without-any, without-among, without-length, value_in-none, value_in-permutation, value_in-put, value_in-past, value_in-without, one_of-value}
use Rattle.slot_split.proofs.ChainLaws.{IsGood, chain_put-records, chain_put-good, chain_put-numbers, chain_removed-records, chain_removed-good, chain_removed-numbers, times_around}
use Rattle.slot_split.proofs.TableLaws.{AtSlot, All-split, key_at, key_around, value_of-is, changed-records, changed-filed, changed-move, changed-chain, table_chain-parts}

-- ---- the records

-- a key stands once in its chain
once_in : (table : Table) (key : List ℕ) → IsFiled table → length (filter (has_key key) (records_in (key_chain table key))) ≤ 1
once_in table key filed =
    let at = key_at table key filed in
    let here = records_in (key_chain table key) in
    let after = flat_map bucket_records at.after in
    let before = flat_map bucket_records at.before in
    omega (
      arith,
      ap (λ (rs : List Record). length (filter (has_key key) rs)) (key_around table key filed).records,
      filter-parts (has_key key) before (here ++ after),
      filter-parts (has_key key) here after,
      filed.once key,
    )

-- a put leaves the other records, and the key's new one
pub put-records : (size new : ℕ) (table : Table) (key value : List ℕ) → IsFiled table
    → IsPermutation (table_records (table_put size new table key value)) ((key, value) ∷ without key (table_records table))
put-records size new table key value filed =
    let at = key_at table key filed in
    let around = key_around table key filed in
    let chain = key_chain table key in
    let now = records_in (chain_put size new chain key value) in
    let left = without key (records_in chain) in
    let before = flat_map bucket_records at.before in
    let after = flat_map bucket_records at.after in
    let others : without key (table_records table) ≡ before ++ (left ++ after) =
    ap (without key) around.records ∙ without-among key before (records_in chain) after around.no_before around.no_after in
    let here : IsPermutation (before ++ (now ++ after)) (before ++ (((key, value) ∷ left) ++ after)) =
    IsPermutation-append_right before (now ++ after) (((key, value) ∷ left) ++ after)
    (IsPermutation-append_left after now ((key, value) ∷ left) (chain_put-records size new chain key value (once_in table key filed))) in
    let moved : IsPermutation (before ++ (now ++ after)) ((key, value) ∷ (before ++ (left ++ after))) =
    IsPermutation-trans (before ++ (now ++ after)) (before ++ (((key, value) ∷ left) ++ after)) ((key, value) ∷ (before ++ (left ++ after))) here
    (IsPermutation-sym ((key, value) ∷ (before ++ (left ++ after))) (before ++ (key, value) ∷ (left ++ after)) (to_middle (key, value) before (left ++ after))) in
    coe 1 0 (i. IsPermutation (changed-records table key (chain_put size new chain key value) at i) ((key, value) ∷ others i)) moved

-- a remove leaves the other records
pub removed-records : (table : Table) (key : List ℕ) → IsFiled table → table_records (table_removed table key) ≡ without key (table_records table)
removed-records table key filed =
    let at = key_at table key filed in
    let around = key_around table key filed in
    let chain = key_chain table key in
    let before = flat_map bucket_records at.before in
    let after = flat_map bucket_records at.after in
    changed-records table key (chain_removed key chain) at
    ∙ ap (λ (rs : List Record). before ++ (rs ++ after)) (chain_removed-records key chain)
    ∙ sym (ap (without key) around.records ∙ without-among key before (records_in chain) after around.no_before around.no_after)

-- ---- it is filed as before

pub put-filed : (size new : ℕ) (table : Table) (key value : List ℕ) → IsFiled table → IsFiled (table_put size new table key value)
put-filed size new table key value filed =
    let at = key_at table key filed in
    let chain = key_chain table key in
    let own = (key_around table key filed).own.1 in
    let moved = chain_put-records size new chain key value (once_in table key filed) in
    let now = records_in (chain_put size new chain key value) in
    let left = without key (records_in chain) in
    changed-filed table key (chain_put size new chain key value) filed
    (All-permutation (LiesIn at.lo at.hi) ((key, value) ∷ left) now (IsPermutation-sym now ((key, value) ∷ left) moved)
    (All-cons (LiesIn at.lo at.hi) (key, value) left (record { above = at.low; below = at.high })
    (All-filter (λ (r : Record). not (has_key key r)) (LiesIn at.lo at.hi) (records_in chain) own)))
    (once-permutation ((key, value) ∷ without key (table_records table)) (table_records (table_put size new table key value))
    (IsPermutation-sym (table_records (table_put size new table key value)) ((key, value) ∷ without key (table_records table))
    (put-records size new table key value filed))
    (put_once key value (table_records table) filed.once))

pub removed-filed : (table : Table) (key : List ℕ) → IsFiled table → IsFiled (table_removed table key)
removed-filed table key filed =
    let at = key_at table key filed in
    let chain = key_chain table key in
    let own = (key_around table key filed).own.1 in
    changed-filed table key (chain_removed key chain) filed
    (subst (λ (rs : List Record). All (LiesIn at.lo at.hi) rs) (sym (chain_removed-records key chain))
    (All-filter (λ (r : Record). not (has_key key r)) (LiesIn at.lo at.hi) (records_in chain) own))
    (subst IsOnce (sym (removed-records table key filed)) (removed_once key (table_records table) filed.once))

-- ---- the values of keys

pub put-same : (size new : ℕ) (table : Table) (key value : List ℕ) → IsFiled table
    → value_of (table_put size new table key value) key ≡ Some value
put-same size new table key value filed =
    let now = table_put size new table key value in
    let later = put-filed size new table key value filed in
    value_of-is now key later
    ∙ value_in-permutation key (table_records now) ((key, value) ∷ without key (table_records table)) (put-records size new table key value filed) (later.once key)
    ∙ value_in-put key value (without key (table_records table))

pub put-others : (size new : ℕ) (table : Table) (key value other : List ℕ) → IsFiled table → (key ≡ other → ⊥)
    → value_of (table_put size new table key value) other ≡ value_of table other
put-others size new table key value other filed apart =
    let now = table_put size new table key value in
    let later = put-filed size new table key value filed in
    value_of-is now other later
    ∙ value_in-permutation other (table_records now) ((key, value) ∷ without key (table_records table)) (put-records size new table key value filed) (later.once other)
    ∙ value_in-past key value other (without key (table_records table)) apart
    ∙ value_in-without key other (table_records table) apart
    ∙ sym (value_of-is table other filed)

pub removed-same : (table : Table) (key : List ℕ) → IsFiled table → value_of (table_removed table key) key ≡ None
removed-same table key filed =
    value_of-is (table_removed table key) key (removed-filed table key filed)
    ∙ ap (value_in key) (removed-records table key filed)
    ∙ value_in-none key (without key (table_records table)) (without-any key (table_records table))

pub removed-others : (table : Table) (key other : List ℕ) → IsFiled table → (key ≡ other → ⊥)
    → value_of (table_removed table key) other ≡ value_of table other
removed-others table key other filed apart =
    value_of-is (table_removed table key) other (removed-filed table key filed)
    ∙ ap (value_in other) (removed-records table key filed)
    ∙ value_in-without key other (table_records table) apart
    ∙ sym (value_of-is table other filed)

-- ---- the count of keys

key_count : (table : Table) (key : List ℕ) → IsFiled table → one_of (value_of table key) ≡ length (filter (has_key key) (table_records table))
key_count table key filed = ap one_of (value_of-is table key filed) ∙ one_of-value key (table_records table) (filed.once key)

-- a put of a new key is one more
pub put-count : (size new : ℕ) (table : Table) (key value : List ℕ) → IsFiled table
    → length (table_records (table_put size new table key value)) + one_of (value_of table key) ≡ length (table_records table) + 1
put-count size new table key value filed =
    omega (
      arith,
      length_permutation (table_records (table_put size new table key value)) ((key, value) ∷ without key (table_records table))
          (put-records size new table key value filed),
      key_count table key filed,
      without-length key (table_records table),
    )

-- a remove of a key that is there is one less
pub removed-count : (table : Table) (key : List ℕ) → IsFiled table
    → length (table_records (table_removed table key)) + one_of (value_of table key) ≡ length (table_records table)
removed-count table key filed =
    omega (arith, ap length (removed-records table key filed), key_count table key filed, without-length key (table_records table))

-- ---- it is a table as before

one_at_most : (n m : ℕ) → times n (m ∷ []) ≤ 1
one_at_most n m =
    elim (m == n) as (λ b. length (cond b (m ∷ []) []) ≤ 1) [
      | true ↦ omega arith
      | false ↦ omega arith
    ]

put-apart : (size new : ℕ) (table : Table) (key value : List ℕ) → IsTable size table → times new (chain_numbers (table_chain table)) ≡ 0
    → AreApart (chain_numbers (table_chain (table_put size new table key value)))
put-apart size new table key value is fresh n =
    let at = key_at table key is.filed in
    let chain = key_chain table key in
    let now = chain_put size new chain key value in
    let before = flat_map (λ (b : Bucket). b.chain) at.before in
    let after = flat_map (λ (b : Bucket). b.chain) at.after in
    let was = ap (λ (bs : List TableBlock). times n (chain_numbers bs)) (table_chain-parts table key at) in
    let is_now = ap (λ (bs : List TableBlock). times n (chain_numbers bs)) (changed-chain table key now at) in
    let once = is.apart n in
    elim (chain_put-numbers size new chain key value) [
      | inl same ↦
          omega (arith, was, is_now, once, times_around n before chain after, times_around n before now after, ap (times n) same)
      | inr grown ↦
          let more = ap (times n) grown ∙ filter-parts (λ m. m == n) (chain_numbers chain) (new ∷ []) in
          elim (cases_eq new n) [
            | inl this ↦
                let here = ap (λ (k : ℕ). times k (chain_numbers (table_chain table))) this in
                let last : times n (new ∷ []) ≤ 1 = one_at_most n new in
                omega (arith, was, is_now, fresh, here, last, times_around n before chain after, times_around n before now after, more)
            | inr apart ↦
                let last : times n (new ∷ []) ≡ 0 = ap (λ (b : Bool). length (cond b (new ∷ []) [])) (ne_eqb new n apart) in
                omega (arith, was, is_now, once, last, times_around n before chain after, times_around n before now after, more)
          ]
    ]

-- the blocks of a table around those of the key's chain
good_around : (size : ℕ) (table : Table) (key : List ℕ) (at : AtSlot (slot_of key) table.buckets) → All (IsGood size) (table_chain table)
    → All (IsGood size) (flat_map (λ b. b.chain) at.before) × All (IsGood size) (key_chain table key) × All (IsGood size) (flat_map (λ b. b.chain) at.after)
good_around size table key at good =
    let before = flat_map (λ (b : Bucket). b.chain) at.before in
    let after = flat_map (λ (b : Bucket). b.chain) at.after in
    let all = subst (λ (bs : List TableBlock). All (IsGood size) bs) (table_chain-parts table key at) good in
    let first = All-split (IsGood size) before (key_chain table key ++ after) all in
    let second = All-split (IsGood size) (key_chain table key) after first.1 in
    (first.0, second.0, second.1)

pub put-is : (size new : ℕ) (table : Table) (key value : List ℕ) → IsTable size table → record_size (key, value) ≤ size
    → times new (chain_numbers (table_chain table)) ≡ 0 → IsTable size (table_put size new table key value)
put-is size new table key value is fits fresh =
    let at = key_at table key is.filed in
    let chain = key_chain table key in
    let now = chain_put size new chain key value in
    let good = good_around size table key at is.blocks in
    record {
      filed = put-filed size new table key value is.filed;
      blocks =
          subst (λ (bs : List TableBlock). All (IsGood size) bs) (sym (changed-chain table key now at))
          (All-append (IsGood size) (flat_map (λ (b : Bucket). b.chain) at.before) (now ++ flat_map (λ (b : Bucket). b.chain) at.after) good.0
          (All-append (IsGood size) now (flat_map (λ (b : Bucket). b.chain) at.after)
          (chain_put-good size new chain key value (once_in table key is.filed) fits good.1) good.2));
      apart = put-apart size new table key value is fresh;
      move = changed-move table key now at is.move;
    }

pub removed-is : (size : ℕ) (table : Table) (key : List ℕ) → IsTable size table → IsTable size (table_removed table key)
removed-is size table key is =
    let at = key_at table key is.filed in
    let chain = key_chain table key in
    let now = chain_removed key chain in
    let before = flat_map (λ (b : Bucket). b.chain) at.before in
    let after = flat_map (λ (b : Bucket). b.chain) at.after in
    let good = good_around size table key at is.blocks in
    record {
      filed = removed-filed table key is.filed;
      blocks =
          subst (λ (bs : List TableBlock). All (IsGood size) bs) (sym (changed-chain table key now at))
          (All-append (IsGood size) before (now ++ after) good.0
          (All-append (IsGood size) now after (chain_removed-good size key chain good.1) good.2));
      apart =
          λ n.
          omega (
            arith,
            ap (λ (bs : List TableBlock). times n (chain_numbers bs)) (table_chain-parts table key at),
            ap (λ (bs : List TableBlock). times n (chain_numbers bs)) (changed-chain table key now at),
            is.apart n,
            times_around n before chain after,
            times_around n before now after,
            chain_removed-numbers key chain n,
          );
      move = changed-move table key now at is.move;
    }
