-- A balance keeps a table well formed, with the same keys and values.
use Rattle.std.proofs.Common.{◌≡◌, ℕ, ◌<◌, ◌≤◌, List, [], ◌∷◌, ◌++◌, length, Some, None, refl, sym, ap, subst, ◌∙◌, append-nil, length-append, arith}
use Rattle.std.specs.Prelude.{All}
use Rattle.std.specs.List.{flat_map}
use Rattle.std.specs.List.Sorted.{IsPermutation}
use Rattle.std.proofs.lemmas.List.Concat.{flat_map-append}
use Rattle.std.proofs.lemmas.List.Elements.{All-nil, All-cons, All-head, All-tail, All-append}
use Rattle.std.proofs.lemmas.List.Sorted.{IsPermutation-refl, length_permutation}
use Rattle.table_block.specs.Records.{Record, records_size}
use Rattle.table_block.specs.Slots.{slots}
use Rattle.slot_split.specs.Plans.{all_records, IsNewBlock}
use Rattle.slot_split.specs.Tables.{TableBlock, Bucket, Move, Table, new_table, records_in, chain_numbers, bucket_records, table_chain, table_records}
use Rattle.slot_split.specs.Turns.{Turn, step_turn, stepped, numbered, pack_turn, turn, turned}
use Rattle.slot_split.specs.Puts.{value_of}
use Rattle.slot_split.specs.Well.{LiesIn, HasOwn, IsOnce, times, IsFiled, IsTable, AreNew}
use Rattle.slot_split.proofs.KeyLaws.{value_in-permutation}
use Rattle.slot_split.proofs.ChainLaws.{IsGood, records_in-is, times_around}
use Rattle.slot_split.proofs.TableLaws.{in_bucket, All-split, covers-same, value_of-is}
use Rattle.slot_split.proofs.StepLaws.{numbered-good, numbered-records}
use Rattle.slot_split.proofs.NumberLaws.{still_apart, numbered-numbers}
use Rattle.slot_split.proofs.BucketLaws.{table_of, Keeps, keeps-trans}
use Rattle.slot_split.proofs.StepTableLaws.{step_keeps}
use Rattle.slot_split.proofs.TurnCases.{packed_bucket, turned-cases}

-- ---- a new table

pub new-is : (size : ℕ) → IsTable size new_table
new-is size = record {
  filed = record {
    covers = (refl, omega arith, refl);
    own = All-cons HasOwn (in_bucket 0 slots []) [] (All-nil (LiesIn 0 slots)) (All-nil HasOwn);
    once = λ key. omega arith;
  };
  blocks = All-nil (IsGood size);
  apart = λ n. omega arith;
  move = tt;
}

-- ---- what is given for a balance

-- as many numbers as there are new blocks, and no number of a block that stays
pub record AreGiven (table : Table) (t : Turn) (numbers : List ℕ) : Type 0 where
  pub count : length numbers ≡ length t.new
  pub new : AreNew numbers t.old (chain_numbers (table_chain table))

-- a table with this move, where a move of it is begun
next_keeps : (size : ℕ) (table : Table) (buckets : List Bucket) (move : Move) (t : Turn) (numbers : List ℕ)
    → Keeps size table (table_of buckets (Some move)) → table_chain table ≡ table_chain (table_of buckets (Some move))
    → step_turn size (table_of buckets (Some move)) move ≡ t → AreGiven table t numbers
    → Keeps size table (stepped size (table_of buckets (Some move)) move numbers)
next_keeps size table buckets move t numbers kept chain is given =
    let now = table_of buckets (Some move) in
    keeps-trans size table now (stepped size now move numbers) kept
    (step_keeps size move buckets numbers kept.is (given.count ∙ ap (λ (t : Turn). length t.new) (sym is))
    (coe 0 1 (i. AreNew numbers (sym is i).old (chain_numbers (chain i))) given.new))

-- ---- a pack

some_records : (size : ℕ) (chain : List TableBlock) → 2 ≤ length chain → All (IsGood size) chain → 0 < length (records_in chain)
some_records size [] some good = absurd (omega arith)
some_records size (b ∷ chain) some good =
    let here : IsNewBlock size b.records = All-head (IsGood size) b chain good in
    omega (arith, here.some, length-append b.records (records_in chain))

packed_here : (size : ℕ) (before : List Bucket) (bucket : Bucket) (after : List Bucket) (numbers : List ℕ)
    → (2 ≤ length bucket.chain) × (records_size (bucket_records bucket) ≤ size) → IsTable size (table_of (before ++ bucket ∷ after) None)
    → AreGiven (table_of (before ++ bucket ∷ after) None) (pack_turn bucket) numbers
    → Keeps size (table_of (before ++ bucket ∷ after) None)
    (table_of (before ++ in_bucket bucket.lo bucket.hi (numbered numbers (bucket_records bucket ∷ [])) ∷ after) None)
packed_here size before bucket after numbers fits table given =
    let was = table_of (before ++ bucket ∷ after) None in
    let chain = numbered numbers (bucket_records bucket ∷ []) in
    let packed = in_bucket bucket.lo bucket.hi chain in
    let now = table_of (before ++ packed ∷ after) None in
    let same : records_in chain ≡ bucket_records bucket =
    sym (records_in-is chain) ∙ ap all_records (numbered-records numbers (bucket_records bucket ∷ []) (omega (arith, given.count))) ∙ append-nil (bucket_records bucket) in
    let records : table_records was ≡ table_records now =
    flat_map-append bucket_records before (bucket ∷ after)
    ∙ ap (λ (rs : List Record). flat_map bucket_records before ++ (rs ++ flat_map bucket_records after)) (sym same)
    ∙ sym (flat_map-append bucket_records before (packed ∷ after)) in
    let chain_was : table_chain was ≡ flat_map (λ b. b.chain) before ++ (bucket.chain ++ flat_map (λ b. b.chain) after) =
    flat_map-append (λ (b : Bucket). b.chain) before (bucket ∷ after) in
    let chain_now : table_chain now ≡ flat_map (λ b. b.chain) before ++ (chain ++ flat_map (λ b. b.chain) after) =
    flat_map-append (λ (b : Bucket). b.chain) before (packed ∷ after) in
    let own = All-split HasOwn before (bucket ∷ after) table.filed.own in
    let first = flat_map (λ (b : Bucket). b.chain) before in
    let last = flat_map (λ (b : Bucket). b.chain) after in
    let good = All-split (IsGood size) first (bucket.chain ++ last) (subst (λ (bs : List TableBlock). All (IsGood size) bs) chain_was table.blocks) in
    let good_here = All-split (IsGood size) bucket.chain last good.1 in
    let new : IsNewBlock size (bucket_records bucket) = record { some = some_records size bucket.chain fits.0 good_here.0; within = fits.1 } in
    record {
      is = record {
        filed = record {
          covers = covers-same 0 slots bucket.lo bucket.hi before bucket.chain chain after table.filed.covers;
          own =
              All-append HasOwn before (packed ∷ after) own.0
              (All-cons HasOwn packed after
              (subst (λ (rs : List Record). All (LiesIn bucket.lo bucket.hi) rs) (sym same) (All-head HasOwn bucket after own.1))
              (All-tail HasOwn bucket after own.1));
          once = subst IsOnce records table.filed.once;
        };
        blocks =
            subst (λ (bs : List TableBlock). All (IsGood size) bs) (sym chain_now)
            (All-append (IsGood size) first (chain ++ last) good.0
            (All-append (IsGood size) chain last
            (numbered-good size numbers (bucket_records bucket ∷ []) (All-cons (IsNewBlock size) (bucket_records bucket) [] new (All-nil (IsNewBlock size))))
            good_here.1));
        apart =
            still_apart numbers (chain_numbers bucket.chain) (chain_numbers (table_chain was)) (chain_numbers (table_chain now)) given.new table.apart
            (λ n.
            omega (
              arith,
              ap (λ (bs : List TableBlock). times n (chain_numbers bs)) chain_was,
              ap (λ (bs : List TableBlock). times n (chain_numbers bs)) chain_now,
              times_around n first bucket.chain last,
              times_around n first chain last,
              ap (times n) (numbered-numbers numbers (bucket_records bucket ∷ []) given.count),
            ));
        move = tt;
      };
      records = subst (λ (rs : List Record). IsPermutation (table_records was) rs) records (IsPermutation-refl (table_records was));
    }

-- ---- a balance

-- it keeps the table well formed, with the same records
pub turned-keeps : (size : ℕ) (table : Table) (t : Turn) (numbers : List ℕ) → IsTable size table → turn size table ≡ Some t → AreGiven table t numbers
    → Keeps size table (turned size table numbers)
turned-keeps size table t numbers is turns given =
    turned-cases (Keeps size table) size table t numbers is turns
    (λ buckets move kept chain of. next_keeps size table buckets move t numbers kept chain of given)
    (λ before bucket after parts fits of.
    subst (λ (was : Table). Keeps size was (table_of (before ++ packed_bucket numbers bucket ∷ after) None)) (sym parts)
    (packed_here size before bucket after numbers fits (subst (IsTable size) parts is)
    (coe 0 1 (i. AreGiven (parts i) (sym of i) numbers) given)))

-- so each key has the value that it had
pub keeps-value : (size : ℕ) (table now : Table) (key : List ℕ) → IsFiled table → Keeps size table now → value_of now key ≡ value_of table key
keeps-value size table now key filed kept =
    value_of-is now key kept.is.filed
    ∙ sym (value_in-permutation key (table_records table) (table_records now) kept.records (filed.once key))
    ∙ sym (value_of-is table key filed)

-- and there are as many
pub keeps-count : (size : ℕ) (table now : Table) → Keeps size table now → length (table_records now) ≡ length (table_records table)
keeps-count size table now kept = length_permutation (table_records table) (table_records now) kept.records
