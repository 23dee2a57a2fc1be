-- Where a key's bucket stands among a table's, and what changes with its chain.
use Rattle.std.proofs.Common.{◌≡◌, ℕ, zero, suc, ◌<◌, ◌≤◌, Bool, true, false, cond, List, [], ◌∷◌, ◌++◌, Some, None, refl, sym, ap, subst, ◌∙◌, length-append, inl, inr, arith}
use Rattle.std.specs.Prelude.{All, find, nat_lt}
use Rattle.std.specs.declared.option.Option.{Option}
use Rattle.std.specs.Option.{option_map_or}
use Rattle.std.specs.List.{flat_map, list_any}
use Rattle.std.proofs.lemmas.Bool.{cases_lt, lt-ltb, le-ltb, or_from}
use Rattle.std.proofs.lemmas.List.Concat.{flat_map-append}
use Rattle.std.proofs.lemmas.List.Elements.{All-nil, All-cons, All-head, All-tail, All-append, All-weaker}
use Rattle.std.proofs.lemmas.List.Folds.{list_any-append, list_any_none}
use Rattle.table_block.specs.Records.{Record}
use Rattle.table_block.specs.Slots.{slots, slot_of}
use Rattle.slot_split.specs.Tables.{TableBlock, Bucket, Move, Table, records_in, bucket_records, table_chain, table_records}
use Rattle.slot_split.specs.Turns.{bucket_at}
use Rattle.slot_split.specs.Puts.{has_key, value_in, chain_at, with_chain_at, key_chain, with_key_chain, value_of}
use Rattle.slot_split.specs.Well.{Covers, LiesIn, HasOwn, IsOnce, AimsAt, IsMove, IsFiled}
use Rattle.slot_split.proofs.KeyLaws.{has_key-other, value_in-among}

abbrev pub in_bucket : ℕ → ℕ → List TableBlock → Bucket
in_bucket lo hi chain = record { lo = lo; hi = hi; chain = chain }

pub slot-below : (key : List ℕ) → slot_of key < slots
unfolding slot_of
slot-below key = omega arith

-- ---- the bucket of a slot

-- buckets stand in front of the slot's, and after it: its chain alone is read, and changed
pub record AtSlot (slot : ℕ) (buckets : List Bucket) : Type 0 where
  pub before : List Bucket
  pub after : List Bucket
  pub lo : ℕ
  pub hi : ℕ
  pub low : lo ≤ slot
  pub high : slot < hi
  pub parts : buckets ≡ before ++ in_bucket lo hi (chain_at slot buckets) ∷ after
  pub now : (chain : List TableBlock) → with_chain_at slot chain buckets ≡ before ++ in_bucket lo hi chain ∷ after
  pub below : All (λ b. b.hi ≤ slot) before
  pub above : All (λ b. slot < b.lo) after

covers-above : (from to : ℕ) (buckets : List Bucket) → Covers from to buckets → All (λ b. from ≤ b.lo) buckets
covers-above from to [] covers = All-nil (λ (b : Bucket). from ≤ b.lo)
covers-above from to (b ∷ buckets) covers =
    All-cons (λ (b : Bucket). from ≤ b.lo) b buckets (omega (arith, covers.0))
    (All-weaker (λ (x : Bucket). b.hi ≤ x.lo) (λ (x : Bucket). from ≤ x.lo) (λ x le. omega (arith, covers.0, covers.1)) buckets
    (covers-above b.hi to buckets covers.2))

pub at_slot : (slot from to : ℕ) (buckets : List Bucket) → Covers from to buckets → from ≤ slot → slot < to → AtSlot slot buckets
at_slot slot from to [] covers low high = absurd (omega arith)
at_slot slot from to (b ∷ buckets) covers low high =
    elim (cases_lt slot b.hi) [
      | inl lt ↦
          let test : nat_lt slot b.hi ≡ true = lt-ltb slot b.hi lt in
          let chain : chain_at slot (b ∷ buckets) ≡ b.chain =
          ap (λ (t : Bool). option_map_or (λ (b : Bucket). b.chain) (cond t (Some b) (find (λ bucket. nat_lt slot bucket.hi) buckets)) []) test in
          record {
            before = [];
            after = buckets;
            lo = b.lo;
            hi = b.hi;
            low = omega (arith, covers.0);
            high = lt;
            parts = (λ i. in_bucket b.lo b.hi (sym chain i) ∷ buckets);
            now = λ chain. ap (λ (t : Bool). cond t (in_bucket b.lo b.hi chain ∷ buckets) (b ∷ with_chain_at slot chain buckets)) test;
            below = All-nil (λ (b : Bucket). b.hi ≤ slot);
            above =
                All-weaker (λ (x : Bucket). b.hi ≤ x.lo) (λ (x : Bucket). slot < x.lo) (λ x le. omega arith) buckets
                (covers-above b.hi to buckets covers.2);
          }
      | inr ge ↦
          let test : nat_lt slot b.hi ≡ false = le-ltb slot b.hi ge in
          let later = at_slot slot b.hi to buckets covers.2 ge high in
          let chain : chain_at slot (b ∷ buckets) ≡ chain_at slot buckets =
          ap (λ (t : Bool). option_map_or (λ (b : Bucket). b.chain) (cond t (Some b) (find (λ bucket. nat_lt slot bucket.hi) buckets)) []) test in
          record {
            before = b ∷ later.before;
            after = later.after;
            lo = later.lo;
            hi = later.hi;
            low = later.low;
            high = later.high;
            parts = (λ i. b ∷ later.parts i) ∙ (λ i. b ∷ (later.before ++ in_bucket later.lo later.hi (sym chain i) ∷ later.after));
            now =
                λ chain.
                ap (λ (t : Bool). cond t (in_bucket b.lo b.hi chain ∷ buckets) (b ∷ with_chain_at slot chain buckets)) test
                ∙ (λ i. b ∷ later.now chain i);
            below = All-cons (λ (b : Bucket). b.hi ≤ slot) b later.before ge later.below;
            above = later.above;
          }
    ]

pub key_at : (table : Table) (key : List ℕ) → IsFiled table → AtSlot (slot_of key) table.buckets
key_at table key filed = at_slot (slot_of key) 0 slots table.buckets filed.covers (omega arith) (slot-below key)

-- ---- no other bucket has the key

not_in : (key : List ℕ) (lo hi : ℕ) (rs : List Record) → All (LiesIn lo hi) rs → (lo ≤ slot_of key → slot_of key < hi → ⊥)
    → list_any (has_key key) rs ≡ false
not_in key lo hi rs own apart =
    list_any_none (has_key key) rs
    (All-weaker (LiesIn lo hi) (λ (r : Record). has_key key r ≡ false)
    (λ r lies. has_key-other key r
    (λ same. apart (subst (λ (k : List ℕ). lo ≤ slot_of k) same lies.above) (subst (λ (k : List ℕ). slot_of k < hi) same lies.below)))
    rs own)

not_in_any : (key : List ℕ) (buckets : List Bucket) → All HasOwn buckets → All (λ b. b.lo ≤ slot_of key → slot_of key < b.hi → ⊥) buckets
    → list_any (has_key key) (flat_map bucket_records buckets) ≡ false
not_in_any key [] own apart = refl
not_in_any key (b ∷ buckets) own apart =
    list_any-append (has_key key) (bucket_records b) (flat_map bucket_records buckets)
    ∙ or_from (list_any (has_key key) (bucket_records b)) (list_any (has_key key) (flat_map bucket_records buckets))
    (not_in key b.lo b.hi (bucket_records b) (All-head HasOwn b buckets own) (All-head (λ (b : Bucket). b.lo ≤ slot_of key → slot_of key < b.hi → ⊥) b buckets apart))
    (not_in_any key buckets (All-tail HasOwn b buckets own) (All-tail (λ (b : Bucket). b.lo ≤ slot_of key → slot_of key < b.hi → ⊥) b buckets apart))

pub All-split : {X : Type 0} (P : X → Type 0) (xs ys : List X) → All P (xs ++ ys) → All P xs × All P ys
All-split P [] ys all = (All-nil P, all)
All-split P (x ∷ xs) ys all =
    let later = All-split P xs ys (All-tail P x (xs ++ ys) all) in
    (All-cons P x xs (All-head P x (xs ++ ys) all) later.0, later.1)

-- the records of a table around those of the key's chain
pub record IsAround (table : Table) (key : List ℕ) (at : AtSlot (slot_of key) table.buckets) : Type 0 where
  pub records : table_records table ≡ flat_map bucket_records at.before ++ (records_in (key_chain table key) ++ flat_map bucket_records at.after)
  pub no_before : list_any (has_key key) (flat_map bucket_records at.before) ≡ false
  pub no_after : list_any (has_key key) (flat_map bucket_records at.after) ≡ false
  pub own : All HasOwn at.before × All (LiesIn at.lo at.hi) (records_in (key_chain table key)) × All HasOwn at.after

pub key_around : (table : Table) (key : List ℕ) (filed : IsFiled table) → IsAround table key (key_at table key filed)
key_around table key filed =
    let at = key_at table key filed in
    let slot = slot_of key in
    let here = in_bucket at.lo at.hi (key_chain table key) in
    let own = All-split HasOwn at.before (here ∷ at.after) (subst (λ (bs : List Bucket). All HasOwn bs) at.parts filed.own) in
    record {
      records =
          ap (flat_map bucket_records) at.parts
          ∙ flat_map-append bucket_records at.before (in_bucket at.lo at.hi (key_chain table key) ∷ at.after);
      no_before =
          not_in_any key at.before own.0
          (All-weaker (λ (b : Bucket). b.hi ≤ slot) (λ (b : Bucket). b.lo ≤ slot → slot < b.hi → ⊥) (λ b past low high. omega arith) at.before at.below);
      no_after =
          not_in_any key at.after (All-tail HasOwn here at.after own.1)
          (All-weaker (λ (b : Bucket). slot < b.lo) (λ (b : Bucket). b.lo ≤ slot → slot < b.hi → ⊥) (λ b past low high. omega arith) at.after at.above);
      own = (own.0, All-head HasOwn here at.after own.1, All-tail HasOwn here at.after own.1);
    }

-- what a table gives for a key is what its records do, wherever they lie
pub value_of-is : (table : Table) (key : List ℕ) → IsFiled table → value_of table key ≡ value_in key (table_records table)
value_of-is table key filed =
    let at = key_at table key filed in
    let around = key_around table key filed in
    sym (value_in-among key (flat_map bucket_records at.before) (records_in (key_chain table key)) (flat_map bucket_records at.after)
    around.no_before around.no_after)
    ∙ ap (value_in key) (sym around.records)

-- ---- the table with another chain there

pub changed-records : (table : Table) (key : List ℕ) (chain : List TableBlock) (at : AtSlot (slot_of key) table.buckets)
    → table_records (with_key_chain table key chain)
    ≡ flat_map bucket_records at.before ++ (records_in chain ++ flat_map bucket_records at.after)
changed-records table key chain at =
    ap (flat_map bucket_records) (at.now chain) ∙ flat_map-append bucket_records at.before (in_bucket at.lo at.hi chain ∷ at.after)

pub table_chain-parts : (table : Table) (key : List ℕ) (at : AtSlot (slot_of key) table.buckets)
    → table_chain table ≡ flat_map (λ b. b.chain) at.before ++ (key_chain table key ++ flat_map (λ b. b.chain) at.after)
table_chain-parts table key at =
    ap (flat_map (λ (b : Bucket). b.chain)) at.parts
    ∙ flat_map-append (λ (b : Bucket). b.chain) at.before (in_bucket at.lo at.hi (key_chain table key) ∷ at.after)

pub changed-chain : (table : Table) (key : List ℕ) (chain : List TableBlock) (at : AtSlot (slot_of key) table.buckets)
    → table_chain (with_key_chain table key chain)
    ≡ flat_map (λ b. b.chain) at.before ++ (chain ++ flat_map (λ b. b.chain) at.after)
changed-chain table key chain at =
    ap (flat_map (λ (b : Bucket). b.chain)) (at.now chain)
    ∙ flat_map-append (λ (b : Bucket). b.chain) at.before (in_bucket at.lo at.hi chain ∷ at.after)

pub covers-same : (from to lo hi : ℕ) (before : List Bucket) (old new : List TableBlock) (after : List Bucket)
    → Covers from to (before ++ in_bucket lo hi old ∷ after) → Covers from to (before ++ in_bucket lo hi new ∷ after)
covers-same from to lo hi [] old new after covers = covers
covers-same from to lo hi (b ∷ before) old new after covers =
    (covers.0, covers.1, covers-same b.hi to lo hi before old new after covers.2)

bounds-same : (lo hi at : ℕ) (before : List Bucket) (old new : List TableBlock) (after : List Bucket)
    → ((bucket_at (before ++ in_bucket lo hi old ∷ after) at).lo ≡ (bucket_at (before ++ in_bucket lo hi new ∷ after) at).lo)
    × ((bucket_at (before ++ in_bucket lo hi old ∷ after) at).hi ≡ (bucket_at (before ++ in_bucket lo hi new ∷ after) at).hi)
bounds-same lo hi zero [] old new after = (refl, refl)
bounds-same lo hi (suc at) [] old new after = (refl, refl)
bounds-same lo hi zero (b ∷ before) old new after = (refl, refl)
bounds-same lo hi (suc at) (b ∷ before) old new after = bounds-same lo hi at before old new after

move-same : (lo hi : ℕ) (before : List Bucket) (old new : List TableBlock) (after : List Bucket) (move : Option Move)
    → IsMove (before ++ in_bucket lo hi old ∷ after) move → IsMove (before ++ in_bucket lo hi new ∷ after) move
move-same lo hi before old new after None is = tt
move-same lo hi before old new after (Some move) is =
    let same = bounds-same lo hi move.at before old new after in (
      omega (arith, is.0, length-append before (in_bucket lo hi old ∷ after), length-append before (in_bucket lo hi new ∷ after)),
      coe 0 1 (i. AimsAt move.act (same.0 i) (same.1 i) move.target) is.1,
    )

pub changed-move : (table : Table) (key : List ℕ) (chain : List TableBlock) → AtSlot (slot_of key) table.buckets → IsMove table.buckets table.move
    → IsMove (with_key_chain table key chain).buckets table.move
changed-move table key chain at is =
    subst (λ (bs : List Bucket). IsMove bs table.move) (sym (at.now chain))
    (move-same at.lo at.hi at.before (key_chain table key) chain at.after table.move (subst (λ (bs : List Bucket). IsMove bs table.move) at.parts is))

-- its records still lie where they belong, if those of the chain do
pub changed-filed : (table : Table) (key : List ℕ) (chain : List TableBlock) (filed : IsFiled table)
    → All (LiesIn (key_at table key filed).lo (key_at table key filed).hi) (records_in chain)
    → IsOnce (table_records (with_key_chain table key chain)) → IsFiled (with_key_chain table key chain)
changed-filed table key chain filed own once =
    let at = key_at table key filed in
    let around = key_around table key filed in
    record {
      covers =
          subst (λ (bs : List Bucket). Covers 0 slots bs) (sym (at.now chain))
          (covers-same 0 slots at.lo at.hi at.before (key_chain table key) chain at.after (subst (λ (bs : List Bucket). Covers 0 slots bs) at.parts filed.covers));
      own =
          subst (λ (bs : List Bucket). All HasOwn bs) (sym (at.now chain))
          (All-append HasOwn at.before (in_bucket at.lo at.hi chain ∷ at.after) around.own.0
          (All-cons HasOwn (in_bucket at.lo at.hi chain) at.after own around.own.2));
      once = once;
    }
