-- A table with two neighbouring buckets changed, or one of them gone, or one more: what stays of it.
use Rattle.std.proofs.Common.{◌≡◌, ℕ, zero, suc, ◌+◌, ◌<◌, ◌≤◌, List, [], ◌∷◌, ◌++◌, length, None, refl, sym, ap, subst, ◌∙◌, append_assoc, arith}
use Rattle.std.specs.Prelude.{All}
use Rattle.std.specs.declared.option.Option.{Option}
use Rattle.std.specs.List.{flat_map}
use Rattle.std.specs.List.Sorted.{IsPermutation}
use Rattle.std.proofs.lemmas.List.Concat.{flat_map-append}
use Rattle.std.proofs.lemmas.List.Elements.{All-nil, All-cons, All-head, All-tail, All-append}
use Rattle.std.proofs.lemmas.List.Sorted.{IsPermutation-refl, IsPermutation-trans, IsPermutation-append_left, IsPermutation-append_right}
use Rattle.table_block.specs.Records.{Record}
use Rattle.table_block.specs.Slots.{slots}
use Rattle.slot_split.specs.Tables.{TableBlock, Bucket, Move, Table, chain_numbers, bucket_records, table_chain, table_records}
use Rattle.slot_split.specs.Well.{Covers, LiesIn, HasOwn, IsOnce, AreApart, IsMove, IsTable}
use Rattle.slot_split.proofs.ChainLaws.{IsGood}
use Rattle.slot_split.proofs.TableLaws.{in_bucket, All-split}

abbrev pub table_of : List Bucket → Option Move → Table
table_of buckets move = record { buckets = buckets; move = move }

-- another table of the same records, as well formed
pub record Keeps (size : ℕ) (table now : Table) : Type 0 where
  pub is : IsTable size now
  pub records : IsPermutation (table_records table) (table_records now)

pub keeps-trans : (size : ℕ) (first second third : Table) → Keeps size first second → Keeps size second third → Keeps size first third
keeps-trans size first second third one two = record {
  is = two.is;
  records = IsPermutation-trans (table_records first) (table_records second) (table_records third) one.records two.records;
}

-- two neighbours stand in this place
pub record TwoAt (at : ℕ) (buckets : List Bucket) : Type 0 where
  pub before : List Bucket
  pub left : Bucket
  pub right : Bucket
  pub after : List Bucket
  pub place : length before ≡ at
  pub parts : buckets ≡ before ++ left ∷ right ∷ after

pub two_at : (at : ℕ) (buckets : List Bucket) → at + 1 < length buckets → TwoAt at buckets
two_at at [] within = absurd (omega arith)
two_at at (b ∷ []) within = absurd (omega arith)
two_at zero (b ∷ c ∷ buckets) within = record { before = []; left = b; right = c; after = buckets; place = refl; parts = refl }
two_at (suc at) (b ∷ c ∷ buckets) within =
    let later = two_at at (c ∷ buckets) (omega arith) in
    record {
      before = b ∷ later.before;
      left = later.left;
      right = later.right;
      after = later.after;
      place = ap suc later.place;
      parts = (λ i. b ∷ later.parts i);
    }

-- ---- what buckets give, around two of them

around_two : {X : Type 0} (f : Bucket → List X) (before : List Bucket) (left right : Bucket) (after : List Bucket)
    → flat_map f (before ++ left ∷ right ∷ after) ≡ flat_map f before ++ ((f left ++ f right) ++ flat_map f after)
around_two f before left right after =
    flat_map-append f before (left ∷ right ∷ after)
    ∙ ap (λ xs. flat_map f before ++ xs) (sym (append_assoc (f left) (f right) (flat_map f after)))

pub two-records : (before : List Bucket) (left right now_left now_right : Bucket) (after : List Bucket) (move now_move : Option Move)
    → IsPermutation (bucket_records left ++ bucket_records right) (bucket_records now_left ++ bucket_records now_right)
    → IsPermutation (table_records (table_of (before ++ left ∷ right ∷ after) move)) (table_records (table_of (before ++ now_left ∷ now_right ∷ after) now_move))
two-records before left right now_left now_right after move now_move moved =
    let first = flat_map bucket_records before in
    let last = flat_map bucket_records after in
    let was = bucket_records left ++ bucket_records right in
    let now = bucket_records now_left ++ bucket_records now_right in
    coe 1 0 (i. IsPermutation (around_two bucket_records before left right after i) (around_two bucket_records before now_left now_right after i))
    (IsPermutation-append_right first (was ++ last) (now ++ last) (IsPermutation-append_left last was now moved))

pub two-chain : (before : List Bucket) (left right : Bucket) (after : List Bucket) (move : Option Move)
    → table_chain (table_of (before ++ left ∷ right ∷ after) move)
    ≡ flat_map (λ b. b.chain) before ++ ((left.chain ++ right.chain) ++ flat_map (λ b. b.chain) after)
two-chain before left right after move = around_two (λ (b : Bucket). b.chain) before left right after

-- ---- neighbours

pub neighbours : (from to : ℕ) (before : List Bucket) (left right : Bucket) (after : List Bucket) → Covers from to (before ++ left ∷ right ∷ after)
    → (left.lo ≤ left.hi) × (right.lo ≡ left.hi) × (right.lo ≤ right.hi)
neighbours from to [] left right after covers = (covers.1, covers.2.0, covers.2.1)
neighbours from to (b ∷ before) left right after covers = neighbours b.hi to before left right after covers.2

-- the boundary between them goes elsewhere
pub covers-two : (from to mid : ℕ) (before : List Bucket) (left right : Bucket) (after : List Bucket) (now_left now_right : List TableBlock)
    → left.lo ≤ mid → mid ≤ left.hi → Covers from to (before ++ left ∷ right ∷ after)
    → Covers from to (before ++ in_bucket left.lo mid now_left ∷ in_bucket mid right.hi now_right ∷ after)
covers-two from to mid [] left right after now_left now_right low high covers =
    (covers.0, low, (refl, omega (arith, high, covers.2.0, covers.2.1), covers.2.2))
covers-two from to mid (b ∷ before) left right after now_left now_right low high covers =
    (covers.0, covers.1, covers-two b.hi to mid before left right after now_left now_right low high covers.2)

-- a bucket of no slot goes, or comes
pub covers-gone : (from to mid : ℕ) (before : List Bucket) (chain : List TableBlock) (after : List Bucket)
    → Covers from to (before ++ in_bucket mid mid chain ∷ after) → Covers from to (before ++ after)
covers-gone from to mid [] chain after covers = subst (λ n. Covers n to after) covers.0 covers.2
covers-gone from to mid (b ∷ before) chain after covers = (covers.0, covers.1, covers-gone b.hi to mid before chain after covers.2)

pub covers-new : (from to : ℕ) (before : List Bucket) (bucket : Bucket) (chain : List TableBlock) (after : List Bucket)
    → Covers from to (before ++ bucket ∷ after) → Covers from to (before ++ bucket ∷ in_bucket bucket.hi bucket.hi chain ∷ after)
covers-new from to [] bucket chain after covers = (covers.0, covers.1, (refl, omega arith, covers.2))
covers-new from to (b ∷ before) bucket chain after covers = (covers.0, covers.1, covers-new b.hi to before bucket chain after covers.2)

empty-own : (lo hi : ℕ) → HasOwn (in_bucket lo hi [])
empty-own lo hi = All-nil (LiesIn lo hi)

-- a bucket without a block and without a slot is gone
pub without_empty : (size mid : ℕ) (before : List Bucket) (after : List Bucket) (move : Option Move)
    → IsTable size (table_of (before ++ in_bucket mid mid [] ∷ after) move) → Keeps size (table_of (before ++ in_bucket mid mid [] ∷ after) move) (table_of (before ++ after) None)
without_empty size mid before after move table =
    let empty = in_bucket mid mid [] in
    let records : table_records (table_of (before ++ empty ∷ after) move) ≡ table_records (table_of (before ++ after) None) =
    flat_map-append bucket_records before (empty ∷ after) ∙ sym (flat_map-append bucket_records before after) in
    let chain : table_chain (table_of (before ++ empty ∷ after) move) ≡ table_chain (table_of (before ++ after) None) =
    flat_map-append (λ (b : Bucket). b.chain) before (empty ∷ after) ∙ sym (flat_map-append (λ (b : Bucket). b.chain) before after) in
    let own = All-split HasOwn before (empty ∷ after) table.filed.own in
    record {
      is = record {
        filed = record {
          covers = covers-gone 0 slots mid before [] after table.filed.covers;
          own = All-append HasOwn before after own.0 (All-tail HasOwn empty after own.1);
          once = subst IsOnce records table.filed.once;
        };
        blocks = subst (λ (bs : List TableBlock). All (IsGood size) bs) chain table.blocks;
        apart = subst (λ (bs : List TableBlock). AreApart (chain_numbers bs)) chain table.apart;
        move = tt;
      };
      records = subst (λ (rs : List Record). IsPermutation (table_records (table_of (before ++ empty ∷ after) move)) rs) records
          (IsPermutation-refl (table_records (table_of (before ++ empty ∷ after) move)));
    }

pub with_empty-chain : (before : List Bucket) (bucket : Bucket) (after : List Bucket) (move now_move : Option Move)
    → table_chain (table_of (before ++ bucket ∷ after) move) ≡ table_chain (table_of (before ++ bucket ∷ in_bucket bucket.hi bucket.hi [] ∷ after) now_move)
with_empty-chain before bucket after move now_move =
    flat_map-append (λ (b : Bucket). b.chain) before (bucket ∷ after)
    ∙ sym (flat_map-append (λ (b : Bucket). b.chain) before (bucket ∷ in_bucket bucket.hi bucket.hi [] ∷ after))

-- and such a one comes, behind a bucket at whose end it stands
pub with_empty : (size : ℕ) (before : List Bucket) (bucket : Bucket) (after : List Bucket) (move now_move : Option Move)
    → IsTable size (table_of (before ++ bucket ∷ after) move)
    → IsMove (before ++ bucket ∷ in_bucket bucket.hi bucket.hi [] ∷ after) now_move
    → Keeps size (table_of (before ++ bucket ∷ after) move) (table_of (before ++ bucket ∷ in_bucket bucket.hi bucket.hi [] ∷ after) now_move)
with_empty size before bucket after move now_move table moves =
    let empty = in_bucket bucket.hi bucket.hi [] in
    let records : table_records (table_of (before ++ bucket ∷ after) move) ≡ table_records (table_of (before ++ bucket ∷ empty ∷ after) now_move) =
    flat_map-append bucket_records before (bucket ∷ after) ∙ sym (flat_map-append bucket_records before (bucket ∷ empty ∷ after)) in
    let own = All-split HasOwn before (bucket ∷ after) table.filed.own in
    record {
      is = record {
        filed = record {
          covers = covers-new 0 slots before bucket [] after table.filed.covers;
          own =
              All-append HasOwn before (bucket ∷ empty ∷ after) own.0
              (All-cons HasOwn bucket (empty ∷ after) (All-head HasOwn bucket after own.1)
              (All-cons HasOwn empty after (empty-own bucket.hi bucket.hi) (All-tail HasOwn bucket after own.1)));
          once = subst IsOnce records table.filed.once;
        };
        blocks = subst (λ (bs : List TableBlock). All (IsGood size) bs) (with_empty-chain before bucket after move now_move) table.blocks;
        apart = subst (λ (bs : List TableBlock). AreApart (chain_numbers bs)) (with_empty-chain before bucket after move now_move) table.apart;
        move = moves;
      };
      records = subst (λ (rs : List Record). IsPermutation (table_records (table_of (before ++ bucket ∷ after) move)) rs) records
          (IsPermutation-refl (table_records (table_of (before ++ bucket ∷ after) move)));
    }
