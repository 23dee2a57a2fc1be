-- A table after a step of its move: the same records, and well formed as before.
use Rattle.std.proofs.Common.{◌≡◌, ℕ, ◌+◌, ◌-◌, ◌≤◌, List, ◌∷◌, ◌++◌, length, map, max, get_or, take, drop, sym, ap, subst, ◌∙◌, arith}
use Rattle.std.specs.Prelude.{◌==◌, All, slice_index}
use Rattle.std.specs.declared.option.Option.{Option}
use Rattle.std.specs.List.{flat_map}
use Rattle.std.specs.List.Sorted.{IsPermutation}
use Rattle.std.proofs.Math.Seq.{drop-append-add}
use Rattle.std.proofs.lemmas.List.{map-append, take_at, get_or_at, get_or-append-add}
use Rattle.std.proofs.lemmas.List.Elements.{All-head, All-tail, All-cons, All-append}
use Rattle.table_block.specs.Slots.{slots}
use Rattle.slot_split.specs.declared.acts.Act.{Act}
use Rattle.slot_split.specs.declared.acts.Act.TheVariants.{Split, Pack, Merge}
use Rattle.slot_split.specs.Tables.{TableBlock, Bucket, Move, Table, chain_numbers, bucket_records, table_chain, table_records}
use Rattle.slot_split.specs.Turns.{Turn, most_slots, no_bucket, bucket_at, old_last, left_chain, right_chain, step_turn, ended, stepped}
use Rattle.slot_split.specs.Well.{LiesIn, HasOwn, times, AreApart, AimsAt, IsMove, IsTable, AreNew}
use Rattle.slot_split.proofs.KeyLaws.{once-permutation}
use Rattle.slot_split.proofs.ChainLaws.{IsGood, times-append, times_around}
use Rattle.slot_split.proofs.TableLaws.{in_bucket, All-split}
use Rattle.slot_split.proofs.StepLaws.{chains_plan, left-good, left-lies, right-good, right-lies, step-records}
use Rattle.slot_split.proofs.NumberLaws.{gone, kept_of, left-numbers, right-numbers, still_apart}
use Rattle.slot_split.proofs.BucketLaws.{table_of, two-records, two-chain, neighbours, covers-two}

-- ---- a step, by its two buckets

abbrev pub mid_of : Bucket → Move → ℕ
mid_of left move = max (left.hi - most_slots) move.target

abbrev pub step_left : ℕ → Move → Bucket → Bucket → List ℕ → Bucket
step_left size move left right numbers =
    let mid = mid_of left move in
    let plan = chains_plan size mid left.hi left.chain right.chain in
    in_bucket left.lo mid (left_chain mid left.hi (take (length (kept_of plan.left)) numbers) left.chain)

abbrev pub step_right : ℕ → Move → Bucket → Bucket → List ℕ → Bucket
step_right size move left right numbers =
    let mid = mid_of left move in
    let plan = chains_plan size mid left.hi left.chain right.chain in
    in_bucket mid right.hi (right_chain plan (drop (length (kept_of plan.left)) numbers) right.chain)

abbrev pub step_of : ℕ → Move → List Bucket → Bucket → Bucket → List Bucket → List ℕ → Table
step_of size move before left right after numbers =
    ended (mid_of left move == move.target) move
    (before ++ step_left size move left right numbers ∷ step_right size move left right numbers ∷ after)

abbrev pub turn_of : ℕ → Move → Bucket → Bucket → Turn
turn_of size move left right =
    let mid = mid_of left move in
    let plan = chains_plan size mid left.hi left.chain right.chain in
    record {
      act = move.act;
      lo = left.lo;
      mid = mid;
      hi = right.hi;
      old = map (λ rest. slice_index (chain_numbers left.chain) rest.at) plan.left ++ chain_numbers (old_last plan right.chain);
      new = kept_of plan.left ++ plan.right;
    }

pub left-is : (before : List Bucket) (left right : Bucket) (after : List Bucket) (n : ℕ) → length before ≡ n
    → bucket_at (before ++ left ∷ right ∷ after) n ≡ left
left-is before left right after n place = get_or_at before left (right ∷ after) no_bucket n place

right-is : (before : List Bucket) (left right : Bucket) (after : List Bucket) (n : ℕ) → length before ≡ n
    → bucket_at (before ++ left ∷ right ∷ after) (n + 1) ≡ right
right-is before left right after n place =
    ap (λ (k : ℕ). get_or (before ++ left ∷ right ∷ after) (k + 1) no_bucket) (sym place) ∙ get_or-append-add before (left ∷ right ∷ after) 1 no_bucket

pub stepped-is : (size : ℕ) (move : Move) (before : List Bucket) (left right : Bucket) (after : List Bucket) (now : Option Move) (numbers : List ℕ)
    → length before ≡ move.at
    → stepped size (table_of (before ++ left ∷ right ∷ after) now) move numbers ≡ step_of size move before left right after numbers
stepped-is size move before left right after now numbers place =
    let buckets = before ++ left ∷ right ∷ after in
    let first : take move.at buckets ≡ before = take_at before (left ∷ right ∷ after) move.at place in
    let last : drop (move.at + 2) buckets ≡ after = ap (λ (k : ℕ). drop (k + 2) buckets) (sym place) ∙ drop-append-add before (left ∷ right ∷ after) 2 in
    let one = left-is before left right after move.at place in
    let two = right-is before left right after move.at place in
    (λ i. step_of size move (first i) (one i) (two i) (last i) numbers)

pub step_turn-is : (size : ℕ) (move : Move) (before : List Bucket) (left right : Bucket) (after : List Bucket) (now : Option Move)
    → length before ≡ move.at → step_turn size (table_of (before ++ left ∷ right ∷ after) now) move ≡ turn_of size move left right
step_turn-is size move before left right after now place =
    let one = left-is before left right after move.at place in
    let two = right-is before left right after move.at place in
    (λ i. turn_of size move (one i) (two i))

-- ---- the table with the boundary between the two moved down

pub aim-within : (act : Act) (lo hi target : ℕ) → lo ≤ hi → AimsAt act lo hi target → (lo ≤ target) × (target ≤ hi)
aim-within Split lo hi target order aim = aim
aim-within Merge lo hi target order aim = (omega arith, omega arith)
aim-within Pack lo hi target order aim = absurd aim

-- what a step is given: two neighbours of a table, a boundary that goes from the end of the left one down to `mid`, and numbers
-- for the new blocks
pub record IsStep (size mid : ℕ) (before : List Bucket) (left right : Bucket) (after : List Bucket) (move : Option Move) (ns ms : List ℕ) : Type 0 where
  pub table : IsTable size (table_of (before ++ left ∷ right ∷ after) move)
  pub low : left.lo ≤ mid
  pub high : mid ≤ left.hi
  pub kept : length (kept_of (chains_plan size mid left.hi left.chain right.chain).left) ≡ length ns
  pub added : length ms ≡ length (chains_plan size mid left.hi left.chain right.chain).right
  pub new : AreNew (ns ++ ms) (gone mid left.hi left.chain ++ chain_numbers (old_last (chains_plan size mid left.hi left.chain right.chain) right.chain))
      (chain_numbers (table_chain (table_of (before ++ left ∷ right ∷ after) move)))

abbrev pub now_left : ℕ → Bucket → List ℕ → Bucket
now_left mid left ns = in_bucket left.lo mid (left_chain mid left.hi ns left.chain)

abbrev pub now_right : ℕ → ℕ → Bucket → Bucket → List ℕ → Bucket
now_right size mid left right ms = in_bucket mid right.hi (right_chain (chains_plan size mid left.hi left.chain right.chain) ms right.chain)

pub moved-records : (size mid : ℕ) (before : List Bucket) (left right : Bucket) (after : List Bucket) (move now : Option Move) (ns ms : List ℕ)
    → IsStep size mid before left right after move ns ms
    → IsPermutation (table_records (table_of (before ++ left ∷ right ∷ after) move))
    (table_records (table_of (before ++ now_left mid left ns ∷ now_right size mid left right ms ∷ after) now))
moved-records size mid before left right after move now ns ms step =
    two-records before left right (now_left mid left ns) (now_right size mid left right ms) after move now
    (step-records size mid left.hi ns ms left.chain right.chain (omega (arith, step.added)))

moved-apart : (size mid : ℕ) (before : List Bucket) (left right : Bucket) (after : List Bucket) (move now : Option Move) (ns ms : List ℕ)
    → IsStep size mid before left right after move ns ms
    → AreApart (chain_numbers (table_chain (table_of (before ++ now_left mid left ns ∷ now_right size mid left right ms ∷ after) now)))
moved-apart size mid before left right after move now ns ms step =
    let plan = chains_plan size mid left.hi left.chain right.chain in
    let old_right = chain_numbers (old_last plan right.chain) in
    let old_left = gone mid left.hi left.chain in
    let first = flat_map (λ (b : Bucket). b.chain) before in
    let last = flat_map (λ (b : Bucket). b.chain) after in
    let l = now_left mid left ns in
    let r = now_right size mid left right ms in
    let was = chain_numbers (table_chain (table_of (before ++ left ∷ right ∷ after) move)) in
    let is = chain_numbers (table_chain (table_of (before ++ l ∷ r ∷ after) now)) in
    still_apart (ns ++ ms) (old_left ++ old_right) was is step.new step.table.apart
    (λ n.
    omega (
      arith,
      ap (λ (bs : List TableBlock). times n (chain_numbers bs)) (two-chain before left right after move),
      ap (λ (bs : List TableBlock). times n (chain_numbers bs)) (two-chain before l r after now),
      times_around n first (left.chain ++ right.chain) last,
      times_around n first (l.chain ++ r.chain) last,
      ap (times n) (map-append (λ (b : TableBlock). b.block) left.chain right.chain),
      times-append n (chain_numbers left.chain) (chain_numbers right.chain),
      ap (times n) (map-append (λ (b : TableBlock). b.block) l.chain r.chain),
      times-append n (chain_numbers l.chain) (chain_numbers r.chain),
      times-append n old_left old_right,
      times-append n ns ms,
      left-numbers n mid left.hi 0 ns left.chain step.kept,
      right-numbers n plan ms right.chain step.added,
    ))

pub moved-is : (size mid : ℕ) (before : List Bucket) (left right : Bucket) (after : List Bucket) (move now : Option Move) (ns ms : List ℕ)
    → IsStep size mid before left right after move ns ms
    → IsMove (before ++ now_left mid left ns ∷ now_right size mid left right ms ∷ after) now
    → IsTable size (table_of (before ++ now_left mid left ns ∷ now_right size mid left right ms ∷ after) now)
moved-is size mid before left right after move now ns ms step moves =
    let l = now_left mid left ns in
    let r = now_right size mid left right ms in
    let was = table_of (before ++ left ∷ right ∷ after) move in
    let is = table_of (before ++ l ∷ r ∷ after) now in
    let sides = neighbours 0 slots before left right after step.table.filed.covers in
    let own = All-split HasOwn before (left ∷ right ∷ after) step.table.filed.own in
    let own_right = All-tail HasOwn left (right ∷ after) own.1 in
    let first = flat_map (λ (b : Bucket). b.chain) before in
    let last = flat_map (λ (b : Bucket). b.chain) after in
    let good = All-split (IsGood size) first ((left.chain ++ right.chain) ++ last)
    (subst (λ (bs : List TableBlock). All (IsGood size) bs) (two-chain before left right after move) step.table.blocks) in
    let good_both = All-split (IsGood size) (left.chain ++ right.chain) last good.1 in
    let good_two = All-split (IsGood size) left.chain right.chain good_both.0 in
    record {
      filed = record {
        covers = covers-two 0 slots mid before left right after l.chain r.chain step.low step.high step.table.filed.covers;
        own =
            All-append HasOwn before (l ∷ r ∷ after) own.0
            (All-cons HasOwn l (r ∷ after) (left-lies left.lo mid left.hi ns left.chain (All-head HasOwn left (right ∷ after) own.1))
            (All-cons HasOwn r after
            (right-lies size mid left.hi right.hi ms left.chain right.chain step.high (omega (arith, sides.1, sides.2)) (omega (arith, step.added))
            (subst (λ lo. All (LiesIn lo right.hi) (bucket_records right)) sides.1 (All-head HasOwn right after own_right)))
            (All-tail HasOwn right after own_right)));
        once = once-permutation (table_records was) (table_records is) (moved-records size mid before left right after move now ns ms step) step.table.filed.once;
      };
      blocks =
          subst (λ (bs : List TableBlock). All (IsGood size) bs) (sym (two-chain before l r after now))
          (All-append (IsGood size) first ((l.chain ++ r.chain) ++ last) good.0
          (All-append (IsGood size) (l.chain ++ r.chain) last
          (All-append (IsGood size) l.chain r.chain (left-good size mid left.hi ns left.chain good_two.0)
          (right-good size mid left.hi ms left.chain right.chain good_two.0 good_two.1)) good_both.1));
      apart = moved-apart size mid before left right after move now ns ms step;
      move = moves;
    }
