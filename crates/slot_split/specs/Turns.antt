-- What a balance of a table does: the next step of its move, or what its first ripe bucket is ripe for.
use Rattle.std.specs.Prelude.{ℕ, ◌+◌, ◌-◌, ◌/◌, ◌==◌, max, Bool, true, false, not, if◌then◌else◌, List, [], ◌∷◌, ◌++◌, length, map, take, drop, filter, slice_index, slice_index_or, insert, zip, Some, None}
use Rattle.std.specs.declared.option.Option.{Option}
use Rattle.std.specs.List.{list_any, remove}
use Rattle.table_block.specs.Records.{Record}
use Rattle.slot_split.specs.declared.acts.Act.{Act}
use Rattle.slot_split.specs.declared.acts.Act.TheVariants.{Split, Pack, Merge}
use Rattle.slot_split.specs.declared.plans.MovePlan.{MovePlan}
use Rattle.slot_split.specs.Plans.{moves, stays, is_empty, all_records, move_plan_of}
use Rattle.slot_split.specs.Tables.{TableBlock, Bucket, Move, Table, chain_records, chain_numbers, bucket_records, first_ripe}

-- how many slots a boundary moves at most in one step
abbrev pub most_slots : ℕ
most_slots = 16

-- What a balance answers: the act, and the slots of the two buckets and the boundary between them, afterwards. The old
-- blocks are cut, and the new ones are added in this order.
pub record Turn : Type 0 where
  pub act : Act
  pub lo : ℕ
  pub mid : ℕ
  pub hi : ℕ
  pub old : List ℕ
  pub new : List (List Record)

-- ---- moves that begin

abbrev pub no_bucket : Bucket
no_bucket = record { lo = 0; hi = 0; chain = [] }

abbrev pub bucket_at : List Bucket → ℕ → Bucket
bucket_at buckets at = slice_index_or buckets at no_bucket

-- a split begins behind the bucket, with an empty one, and ends in the middle of its slots; a merge begins between the
-- two, and ends at the first slot of the left one
abbrev pub begun_with : Table → Option (ℕ × Act) → Table
begun_with table (Some (at, Split)) =
    let bucket = bucket_at table.buckets at in
    record {
      buckets = insert table.buckets (at + 1) (record { lo = bucket.hi; hi = bucket.hi; chain = [] });
      move = Some (record { at = at; target = (bucket.lo + bucket.hi) / 2; act = Split });
    }
begun_with table (Some (at, Merge)) =
    record {
      buckets = table.buckets;
      move = Some (record { at = at; target = (bucket_at table.buckets at).lo; act = Merge });
    }
begun_with table (Some (at, Pack)) = table
begun_with table None = table

-- where no move is under way, the first ripe bucket begins one
abbrev pub begun_from : ℕ → Table → Option Move → Table
begun_from size table (Some move) = table
begun_from size table None = begun_with table (first_ripe size 0 table.buckets)

abbrev pub begun : ℕ → Table → Table
begun size table = begun_from size table table.move

-- ---- one step of a move

abbrev pub left_of : Table → Move → Bucket
left_of table move = bucket_at table.buckets move.at

abbrev pub right_of : Table → Move → Bucket
right_of table move = bucket_at table.buckets (move.at + 1)

-- the boundary after the step
abbrev pub boundary : Table → Move → ℕ
boundary table move = max ((left_of table move).hi - most_slots) move.target

abbrev pub last_block : List TableBlock → List TableBlock
last_block chain = drop (length chain - 1) chain

abbrev pub step_plan : ℕ → Table → Move → MovePlan
step_plan size table move =
    let left = left_of table move in
    move_plan_of size (boundary table move) left.hi (chain_records left.chain)
    (all_records (chain_records (last_block (right_of table move).chain)))

-- where a record moves, the right chain's last block is old too
abbrev pub old_last : MovePlan → List TableBlock → List TableBlock
old_last plan chain = if 0 == length plan.left then [] else last_block chain

abbrev pub step_turn : ℕ → Table → Move → Turn
step_turn size table move =
    let left = left_of table move in
    let right = right_of table move in
    let plan = step_plan size table move in
    record {
      act = move.act;
      lo = left.lo;
      mid = boundary table move;
      hi = right.hi;
      old = map (λ rest. slice_index (chain_numbers left.chain) rest.at) plan.left
          ++ chain_numbers (old_last plan right.chain);
      new = filter (λ block. not (is_empty block)) (map (λ rest. rest.kept) plan.left) ++ plan.right;
    }

-- ---- the table afterwards, by the numbers of the new blocks

abbrev pub numbered : List ℕ → List (List Record) → List TableBlock
numbered numbers blocks = map (λ p. record { block = p.0; records = p.1 }) (zip numbers blocks)

-- each block of the left chain that holds a record which moves gives way to one with those that stay, or to none
abbrev pub left_chain : ℕ → ℕ → List ℕ → List TableBlock → List TableBlock
left_chain from to numbers [] = []
left_chain from to numbers (b ∷ chain) =
    if list_any (moves from to) b.records
    then (if is_empty (filter (stays from to) b.records)
    then left_chain from to numbers chain
    else record { block = slice_index numbers 0; records = filter (stays from to) b.records }
    ∷ left_chain from to (drop 1 numbers) chain)
    else b ∷ left_chain from to numbers chain

abbrev pub right_chain : MovePlan → List ℕ → List TableBlock → List TableBlock
right_chain plan numbers chain = take (length chain - length (old_last plan chain)) chain ++ numbered numbers plan.right

-- where the boundary is at its target the move ends, and a merge's left bucket is gone
abbrev pub ended : Bool → Move → List Bucket → Table
ended false move buckets = record { buckets = buckets; move = Some move }
ended true move buckets = record { buckets = ended_buckets move.act buckets; move = None }
  where
    ended_buckets : Act → List Bucket → List Bucket
    ended_buckets Merge buckets = remove buckets move.at
    ended_buckets Split buckets = buckets
    ended_buckets Pack buckets = buckets

abbrev pub stepped : ℕ → Table → Move → List ℕ → Table
stepped size table move numbers =
    let left = left_of table move in
    let right = right_of table move in
    let mid = boundary table move in
    let plan = step_plan size table move in
    let kept = filter (λ block. not (is_empty block)) (map (λ rest. rest.kept) plan.left) in
    ended (mid == move.target) move
    (take move.at table.buckets
    ++ record { lo = left.lo; hi = mid; chain = left_chain mid left.hi (take (length kept) numbers) left.chain }
    ∷ record { lo = mid; hi = right.hi; chain = right_chain plan (drop (length kept) numbers) right.chain }
    ∷ drop (move.at + 2) table.buckets)

-- ---- a pack, which is done at once

abbrev pub pack_turn : Bucket → Turn
pack_turn bucket = record {
  act = Pack;
  lo = bucket.lo;
  mid = bucket.hi;
  hi = bucket.hi;
  old = chain_numbers bucket.chain;
  new = bucket_records bucket ∷ [];
}

abbrev pub with_packed : Table → ℕ → List ℕ → Table
with_packed table at numbers =
    let bucket = bucket_at table.buckets at in
    record {
      buckets = take at table.buckets
          ++ record { lo = bucket.lo; hi = bucket.hi; chain = numbered numbers (bucket_records bucket ∷ []) }
          ∷ drop (at + 1) table.buckets;
      move = None;
    }

-- ---- a balance

-- none where no move is under way and nothing is ripe
abbrev pub turn_ripe : Table → Option (ℕ × Act) → Option Turn
turn_ripe table (Some (at, Pack)) = Some (pack_turn (bucket_at table.buckets at))
turn_ripe table (Some (at, Split)) = None
turn_ripe table (Some (at, Merge)) = None
turn_ripe table None = None

abbrev pub turn_from : ℕ → Table → Option Move → Option Turn
turn_from size table (Some move) = Some (step_turn size table move)
turn_from size table None = turn_ripe table (first_ripe size 0 table.buckets)

abbrev pub turn : ℕ → Table → Option Turn
turn size table = let now = begun size table in turn_from size now now.move

-- the table after it, by the numbers of the new blocks
abbrev pub turned_ripe : Table → Option (ℕ × Act) → List ℕ → Table
turned_ripe table (Some (at, Pack)) numbers = with_packed table at numbers
turned_ripe table (Some (at, Split)) numbers = table
turned_ripe table (Some (at, Merge)) numbers = table
turned_ripe table None numbers = table

abbrev pub turned_from : ℕ → Table → Option Move → List ℕ → Table
turned_from size table (Some move) numbers = stepped size table move numbers
turned_from size table None numbers = turned_ripe table (first_ripe size 0 table.buckets) numbers

abbrev pub turned : ℕ → Table → List ℕ → Table
turned size table numbers = let now = begun size table in turned_from size now now.move numbers
