-- A table's buckets, its move, and what is ripe.
use Rattle.std.specs.Prelude.{ℕ, ◌+◌, List, [], ◌∷◌, length, map, flat_map, Some, None}
use Rattle.std.specs.declared.option.Option.{Option}
use Rattle.table_block.specs.Records.{Record, records_size}
use Rattle.slot_split.specs.declared.acts.Act.{Act}
use Rattle.slot_split.specs.Ripe.{act_of}

-- a block of a table: its number, and its records
pub record TableBlock : Type 0 where
  pub block : ℕ
  pub records : List Record

-- neighbouring slots, from `lo` up to but not including `hi`, and the chain of blocks with the records whose keys have
-- them
pub record Bucket : Type 0 where
  pub lo : ℕ
  pub hi : ℕ
  pub chain : List TableBlock

-- a move under way: the place of the left one of its two buckets, where the boundary between them goes, and what it is
-- for
pub record Move : Type 0 where
  pub at : ℕ
  pub target : ℕ
  pub act : Act

-- buckets of all slots, in their order, and at most one move
pub record Table : Type 0 where
  pub buckets : List Bucket
  pub move : Option Move

-- at first one bucket of all slots
abbrev pub new_table : Table
new_table = record { buckets = record { lo = 0; hi = 1024; chain = [] } ∷ []; move = None }

abbrev pub chain_records : List TableBlock → List (List Record)
chain_records chain = map (λ b. b.records) chain

abbrev pub chain_numbers : List TableBlock → List ℕ
chain_numbers chain = map (λ b. b.block) chain

-- the records of a chain, block by block
abbrev pub records_in : List TableBlock → List Record
records_in chain = flat_map (λ b. b.records) chain

abbrev pub bucket_records : Bucket → List Record
bucket_records bucket = records_in bucket.chain

abbrev pub bucket_size : Bucket → ℕ
bucket_size bucket = records_size (bucket_records bucket)

-- all blocks, bucket by bucket in the order of slots, and in a bucket in the order of its chain
abbrev pub table_chain : Table → List TableBlock
table_chain table = flat_map (λ bucket. bucket.chain) table.buckets

abbrev pub table_records : Table → List Record
table_records table = flat_map bucket_records table.buckets

-- what a bucket is ripe for, in front of these buckets
abbrev pub size_of_first : List Bucket → Option ℕ
size_of_first [] = None
size_of_first (bucket ∷ buckets) = Some (bucket_size bucket)

abbrev pub ripe_act : ℕ → Bucket → List Bucket → Option Act
ripe_act size bucket after =
    act_of size bucket.lo bucket.hi (length bucket.chain) (bucket_size bucket) (size_of_first after)

-- the place of the first ripe bucket, counted from here, and what it is ripe for
abbrev pub or_later : ℕ → Option Act → Option (ℕ × Act) → Option (ℕ × Act)
or_later at (Some act) later = Some (at, act)
or_later at None later = later

abbrev pub first_ripe : ℕ → ℕ → List Bucket → Option (ℕ × Act)
first_ripe size at [] = None
first_ripe size at (bucket ∷ after) = or_later at (ripe_act size bucket after) (first_ripe size (at + 1) after)
