-- What a put and a remove make of a table's blocks.
use Rattle.std.specs.Prelude.{ℕ, ◌==◌, ◌||◌, ◌&&◌, Bool, not, nat_lt, nat_le, if◌then◌else◌, List, [], ◌∷◌, ◌++◌, find, filter, map, Some, None}
use Rattle.std.specs.declared.option.Option.{Option}
use Rattle.std.specs.Option.{option_map, option_map_or}
use Rattle.std.specs.List.{list_any}
use Rattle.std.specs.Str.{bytes_eq}
use Rattle.table_block.specs.Records.{Record, record_size, records_size}
use Rattle.table_block.specs.Slots.{slot_of}
use Rattle.slot_split.specs.Packing.{fits_in}
use Rattle.slot_split.specs.Plans.{is_empty}
use Rattle.slot_split.specs.Tables.{TableBlock, Bucket, Table, records_in, chain_numbers}

abbrev pub has_key : List ℕ → Record → Bool
has_key key r = bytes_eq r.0 key

-- the block has the key's record
abbrev pub holds_key : List ℕ → TableBlock → Bool
holds_key key b = list_any (has_key key) b.records

-- the value of a key among these records, if it has one
abbrev pub value_in : List ℕ → List Record → Option (List ℕ)
value_in key records = option_map (λ r. r.1) (find (has_key key) records)

-- how many values these are
abbrev pub one_of : Option (List ℕ) → ℕ
one_of None = 0
one_of (Some value) = 1

-- ---- the records of one block

-- the key's record stays in its place, with this value
abbrev pub with_value : List ℕ → List ℕ → List Record → List Record
with_value key value records = map (λ r. if has_key key r then (key, value) else r) records

-- the records but the key's
abbrev pub without : List ℕ → List Record → List Record
without key records = filter (λ r. not (has_key key r)) records

-- ---- the blocks of one chain

abbrev pub with_records_of : TableBlock → List Record → TableBlock
with_records_of b records = record { block = b.block; records = records }

-- the block that has the key still fits its size with the new value
abbrev pub fits_in_place : ℕ → List ℕ → List ℕ → TableBlock → Bool
fits_in_place size key value b = holds_key key b && nat_le (records_size (with_value key value b.records)) size

abbrev pub is_put_in_place : ℕ → List TableBlock → List ℕ → List ℕ → Bool
is_put_in_place size chain key value = list_any (fits_in_place size key value) chain

abbrev pub chain_with_value : List ℕ → List ℕ → List TableBlock → List TableBlock
chain_with_value key value chain = map (λ b. with_records_of b (with_value key value b.records)) chain

abbrev pub chain_without : List ℕ → List TableBlock → List TableBlock
chain_without key chain = map (λ b. with_records_of b (without key b.records)) chain

-- a record goes to the end of the first block with room for it, else to a new block of this number
abbrev pub chain_with : ℕ → ℕ → List TableBlock → Record → List TableBlock
chain_with size new [] r = record { block = new; records = r ∷ [] } ∷ []
chain_with size new (b ∷ chain) r =
    if fits_in size (record_size r) b.records
    then with_records_of b (b.records ++ r ∷ []) ∷ chain
    else b ∷ chain_with size new chain r

-- the number of the block that it goes to
abbrev pub chain_into : ℕ → ℕ → List TableBlock → Record → ℕ
chain_into size new chain r = option_map_or (λ b. b.block) (find (λ b. fits_in size (record_size r) b.records) chain) new

-- A key that is there has its block rewritten, where the new record fits there once the old one is taken out. Else the
-- record goes to another block, as that of a new key does: the block that it leaves has no room for it.
abbrev pub chain_put : ℕ → ℕ → List TableBlock → List ℕ → List ℕ → List TableBlock
chain_put size new chain key value =
    if is_put_in_place size chain key value
    then chain_with_value key value chain
    else chain_with size new (chain_without key chain) (key, value)

-- the numbers of the blocks that a put writes, in the chain's order: a new block is the last
abbrev pub chain_written : ℕ → ℕ → List TableBlock → List ℕ → List ℕ → List ℕ
chain_written size new chain key value =
    if is_put_in_place size chain key value
    then chain_numbers (filter (holds_key key) chain)
    else (let left = chain_without key chain in
    let into = chain_into size new left (key, value) in
    chain_numbers (filter (λ b. b.block == into || list_any (λ old. old.block == b.block && holds_key key old) chain)
    (chain_with size new left (key, value))))

-- a block goes once no record is left in it
abbrev pub chain_removed : List ℕ → List TableBlock → List TableBlock
chain_removed key chain = filter (λ b. not (is_empty b.records)) (chain_without key chain)

-- the block that goes with the key's record, and the one that is rewritten without it: one of the two, where the key is
-- there
abbrev pub chain_goes : List ℕ → List TableBlock → List ℕ
chain_goes key chain = chain_numbers (filter (λ b. holds_key key b && is_empty (without key b.records)) chain)

abbrev pub chain_rewritten : List ℕ → List TableBlock → List ℕ
chain_rewritten key chain = chain_numbers (filter (λ b. holds_key key b && not (is_empty (without key b.records))) chain)

-- ---- the table: only the bucket of the key's slot changes

-- the chain of a slot: that of the first bucket which ends above it
abbrev pub chain_at : ℕ → List Bucket → List TableBlock
chain_at slot buckets = option_map_or (λ bucket. bucket.chain) (find (λ bucket. nat_lt slot bucket.hi) buckets) []

abbrev pub with_chain_at : ℕ → List TableBlock → List Bucket → List Bucket
with_chain_at slot chain [] = []
with_chain_at slot chain (bucket ∷ buckets) =
    if nat_lt slot bucket.hi
    then record { lo = bucket.lo; hi = bucket.hi; chain = chain } ∷ buckets
    else bucket ∷ with_chain_at slot chain buckets

abbrev pub key_chain : Table → List ℕ → List TableBlock
key_chain table key = chain_at (slot_of key) table.buckets

abbrev pub with_key_chain : Table → List ℕ → List TableBlock → Table
with_key_chain table key chain =
    record { buckets = with_chain_at (slot_of key) chain table.buckets; move = table.move }

-- the value of a key in a table, if it has one
abbrev pub value_of : Table → List ℕ → Option (List ℕ)
value_of table key = value_in key (records_in (key_chain table key))

-- the table after a put, whose new block has this number, where it takes one
abbrev pub table_put : ℕ → ℕ → Table → List ℕ → List ℕ → Table
table_put size new table key value =
    with_key_chain table key (chain_put size new (key_chain table key) key value)

-- and after a remove
abbrev pub table_removed : Table → List ℕ → Table
table_removed table key = with_key_chain table key (chain_removed key (key_chain table key))
