-- The definitions of puts and removes compute: a table that is packed, one that was split, and a record that leaves its block.
use Rattle.std.proofs.Common.{◌≡◌, ℕ, List, [], ◌∷◌, replicate, refl, Some, None}
use Rattle.table_block.specs.Slots.{slot_of}
use Rattle.slot_split.specs.declared.acts.Act.TheVariants.{Pack}
use Rattle.slot_split.specs.Tables.{TableBlock, Table, new_table}
use Rattle.slot_split.specs.Turns.{turn, turned}
use Rattle.slot_split.specs.Puts.{chain_into, chain_put, chain_written, chain_goes, chain_rewritten, key_chain, value_of, table_put, table_removed}
use Rattle.slot_split.proofs.Examples.{letter, nothing, block, bucket, both}

-- values of so many bytes, and the key of `letter`
abbrev value : ℕ → List ℕ
value count = replicate count 118

abbrev key : List ℕ
key = 97 ∷ []

abbrev whole : List TableBlock → Table
whole chain = record { buckets = bucket 0 1024 chain ∷ []; move = None }

-- each key has its block, since a block of 64 bytes has one record of a value of 40
first_put : (value_of new_table key ≡ None) × (table_put 64 0 new_table key (value 40) ≡ whole (block 0 (letter 40) ∷ []))
unfolding slot_of
first_put = (refl, refl)

second_put : table_put 64 1 (whole (block 0 (letter 40) ∷ [])) [] (value 40) ≡ whole both
unfolding slot_of
second_put = refl

-- a further one would need a third block
no_room : chain_into 64 2 both (98 ∷ [], value 40) ≡ 2
no_room = refl

-- a smaller value takes its place in the block
smaller : (value_of (whole both) key ≡ Some (value 40))
    × (table_put 64 2 (whole both) key (value 1) ≡ whole (block 0 (letter 1) ∷ block 1 (nothing 40) ∷ []))
    × (chain_written 64 2 both key (value 1) ≡ 0 ∷ [])
unfolding slot_of
smaller = (refl, refl, refl)

-- the two are packed then, and nothing is left to do
abbrev pair : TableBlock
pair = record { block = 0; records = letter 1 ∷ nothing 40 ∷ [] }

packs : turn 64 (whole (block 0 (letter 1) ∷ block 1 (nothing 40) ∷ []))
    ≡ Some (record { act = Pack; lo = 0; mid = 1024; hi = 1024; old = 0 ∷ 1 ∷ []; new = (letter 1 ∷ nothing 40 ∷ []) ∷ [] })
packs = refl

is_packed : (turned 64 (whole (block 0 (letter 1) ∷ block 1 (nothing 40) ∷ [])) (0 ∷ []) ≡ whole (pair ∷ [])) × (turn 64 (whole (pair ∷ [])) ≡ None)
is_packed = (refl, refl)

-- a remove rewrites the block, or takes it along with its last record
first_removed : (value_of (whole (pair ∷ [])) [] ≡ Some (value 40))
    × (table_removed (whole (pair ∷ [])) [] ≡ whole (block 0 (letter 1) ∷ []))
    × (chain_rewritten [] (pair ∷ []) ≡ 0 ∷ [])
    × (chain_goes [] (pair ∷ []) ≡ [])
unfolding slot_of
first_removed = (refl, refl, refl, refl)

last_removed : (value_of (whole (block 0 (letter 1) ∷ [])) key ≡ Some (value 1))
    × (table_removed (whole (block 0 (letter 1) ∷ [])) key ≡ new_table)
    × (chain_rewritten key (block 0 (letter 1) ∷ []) ≡ [])
    × (chain_goes key (block 0 (letter 1) ∷ []) ≡ 0 ∷ [])
unfolding slot_of
last_removed = (refl, refl, refl, refl)

none_removed : (value_of new_table key ≡ None) × (table_removed new_table key ≡ new_table)
unfolding slot_of
none_removed = (refl, refl)

-- a table that was split: each key is in the bucket of its slot
abbrev split_table : List TableBlock → List TableBlock → Table
split_table left right = record { buckets = bucket 0 256 [] ∷ bucket 256 384 left ∷ bucket 384 512 right ∷ bucket 512 1024 [] ∷ []; move = None }

split_removed : (value_of (split_table (block 1 (letter 40) ∷ []) (block 0 (nothing 40) ∷ [])) key ≡ Some (value 40))
    × (chain_goes key (key_chain (split_table (block 1 (letter 40) ∷ []) (block 0 (nothing 40) ∷ [])) key) ≡ 1 ∷ [])
    × (table_removed (split_table (block 1 (letter 40) ∷ []) (block 0 (nothing 40) ∷ [])) key ≡ split_table [] (block 0 (nothing 40) ∷ []))
unfolding slot_of
split_removed = (refl, refl, refl)

split_put : (value_of (split_table [] (block 0 (nothing 40) ∷ [])) [] ≡ Some (value 40))
    × (table_put 64 1 (split_table [] (block 0 (nothing 40) ∷ [])) [] (value 20) ≡ split_table [] (block 0 (nothing 20) ∷ []))
unfolding slot_of
split_put = (refl, refl)

-- a record that has no room in its block any more goes to the first other one that has, or else to a new one
leaves : (chain_put 64 2 (record { block = 0; records = letter 10 ∷ nothing 30 ∷ [] } ∷ block 1 (98 ∷ [], value 5) ∷ []) key (value 40)
    ≡ block 0 (nothing 30) ∷ record { block = 1; records = (98 ∷ [], value 5) ∷ letter 40 ∷ [] } ∷ [])
    × (chain_written 64 2 (record { block = 0; records = letter 10 ∷ nothing 30 ∷ [] } ∷ block 1 (98 ∷ [], value 5) ∷ []) key (value 40) ≡ 0 ∷ 1 ∷ [])
leaves = (refl, refl)

leaves_for_new : (chain_put 64 2 (record { block = 0; records = letter 10 ∷ nothing 30 ∷ [] } ∷ []) key (value 40) ≡ block 0 (nothing 30) ∷ block 2 (letter 40) ∷ [])
    × (chain_written 64 2 (record { block = 0; records = letter 10 ∷ nothing 30 ∷ [] } ∷ []) key (value 40) ≡ 0 ∷ 2 ∷ [])
leaves_for_new = (refl, refl)
