-- The definitions compute: a table of two records that splits and merges in small steps, a pack, and what moves.
use Rattle.std.proofs.Common.{◌≡◌, ℕ, List, [], ◌∷◌, replicate, refl, Some, None}
use Rattle.table_block.specs.Slots.{slot_of}
use Rattle.table_block.specs.Records.{Record}
use Rattle.slot_split.specs.declared.acts.Act.TheVariants.{Split, Pack, Merge}
use Rattle.slot_split.specs.Ripe.{act_of}
use Rattle.slot_split.specs.Packing.{packed}
use Rattle.slot_split.specs.Plans.{move_plan_of}
use Rattle.slot_split.specs.Tables.{TableBlock, Bucket, Table}
use Rattle.slot_split.specs.Turns.{turn, turned}

-- the key `a` has slot 300, and the empty key has slot 453
abbrev pub letter : ℕ → Record
letter count = (97 ∷ [], replicate count 118)

abbrev pub nothing : ℕ → Record
nothing count = ([], replicate count 118)

abbrev pub block : ℕ → Record → TableBlock
block number r = record { block = number; records = r ∷ [] }

abbrev pub bucket : ℕ → ℕ → List TableBlock → Bucket
bucket lo hi chain = record { lo = lo; hi = hi; chain = chain }

-- both values have 40 bytes, so a block of 64 bytes has one record
abbrev pub both : List TableBlock
both = block 0 (letter 40) ∷ block 1 (nothing 40) ∷ []

split_begins : turn 64 (record { buckets = bucket 0 1024 both ∷ []; move = None })
    ≡ Some (record { act = Split; lo = 0; mid = 1008; hi = 1024; old = []; new = [] })
unfolding slot_of
split_begins = refl

split_begun : turned 64 (record { buckets = bucket 0 1024 both ∷ []; move = None }) []
    ≡ record { buckets = bucket 0 1008 both ∷ bucket 1008 1024 [] ∷ []; move = Some (record { at = 0; target = 512; act = Split }) }
unfolding slot_of
split_begun = refl

-- the 32nd step ends the split, and the 33rd begins another
split_ends : turned 64 (record { buckets = bucket 0 528 both ∷ bucket 528 1024 [] ∷ []; move = Some (record { at = 0; target = 512; act = Split }) }) []
    ≡ record { buckets = bucket 0 512 both ∷ bucket 512 1024 [] ∷ []; move = None }
unfolding slot_of
split_ends = refl

next_begins : turn 64 (record { buckets = bucket 0 512 both ∷ bucket 512 1024 [] ∷ []; move = None })
    ≡ Some (record { act = Split; lo = 0; mid = 496; hi = 512; old = []; new = [] })
unfolding slot_of
next_begins = refl

-- the empty key moves in the 36th step
before_36 : Table
before_36 = record { buckets = bucket 0 464 both ∷ bucket 464 512 [] ∷ bucket 512 1024 [] ∷ []; move = Some (record { at = 0; target = 256; act = Split }) }

step_36 : turn 64 before_36 ≡ Some (record { act = Split; lo = 0; mid = 448; hi = 512; old = 1 ∷ []; new = (nothing 40 ∷ []) ∷ [] })
unfolding before_36 slot_of
step_36 = refl

after_36 : turned 64 before_36 (1 ∷ [])
    ≡ record {
      buckets = bucket 0 448 (block 0 (letter 40) ∷ []) ∷ bucket 448 512 (block 1 (nothing 40) ∷ []) ∷ bucket 512 1024 [] ∷ [];
      move = Some (record { at = 0; target = 256; act = Split });
    }
unfolding before_36 slot_of
after_36 = refl

-- and the letter in the 46th, behind it
before_46 : Table
before_46 = record {
  buckets = bucket 0 304 (block 0 (letter 40) ∷ []) ∷ bucket 304 512 (block 1 (nothing 40) ∷ []) ∷ bucket 512 1024 [] ∷ [];
  move = Some (record { at = 0; target = 256; act = Split });
}

step_46 : turn 64 before_46
    ≡ Some (record { act = Split; lo = 0; mid = 288; hi = 512; old = 0 ∷ 1 ∷ []; new = (nothing 40 ∷ []) ∷ (letter 40 ∷ []) ∷ [] })
unfolding before_46 slot_of
step_46 = refl

after_46 : turned 64 before_46 (0 ∷ 1 ∷ [])
    ≡ record {
      buckets = bucket 0 288 [] ∷ bucket 288 512 (block 0 (nothing 40) ∷ block 1 (letter 40) ∷ []) ∷ bucket 512 1024 [] ∷ [];
      move = Some (record { at = 0; target = 256; act = Split });
    }
unfolding before_46 slot_of
after_46 = refl

-- the 52nd moves one of two blocks over, and the 57th finds nothing to do
step_52 : turn 64 (record {
  buckets = bucket 0 256 [] ∷ bucket 256 464 (block 0 (nothing 40) ∷ block 1 (letter 40) ∷ []) ∷ bucket 464 512 [] ∷ bucket 512 1024 [] ∷ [];
  move = Some (record { at = 1; target = 384; act = Split });
}) ≡ Some (record { act = Split; lo = 256; mid = 448; hi = 512; old = 0 ∷ []; new = (nothing 40 ∷ []) ∷ [] })
unfolding slot_of
step_52 = refl

still_57 : turn 64 (record {
  buckets = bucket 0 256 [] ∷ bucket 256 384 (block 1 (letter 40) ∷ []) ∷ bucket 384 512 (block 0 (nothing 40) ∷ []) ∷ bucket 512 1024 [] ∷ [];
  move = None;
}) ≡ None
unfolding slot_of
still_57 = refl

-- with the letter removed and a shorter value of the empty key, buckets merge; one without a record doesn't with another
merge_begins : turn 64 (record {
  buckets = bucket 0 256 [] ∷ bucket 256 384 [] ∷ bucket 384 512 (block 0 (nothing 20) ∷ []) ∷ bucket 512 1024 [] ∷ [];
  move = None;
}) ≡ Some (record { act = Merge; lo = 256; mid = 368; hi = 512; old = []; new = [] })
unfolding slot_of
merge_begins = refl

merge_28 : turn 64 (record {
  buckets = bucket 0 464 (block 0 (nothing 20) ∷ []) ∷ bucket 464 1024 [] ∷ [];
  move = Some (record { at = 0; target = 0; act = Merge });
}) ≡ Some (record { act = Merge; lo = 0; mid = 448; hi = 1024; old = 0 ∷ []; new = (nothing 20 ∷ []) ∷ [] })
unfolding slot_of
merge_28 = refl

merge_ends : turned 64 (record {
  buckets = bucket 0 16 [] ∷ bucket 16 1024 (block 0 (nothing 20) ∷ []) ∷ [];
  move = Some (record { at = 0; target = 0; act = Merge });
}) [] ≡ record { buckets = bucket 0 1024 (block 0 (nothing 20) ∷ []) ∷ []; move = None }
unfolding slot_of
merge_ends = refl

-- two blocks with the bytes of one are packed at once
small : Table
small = record { buckets = bucket 0 1024 (block 0 (letter 10) ∷ block 1 (nothing 10) ∷ []) ∷ []; move = None }

pack : turn 64 small ≡ Some (record { act = Pack; lo = 0; mid = 1024; hi = 1024; old = 0 ∷ 1 ∷ []; new = (letter 10 ∷ nothing 10 ∷ []) ∷ [] })
unfolding small slot_of
pack = refl

packed_table : turned 64 small (0 ∷ [])
    ≡ record { buckets = bucket 0 1024 (record { block = 0; records = letter 10 ∷ nothing 10 ∷ [] } ∷ []) ∷ []; move = None }
unfolding small slot_of
packed_table = refl

-- a block is left with the records that stay, and a smaller record goes into an earlier block with room
moved : move_plan_of 64 448 464 ((letter 40 ∷ []) ∷ (nothing 20 ∷ letter 10 ∷ []) ∷ []) (letter 30 ∷ [])
    ≡ record {
      left = record { at = 1; kept = letter 10 ∷ [] } ∷ [];
      right = (letter 30 ∷ nothing 20 ∷ []) ∷ [];
    }
unfolding slot_of
moved = refl

first_fit : packed 64 (letter 40 ∷ nothing 30 ∷ letter 10 ∷ nothing 20 ∷ []) ≡ (letter 40 ∷ letter 10 ∷ []) ∷ (nothing 30 ∷ nothing 20 ∷ []) ∷ []
first_fit = refl

-- the three rules in their order, and each limit
ripe_rules : (act_of 64 0 2 2 65 (Some 0) ≡ Some Split)
    × (act_of 64 0 1 2 65 (Some 0) ≡ None)
    × (act_of 64 0 2 2 64 (Some 0) ≡ Some Pack)
    × (act_of 64 0 2 1 30 (Some 2) ≡ Some Merge)
    × (act_of 64 0 2 1 30 (Some 3) ≡ None)
    × (act_of 64 0 2 0 0 (Some 0) ≡ None)
    × (act_of 64 0 2 1 30 None ≡ None)
ripe_rules = (refl, refl, refl, refl, refl, refl, refl)
