-- What moves over a boundary from a bucket to the next one, and what is left.
use Rattle.std.specs.Prelude.{ℕ, ◌+◌, ◌<◌, ◌≤◌, ◌==◌, Bool, true, false, ◌&&◌, not, nat_lt, nat_le, if◌then◌else◌, List, [], ◌∷◌, ◌++◌, length, filter}
use Rattle.std.specs.List.{flat_map, list_any}
use Rattle.std.specs.List.Sorted.{IsPermutation}
use Rattle.table_block.specs.Slots.{slot_of}
use Rattle.table_block.specs.Records.{Record, records_size}
use Rattle.slot_split.specs.declared.plans.Rest.{Rest}
use Rattle.slot_split.specs.declared.plans.MovePlan.{MovePlan}
use Rattle.slot_split.specs.Packing.{packed}

-- a slot from `from` up to but not including `to`
abbrev pub is_between : ℕ → ℕ → ℕ → Bool
is_between from to slot = nat_le from slot && nat_lt slot to

-- a record moves whose key has such a slot
abbrev pub moves : ℕ → ℕ → Record → Bool
moves from to r = is_between from to (slot_of r.0)

abbrev pub stays : ℕ → ℕ → Record → Bool
stays from to r = not (moves from to r)

-- the records of a chain's blocks, and those of them that move
abbrev pub all_records : List (List Record) → List Record
all_records chain = flat_map (λ block. block) chain

abbrev pub moving : ℕ → ℕ → List (List Record) → List Record
moving from to chain = flat_map (filter (moves from to)) chain

-- the blocks that hold one of them: the place of each in the chain, counted from here, and the records left there
abbrev pub rests : ℕ → ℕ → ℕ → List (List Record) → List Rest
rests from to at [] = []
rests from to at (block ∷ chain) =
    if list_any (moves from to) block
    then record { at = at; kept = filter (stays from to) block } ∷ rests from to (at + 1) chain
    else rests from to (at + 1) chain

abbrev pub is_empty : List Record → Bool
is_empty [] = true
is_empty (r ∷ records) = false

-- Those left in the left chain, and the new blocks at the end of the right one: the records of its last block and then
-- those that move, packed first fit. Where none moves, no block is new.
abbrev pub move_plan_of : ℕ → ℕ → ℕ → List (List Record) → List Record → MovePlan
move_plan_of size from to left last =
    let more = moving from to left in
    record { left = rests from to 0 left; right = if is_empty more then [] else packed size (last ++ more) }

-- a chain with these rests in their places, where its first block has this place
abbrev pub with_rests : ℕ → List Rest → List (List Record) → List (List Record)
with_rests at [] chain = chain
with_rests at (rest ∷ rests) [] = []
with_rests at (rest ∷ rests) (block ∷ chain) =
    if at == rest.at
    then rest.kept ∷ with_rests (at + 1) rests chain
    else block ∷ with_rests (at + 1) (rest ∷ rests) chain

-- what the plan makes of the right one's last block
abbrev pub with_new : List Record → List (List Record) → List (List Record)
with_new last [] = last ∷ []
with_new last (block ∷ blocks) = block ∷ blocks

-- no record is lost or doubled by the plan
abbrev pub KeepsRecords : List (List Record) → List Record → MovePlan → Type 0
KeepsRecords left last plan =
    IsPermutation (all_records left ++ last)
    (all_records (with_rests 0 plan.left left) ++ all_records (with_new last plan.right))

-- a block that can be written: it has a record, and no more than a block's bytes
pub record IsNewBlock (size : ℕ) (block : List Record) : Type 0 where
  pub some : 0 < length block
  pub within : records_size block ≤ size
