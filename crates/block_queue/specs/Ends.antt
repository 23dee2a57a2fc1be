-- Why a call on a queue ends with nothing done, and what it says of a block then.
use Rattle.std.specs.Prelude.{◌≡◌, ℕ, List, [], ◌∷◌, IsTrue, None}
use Rattle.std.specs.declared.result.Result.{Result}
use Rattle.far_words.specs.declared.stamp.Stamp.{Stamp}
use Rattle.far_words.specs.declared.stamp.Found.TheVariants.{Unfit}
use Rattle.shelf_link.specs.Blocks as map
use Rattle.shelf_link.specs.Told.{Told, tells}
use Rattle.block_seats.specs.Purses.{place_of}
use Rattle.block_seats.specs.Seatings.{SeatingView}
use Rattle.block_home.specs.Holding.{Holds}
use Rattle.block_home.specs.Calls.{IsUndamaged}
use Rattle.block_home.specs.declared.end.HomeEnd.{HomeEnd}
use Rattle.block_home.specs.declared.end.HomeEnd.TheVariants.{Damaged, NoMemory}
use Rattle.queue_block.specs.Queues.{QueueBlock}
use Rattle.block_queue.specs.Queues.{QueueView, IsQueue}

-- over a store that tells its content no block of a queue is Damaged
abbrev pub IsNeverUnfit : {T : Type 0} → Told → ℕ → SeatingView → QueueView → Result T HomeEnd → Type 0
IsNeverUnfit told user seats queue result =
    IsTrue (tells told) → (m : map.Blocks) (blocks : List QueueBlock) → Holds m told user seats.blocks
    → IsQueue m queue blocks → IsUndamaged result

-- a Damaged of this stamp, whose content isn't a list of items, or want of memory
abbrev pub IsUnfitEnd : Stamp → HomeEnd → Type 0
IsUnfitEnd kept (Damaged stamp (Unfit place)) = stamp ≡ kept
IsUnfitEnd kept NoMemory = Unit {0}
IsUnfitEnd kept end = ⊥

-- there is an item, and the first stands in a block that is in no slice
abbrev pub ReadsParked : SeatingView → QueueView → Type 0
ReadsParked seats [] = ⊥
ReadsParked seats (mark ∷ marks) = place_of seats.purse mark.block ≡ None
