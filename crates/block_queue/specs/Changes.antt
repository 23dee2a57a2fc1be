-- What the calls on a queue do to it.
use Rattle.std.specs.Prelude.{ℕ, ◌+◌, nat_lt, if◌then◌else◌, List, [], ◌∷◌}
use Rattle.shelf_link.specs.Told.{Told}
use Rattle.shelf_link.specs.Blocks as map
use Rattle.block_seats.specs.Seatings.{SeatingView}
use Rattle.block_home.specs.Holding.{Holds}
use Rattle.block_list.specs.Lists.{KeepsOthers}
use Rattle.queue_block.specs.Queues.{QueueBlock}
use Rattle.block_queue.specs.Queues.{QueueView, IsQueue}

-- in place of this map one is held, by which the queue is these blocks, and which differs from it in none but blocks of
-- these numbers
pub record IsHeldAs (m : map.Blocks) (told : Told) (user : ℕ) (seats : SeatingView) (queue : QueueView)
    (blocks : List QueueBlock) (numbers : List ℕ)
    : Type 0 where
  pub now : map.Blocks
  pub held : Holds now told user seats.blocks
  pub is : IsQueue now queue blocks
  pub keeps : KeepsOthers m now numbers

-- the first block goes with its first unread item, where that is the last of its items
abbrev pub gone_of : QueueView → List ℕ
gone_of [] = []
gone_of (mark ∷ marks) = if nat_lt (mark.read + 1) mark.put then [] else mark.block ∷ []
