-- What contracts see of a queue, and the blocks of items that it stands for.
use Rattle.std.specs.Prelude.{◌≡◌, ℕ, ◌+◌, ◌-◌, ◌*◌, ◌<◌, ◌≤◌, nat_le, if◌then◌else◌, Bool, List, [], ◌∷◌, length, map, take, All, Some, None}
use Rattle.std.specs.declared.option.Option.{Option}
use Rattle.std.specs.Option.{option_map_or, option_and_then}
use Rattle.std.specs.List.{sum_by}
use Rattle.shelf_link.specs.Blocks as map
use Rattle.slice_seq.specs.Purses.{has_block}
use Rattle.block_seats.specs.Seatings.{SeatingView, length_at}
use Rattle.block_list.specs.Lists.{AreThere, parked_of}
use Rattle.queue_block.specs.Items.{head, Fits, items_bytes}
use Rattle.queue_block.specs.Queues.{QueueBlock}
use Rattle.block_queue.specs.declared.marks.Mark.{Mark}

-- a queue is what it keeps of each of its blocks, front to back
abbrev pub QueueView : Type 0
QueueView = List Mark

-- the numbers of its blocks
abbrev pub numbers_of : QueueView → List ℕ
numbers_of queue = map (λ mark. mark.block) queue

-- how many items weren't read
abbrev pub left_in : Mark → ℕ
left_in mark = mark.put - mark.read

abbrev pub count_of : QueueView → ℕ
count_of queue = sum_by left_in queue

-- what is kept of a block
abbrev pub mark_of : QueueBlock → Mark
mark_of b = record {
  block = b.block;
  put = length b.items;
  read = b.read;
  at = length (items_bytes (take b.read b.items));
}

-- by this map a block has the bytes of its items, and nothing after them
pub record HasItems (m : map.Blocks) (b : QueueBlock) : Type 0 where
  pub bytes : map.block_at m b.block ≡ Some (items_bytes b.items)
  pub fit : All Fits b.items

-- by this map a queue is these blocks
pub record IsQueue (m : map.Blocks) (queue : QueueView) (blocks : List QueueBlock) : Type 0 where
  pub marks : queue ≡ map mark_of blocks
  pub each : All (HasItems m) blocks

-- what stands of a block whatever a store holds: an item is left, its place isn't past the end, and each item that was
-- put has at least its count
pub record IsMarked (seats : SeatingView) (mark : Mark) : Type 0 where
  pub left : mark.read < mark.put
  pub within : mark.at ≤ length_at seats mark.block
  pub small : head * mark.put ≤ length_at seats mark.block

-- and of a queue: its blocks are there, each once
pub record IsSound (seats : SeatingView) (queue : QueueView) : Type 0 where
  pub there : AreThere seats (numbers_of queue)
  pub each : All (IsMarked seats) queue

abbrev pub last_mark : QueueView → Option Mark
last_mark [] = None
last_mark (mark ∷ []) = Some mark
last_mark (mark ∷ next ∷ marks) = last_mark (next ∷ marks)

-- whether so many bytes more fit in a block, behind all that were put in it
abbrev pub has_space : SeatingView → (bytes : ℕ) → Mark → Bool
has_space seats bytes mark = nat_le (length_at seats mark.block + bytes) seats.size

-- the last block, where so many bytes more fit in it. Else a push of them needs a new block
abbrev pub target_of : SeatingView → QueueView → (bytes : ℕ) → Option ℕ
target_of seats queue bytes =
    option_and_then (λ mark. if has_space seats bytes mark then Some mark.block else None) (last_mark queue)

-- that one, where it has to come into a slice
abbrev pub needed_of : SeatingView → QueueView → (bytes : ℕ) → List ℕ
needed_of seats queue bytes =
    option_map_or (λ block. parked_of seats.purse (block ∷ [])) (target_of seats queue bytes) []

-- and the new block, under this number
abbrev pub added_of : SeatingView → QueueView → (bytes number : ℕ) → List ℕ
added_of seats queue bytes number = option_map_or (λ block. []) (target_of seats queue bytes) (number ∷ [])

-- how many slices a push of so many bytes, its count with them, needs in its home
abbrev pub need_of : SeatingView → QueueView → (bytes : ℕ) → ℕ
need_of seats queue bytes =
    option_map_or (λ block. if has_block seats.purse block then 0 else 1) (target_of seats queue bytes) 1
