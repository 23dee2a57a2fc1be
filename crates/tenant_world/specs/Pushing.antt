-- What a push does to a content, its home and the moves that are noted.
use Rattle.std.specs.Prelude.{◌≡◌, ℕ, ◌+◌, ◌<◌, ◌≤◌, List, [], ◌∷◌, ◌++◌}
use Rattle.far_io.specs.Faults.{Faults, Rose}
use Rattle.far_asks.specs.declared.request.Reply.{Reply}
use Rattle.far_asks.specs.declared.request.Reply.TheVariants.{Done, WrongKind, Full, Exhausted, StoreFault, Damaged, NoMemory}
use Rattle.far_words.specs.declared.limits.TheConstants.{MOST_IN_QUEUE}
use Rattle.shelf_link.specs.Told.{Told}
use Rattle.queue_block.specs.Items.{item_size}
use Rattle.queue_block.specs.Queues.{pushed}
use Rattle.far_history.specs.Worlds.{Body, QueueBody, body_items}
use Rattle.far_history.specs.Layouts.{KeptAs, KeptQueue, queue_blocks}
use Rattle.block_seats.specs.Seatings.{SeatingView, IsNewNumber}
use Rattle.block_list.specs.Growth.{AddsBlocks}
use Rattle.block_queue.specs.Queues.{QueueView, numbers_of, count_of, needed_of, added_of, need_of}
use Rattle.tenant_world.specs.Contents.{IsFileContent, IsQueueContent, queue_of}
use Rattle.tenant_world.specs.Keeping.{Keeping, IsKept, IsDamage, readied}
use Rattle.tenant_world.specs.Moving.{MovesOwn}
use Rattle.tenant_world.specs.Appending.{Lacks}

-- it is a queue, and has room for one item more
pub record HasRoomForOne {K : Type 0} (old : Keeping K) : Type 0 where
  pub is_queue : IsQueueContent old.content
  pub room : count_of (queue_of old.content) < MOST_IN_QUEUE

-- an item behind all others of a queue
abbrev pub pushed_body : List ℕ → Body → Body
pushed_body item body = QueueBody (body_items body ++ item ∷ [])

-- and in its last block where it fits there, and else in a new one under this number
abbrev pub pushed_kept : (size number : ℕ) → List ℕ → KeptAs → KeptAs
pushed_kept size number item kept = KeptQueue (pushed size number (queue_blocks kept) item)

-- the block that comes into a slice for an item, if one does
abbrev pub coming_for : SeatingView → QueueView → (item : List ℕ) → (number : ℕ) → List ℕ
coming_for seats queue item number =
    needed_of seats queue (item_size item) ++ added_of seats queue (item_size item) number

-- the item is the queue's last
pub record Pushed {K : Type 0} (told : K → Told) (old : Keeping K) (path item : List ℕ) (new : Keeping K) : Type 0 where
  pub is_queue : IsQueueContent new.content
  pub one_more : count_of (queue_of new.content) ≡ count_of (queue_of old.content) + 1
  pub number : ℕ
  pub is_new : IsNewNumber old.home.seats number
  pub adds : AddsBlocks (readied old.home.seats new.home.seats.numbers)
      (added_of old.home.seats (queue_of old.content) (item_size item) number) new.home.seats
  pub moves : MovesOwn told (pushed_body item) (pushed_kept old.home.seats.size number item) old path []
      (coming_for old.home.seats (queue_of old.content) item number)
      (coming_for old.home.seats (queue_of old.content) item number) new

-- an item is put at the end of a queue, or there is a cause why not. A file is no queue
abbrev pub IsPushed : {K : Type 0} → (K → Told) → (K → Faults)
    → Keeping K → (path item : List ℕ) → Reply → Keeping K → Type 0
IsPushed told faults old path item Done new = HasRoomForOne old × Pushed told old path item new
IsPushed told faults old path item WrongKind new = IsFileContent old.content × IsKept told old new
IsPushed told faults old path item (Full limit) new =
    (limit ≡ MOST_IN_QUEUE) × IsQueueContent old.content × (MOST_IN_QUEUE ≤ count_of (queue_of old.content))
    × IsKept told old new
IsPushed told faults old path item (Exhausted asked used granted) new =
    HasRoomForOne old × (asked ≡ need_of old.home.seats (queue_of old.content) (item_size item))
    × Lacks old asked used granted × IsKept told old new
IsPushed told faults old path item StoreFault new =
    HasRoomForOne old × Rose (faults old.home.shelf) (faults new.home.shelf) × IsKept told old new
IsPushed told faults old path item (Damaged kept found) new =
    HasRoomForOne old
    × IsDamage (told old.home.shelf) old.home.user old.home.seats (numbers_of (queue_of old.content)) kept found
    × IsKept told old new
IsPushed told faults old path item NoMemory new = HasRoomForOne old × IsKept told old new
IsPushed told faults old path item reply new = ⊥
