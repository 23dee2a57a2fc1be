-- What a pop of a content does to it, its home and the moves that are noted, and what a look at its first item gives.
use Rattle.std.specs.Prelude.{◌≡◌, ◌≢◌, ℕ, ◌+◌, ◌≤◌, List, [], length, drop, slice_get, IsTrue, Some}
use Rattle.far_io.specs.Faults.{Faults, Rose}
use Rattle.far_words.specs.declared.stamp.Stamp.{Stamp}
use Rattle.far_words.specs.declared.stamp.Found.{Found}
use Rattle.far_asks.specs.declared.request.Reply.{Reply}
use Rattle.far_asks.specs.declared.request.Reply.TheVariants.{Number, Item, Nothing, WrongKind, StoreFault, Damaged, NoMemory}
use Rattle.shelf_link.specs.Told.{Told, tells}
use Rattle.shelf_link.specs.Blocks as map
use Rattle.queue_block.specs.Queues.{QueueBlock, unread, popped}
use Rattle.far_history.specs.Worlds.{Body, QueueBody, body_items}
use Rattle.far_history.specs.Layouts.{KeptAs, KeptQueue, queue_blocks}
use Rattle.block_image.specs.Images.{IsFoundInstead}
use Rattle.block_home.specs.Holding.{Holds}
use Rattle.block_home.specs.Homes.{HomeView}
use Rattle.block_list.specs.Ends.{IsParkedAs}
use Rattle.block_queue.specs.Queues.{QueueView, IsQueue, numbers_of, count_of}
use Rattle.block_queue.specs.Changes.{gone_of}
use Rattle.block_queue.specs.Ends.{ReadsParked}
use Rattle.tenant_world.specs.declared.names.Content.{Content}
use Rattle.tenant_world.specs.declared.names.Content.TheVariants.{File, Queue}
use Rattle.tenant_world.specs.Contents.{IsFileContent, IsQueueContent, queue_of}
use Rattle.tenant_world.specs.Keeping.{Keeping, IsKept}
use Rattle.tenant_world.specs.Moving.{MovesOwn}

-- the first item, which by each map that is held is the queue's own. Over a void store it stood in no parked block
pub record IsFirstItem {K : Type 0} (told : Told) (home : HomeView K) (queue : QueueView) (item : List ℕ) : Type 0 where
  pub short : length item ≤ home.seats.size
  pub some : queue ≢ []
  pub first : (m : map.Blocks) (blocks : List QueueBlock) → Holds m told home.user home.seats.blocks
      → IsQueue m queue blocks → Some item ≡ slice_get (unread blocks) 0
  pub resident : IsTrue told.void → ReadsParked home.seats queue → ⊥

-- the store gave something else in place of a block of the queue, or bytes that aren't items. It doesn't come over a store
-- that tells its content
pub record IsQueueDamage {K : Type 0} (told : Told) (home : HomeView K) (queue : QueueView) (kept : Stamp)
    (found : Found) : Type 0 where
  pub parked : IsParkedAs home.seats (numbers_of queue) kept
  pub instead : IsFoundInstead kept found
  pub untold : IsTrue (tells told) → (m : map.Blocks) (blocks : List QueueBlock)
      → Holds m told home.user home.seats.blocks → IsQueue m queue blocks → ⊥

-- the first item of a queue, or there is a cause why there is none
abbrev pub IsFrontOf : {K : Type 0} → (K → Told) → (K → Faults) → HomeView K → QueueView → Reply → HomeView K → Type 0
IsFrontOf told faults old queue (Item item) new = IsFirstItem (told old.shelf) old queue item
IsFrontOf told faults old queue Nothing new = queue ≡ []
IsFrontOf told faults old queue StoreFault new = Rose (faults old.shelf) (faults new.shelf)
IsFrontOf told faults old queue (Damaged kept found) new = IsQueueDamage (told old.shelf) old queue kept found
IsFrontOf told faults old queue NoMemory new = Unit {0}
IsFrontOf told faults old queue reply new = ⊥

-- and so of a content. A file is no queue
abbrev pub IsFrontIn : {K : Type 0} → (K → Told) → (K → Faults) → HomeView K → Content → Reply → HomeView K → Type 0
IsFrontIn told faults old (File file) reply new = reply ≡ WrongKind
IsFrontIn told faults old (Queue queue) reply new = IsFrontOf told faults old queue reply new

abbrev pub count_reply : Content → Reply
count_reply (File file) = WrongKind
count_reply (Queue queue) = Number (count_of queue)

-- the first item of a queue is gone, and so is a block without unread items
abbrev pub popped_body : Body → Body
popped_body body = QueueBody (drop 1 (body_items body))

abbrev pub popped_kept : KeptAs → KeptAs
popped_kept kept = KeptQueue (popped (queue_blocks kept))

-- the item was the queue's first
pub record Popped {K : Type 0} (told : K → Told) (old : Keeping K) (path item : List ℕ) (new : Keeping K) : Type 0 where
  pub was_queue : IsQueueContent old.content
  pub is_queue : IsQueueContent new.content
  pub one_less : count_of (queue_of new.content) + 1 ≡ count_of (queue_of old.content)
  pub first : IsFirstItem (told old.home.shelf) old.home (queue_of old.content) item
  pub moves : MovesOwn told popped_body popped_kept old path (gone_of (queue_of old.content)) [] [] new

-- the first item of a queue is taken out, or there is a cause why not. A file is no queue
abbrev pub IsPopped : {K : Type 0} → (K → Told) → (K → Faults) → Keeping K → List ℕ → Reply → Keeping K → Type 0
IsPopped told faults old path (Item item) new = Popped told old path item new
IsPopped told faults old path Nothing new =
    IsQueueContent old.content × (queue_of old.content ≡ []) × IsKept told old new
IsPopped told faults old path WrongKind new = IsFileContent old.content × IsKept told old new
IsPopped told faults old path StoreFault new =
    IsQueueContent old.content × Rose (faults old.home.shelf) (faults new.home.shelf) × IsKept told old new
IsPopped told faults old path (Damaged kept found) new =
    IsQueueContent old.content × IsQueueDamage (told old.home.shelf) old.home (queue_of old.content) kept found
    × IsKept told old new
IsPopped told faults old path NoMemory new =
    IsQueueContent old.content × (queue_of old.content ≢ []) × IsKept told old new
IsPopped told faults old path reply new = ⊥
