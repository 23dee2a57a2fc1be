-- Why a call on a queue did nothing, as a request's reply.
use Rattle.std.proofs.Common.{◌≢◌, ℕ, List, []}
use Rattle.std.specs.declared.result.Result.TheVariants.{Err}
use Rattle.far_io.specs.Faults.{Faults}
use Rattle.shelf_link.specs.Told.{Told}
use Rattle.block_home.specs.declared.end.HomeEnd.{HomeEnd}
use Rattle.block_home.specs.declared.end.HomeEnd.TheVariants.{Exhausted as Lacking, StoreFault as Failing, Damaged as Damaging, NoMemory as Starving}
use Rattle.block_home.specs.Homes.{HomeView}
use Rattle.block_home.specs.Stored.{FaultRose}
use Rattle.block_list.specs.Ends.{IsPreparedEnd, NamesBlock}
use Rattle.block_queue.specs.Queues.{QueueView, numbers_of}
use Rattle.block_queue.specs.Ends.{IsNeverUnfit}
use Rattle.tenant_world.specs.Contents.{IsQueueContent, queue_of}
use Rattle.tenant_world.specs.Keeping.{Keeping, IsKept, end_reply}
use Rattle.tenant_world.specs.Pushing.{IsPushed, HasRoomForOne}
use Rattle.tenant_world.specs.Popping.{IsFrontOf, IsPopped}
use Rattle.tenant_world.proofs.Ended.{Ends}

module _ {K : Type 0} (told : K → Told) (faults : K → Faults) where
  -- what an end says that a call on a queue came to
  pub record QueueEnds (T : Type 0) (old : HomeView K) (new : K) (queue : QueueView) (end : HomeEnd) : Type 0 where
    pub rose : FaultRose {T = T} (faults old.shelf) (faults new) (Err end)
    pub names : NamesBlock {T = T} old.seats (numbers_of queue) (Err end)
    pub never : IsNeverUnfit {T = T} (told old.shelf) old.user old.seats queue (Err end)

  pub front_end : (T : Type 0) (old new : HomeView K) (queue : QueueView) (end : HomeEnd) → IsPreparedEnd end → QueueEnds T old new.shelf queue end → IsFrontOf told faults old queue (end_reply end) new
  front_end T old new queue (Lacking asked used granted) store ends = absurd store
  front_end T old new queue Failing store ends = ends.rose
  front_end T old new queue (Damaging stamp found) store ends = record { parked = ends.names.0; instead = ends.names.1; untold = ends.never }
  front_end T old new queue Starving store ends = tt

  pub popped_end : (T : Type 0) (old new : Keeping K) (path : List ℕ) (end : HomeEnd) → IsPreparedEnd end → QueueEnds T old.home new.home.shelf (queue_of old.content) end → IsQueueContent old.content → queue_of old.content ≢ [] → IsKept told old new
      → IsPopped told faults old path (end_reply end) new
  popped_end T old new path (Lacking asked used granted) store ends is some kept = absurd store
  popped_end T old new path Failing store ends is some kept = (is, ends.rose, kept)
  popped_end T old new path (Damaging stamp found) store ends is some kept = (is, record { parked = ends.names.0; instead = ends.names.1; untold = ends.never }, kept)
  popped_end T old new path Starving store ends is some kept = (is, some, kept)

  pub pushed_end : (T : Type 0) (old new : Keeping K) (path item : List ℕ) (end : HomeEnd) → IsPreparedEnd end → Ends told faults T old.home new.home.shelf (numbers_of (queue_of old.content)) end → HasRoomForOne old → IsKept told old new
      → IsPushed told faults old path item (end_reply end) new
  pushed_end T old new path item (Lacking asked used granted) store ends fits kept = absurd store
  pushed_end T old new path item Failing store ends fits kept = (fits, ends.rose, kept)
  pushed_end T old new path item (Damaging stamp found) store ends fits kept = (fits, record { parked = ends.names.0; instead = ends.names.1; untold = ends.never }, kept)
  pushed_end T old new path item Starving store ends fits kept = (fits, kept)
