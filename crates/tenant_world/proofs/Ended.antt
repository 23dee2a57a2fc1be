-- Why a call on a home or a file did nothing, as a request's reply.
use Rattle.std.proofs.Common.{◌≡◌, ℕ, List, ap, ◌∙◌}
use Rattle.std.specs.declared.result.Result.TheVariants.{Err}
use Rattle.far_io.specs.Faults.{Faults}
use Rattle.shelf_link.specs.Told.{Told}
use Rattle.block_seats.specs.Seatings.{SeatingView}
use Rattle.block_home.specs.declared.end.HomeEnd.{HomeEnd}
use Rattle.block_home.specs.declared.end.HomeEnd.TheVariants.{Exhausted as Lacking, StoreFault as Failing, Damaged as Damaging, NoMemory as Starving}
use Rattle.block_home.specs.Homes.{HomeView}
use Rattle.block_home.specs.Stored.{IsStoreEnd, FaultRose}
use Rattle.block_file.specs.Files.{FileView}
use Rattle.block_list.specs.Ends.{IsPreparedEnd, NamesBlock, IsNeverDamaged}
use Rattle.tenant_world.specs.Contents.{blocks_of, file_of}
use Rattle.tenant_world.specs.Keeping.{Keeping, IsKept, readied, end_reply}
use Rattle.tenant_world.specs.Appending.{IsAppended, HasRoomFor}
use Rattle.tenant_world.specs.Reading.{IsReadOf}
use Rattle.tenant_world.specs.Parking.{IsLoadedContent, Returns}

-- a home whose notes were forgotten, and which was asked for room
pub prepared : {K : Type 0} (home now after : HomeView K) → now ≡ record home { seats = readied home.seats home.seats.numbers } → after ≡ record now { seats = record now.seats { numbers = after.seats.numbers } }
    → after ≡ record home { seats = readied home.seats after.seats.numbers }
prepared {K} home now after forgotten rest = rest ∙ ap (λ (h : HomeView K). record h { seats = record h.seats { numbers = after.seats.numbers } }) forgotten

-- a block that is named of a home whose notes were forgotten is one of the home
pub names_before : (T : Type 0) (old : SeatingView) (numbers : ℕ) (blocks : List ℕ) (end : HomeEnd) → NamesBlock {T = T} (readied old numbers) blocks (Err end) → NamesBlock {T = T} old blocks (Err end)
names_before T old numbers blocks (Lacking asked used granted) names = tt
names_before T old numbers blocks Failing names = tt
names_before T old numbers blocks (Damaging stamp found) names =
    (record { index = names.0.index; within = names.0.within; away = names.0.away; stamp_is = names.0.stamp_is }, names.1)
names_before T old numbers blocks Starving names = tt

module _ {K : Type 0} (told : K → Told) (faults : K → Faults) where
  -- what an end says that a call came to
  pub record Ends (T : Type 0) (old : HomeView K) (new : K) (blocks : List ℕ) (end : HomeEnd) : Type 0 where
    pub rose : FaultRose {T = T} (faults old.shelf) (faults new) (Err end)
    pub names : NamesBlock {T = T} old.seats blocks (Err end)
    pub never : IsNeverDamaged {T = T} (told old.shelf) old.user old.seats (Err end)

  pub appended_end : (T : Type 0) (old new : Keeping K) (path more : List ℕ) (end : HomeEnd) → IsPreparedEnd end → Ends T old.home new.home.shelf (file_of old.content).blocks end → HasRoomFor old more → IsKept told old new
      → IsAppended told faults old path more (end_reply end) new
  appended_end T old new path more (Lacking asked used granted) file ends fits kept = absurd file
  appended_end T old new path more Failing file ends fits kept = (fits, ends.rose, kept)
  appended_end T old new path more (Damaging stamp found) file ends fits kept = (fits, record { parked = ends.names.0; instead = ends.names.1; untold = ends.never }, kept)
  appended_end T old new path more Starving file ends fits kept = (fits, kept)

  pub loaded_end : (T : Type 0) (old new : Keeping K) (path : List ℕ) (end : HomeEnd) → IsStoreEnd end → Ends T old.home new.home.shelf (blocks_of old.content) end → ((n : ℕ) × Returns told old path n new)
      → IsLoadedContent told faults old path (end_reply end) new
  loaded_end T old new path (Lacking asked used granted) store ends back = absurd store
  loaded_end T old new path Failing store ends back = (ends.rose, back)
  loaded_end T old new path (Damaging stamp found) store ends back = (record { parked = ends.names.0; instead = ends.names.1; untold = ends.never }, back)
  loaded_end T old new path Starving store ends back = absurd store

  pub read_end : (T : Type 0) (old new : HomeView K) (file : FileView) (from len : ℕ) (end : HomeEnd) → IsPreparedEnd end → Ends T old new.shelf file.blocks end → IsReadOf told faults old file from len (end_reply end) new
  read_end T old new file from len (Lacking asked used granted) store ends = absurd store
  read_end T old new file from len Failing store ends = ends.rose
  read_end T old new file from len (Damaging stamp found) store ends = record { parked = ends.names.0; instead = ends.names.1; untold = ends.never }
  read_end T old new file from len Starving store ends = tt
