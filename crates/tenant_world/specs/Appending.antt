-- What an append does to a content, its home and the moves that are noted.
use Rattle.std.specs.Prelude.{◌≡◌, ℕ, ◌+◌, ◌<◌, ◌≤◌, List, [], length, filter, ◌++◌}
use Rattle.far_io.specs.Faults.{Faults, Rose}
use Rattle.far_asks.specs.declared.request.Reply.{Reply}
use Rattle.far_asks.specs.declared.request.Reply.TheVariants.{Number, WrongKind, Full, Exhausted, StoreFault, Damaged, NoMemory}
use Rattle.far_words.specs.declared.limits.TheConstants.{MOST_IN_FILE}
use Rattle.shelf_link.specs.Told.{Told}
use Rattle.far_history.specs.Worlds.{Body, FileBody, body_bytes}
use Rattle.far_history.specs.Layouts.{KeptAs, KeptFile, kept_blocks}
use Rattle.far_history.specs.Needs.{touched}
use Rattle.block_seats.specs.Seatings.{granted_of, used_of, open_of}
use Rattle.block_list.specs.Growth.{AddsBlocks}
use Rattle.block_file.specs.Files.{need_of, needed_last}
use Rattle.tenant_world.specs.Contents.{IsFileContent, IsQueueContent, file_of}
use Rattle.tenant_world.specs.Keeping.{Keeping, IsKept, IsDamage, readied, is_away}
use Rattle.tenant_world.specs.Moving.{MovesOwn}

-- it is a file, and has room for so many bytes more
pub record HasRoomFor {K : Type 0} (old : Keeping K) (more : List ℕ) : Type 0 where
  pub is_file : IsFileContent old.content
  pub room : (file_of old.content).length + length more ≤ MOST_IN_FILE

-- so many slices are needed, and fewer are left of so many that are held and so many that are used
pub record Lacks {K : Type 0} (old : Keeping K) (asked used granted : ℕ) : Type 0 where
  pub used_is : used ≡ used_of old.home.seats
  pub granted_is : granted ≡ granted_of old.home.seats
  pub split : granted ≡ used + open_of old.home.seats
  pub short : open_of old.home.seats < asked

-- bytes at the end of a file, and blocks at the end of its own
abbrev pub longer_body : List ℕ → Body → Body
longer_body more body = FileBody (body_bytes body ++ more)

abbrev pub longer_kept : List ℕ → KeptAs → KeptAs
longer_kept added kept = KeptFile (kept_blocks kept ++ added)

-- the bytes are at the end of the file. A parked last block that they go into came in first, and then the new blocks
pub record Grew {K : Type 0} (told : K → Told) (old : Keeping K) (path more : List ℕ) (number : ℕ)
    (new : Keeping K) : Type 0 where
  pub is_file : IsFileContent new.content
  pub number_is : number ≡ (file_of new.content).length
  pub long : (file_of new.content).length ≡ (file_of old.content).length + length more
  pub added : List ℕ
  pub blocks : (file_of new.content).blocks ≡ (file_of old.content).blocks ++ added
  pub adds : AddsBlocks (readied old.home.seats new.home.seats.numbers) added new.home.seats
  pub moves : MovesOwn told (longer_body more) (longer_kept added) old path []
      (needed_last old.home.seats (file_of old.content) (length more) ++ added)
      (filter (is_away old.home.seats.purse (file_of old.content).blocks)
      (touched old.home.seats.size (file_of old.content).length (length more))) new

-- bytes are put at the end of a file, or there is a cause why not. A queue is no file
abbrev pub IsAppended : {K : Type 0} → (K → Told) → (K → Faults)
    → Keeping K → (path more : List ℕ) → Reply → Keeping K → Type 0
IsAppended told faults old path more (Number number) new = HasRoomFor old more × Grew told old path more number new
IsAppended told faults old path more WrongKind new = IsQueueContent old.content × IsKept told old new
IsAppended told faults old path more (Full limit) new =
    (limit ≡ MOST_IN_FILE) × IsFileContent old.content
    × (MOST_IN_FILE < (file_of old.content).length + length more) × IsKept told old new
IsAppended told faults old path more (Exhausted asked used granted) new =
    HasRoomFor old more × (asked ≡ need_of old.home.seats (file_of old.content) (length more))
    × Lacks old asked used granted × IsKept told old new
IsAppended told faults old path more StoreFault new =
    HasRoomFor old more × Rose (faults old.home.shelf) (faults new.home.shelf) × IsKept told old new
IsAppended told faults old path more (Damaged kept found) new =
    HasRoomFor old more
    × IsDamage (told old.home.shelf) old.home.user old.home.seats (file_of old.content).blocks kept found
    × IsKept told old new
IsAppended told faults old path more NoMemory new = HasRoomFor old more × IsKept told old new
IsAppended told faults old path more reply new = ⊥
