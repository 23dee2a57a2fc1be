-- What calls on a home do to every map that it holds, whatever its store tells.
use Rattle.std.specs.Prelude.{◌≡◌, ℕ, ◌+◌, ◌==◌, if◌then◌else◌, true, List, take, drop, length, is_some, IsTrue, IsErr, IfSome, Some, None}
use Rattle.std.specs.declared.option.Option.{Option}
use Rattle.std.specs.Option.{option_and_then}
use Rattle.std.specs.declared.result.Result.{Result}
use Rattle.std.specs.declared.result.Result.TheVariants.{Ok, Err}
use Rattle.std.specs.Ordering.{nat_cmp}
use Rattle.std.specs.FinMap.{find, put}
use Rattle.far_words.specs.declared.stamp.Stamp.{Stamp}
use Rattle.shelf_link.specs.Told.{Told, tells}
use Rattle.shelf_link.specs.Blocks as map
use Rattle.block_image.specs.Images.{stamp_for}
use Rattle.slice_seq.specs.Purses.{is_worn}
use Rattle.block_seats.specs.Blocks.{Blocks, InSlice, InStore, block_at, stamp_of, was_put}
use Rattle.block_seats.specs.Purses.{next_place, next_idle, with_block, without_block, place_of}
use Rattle.block_seats.specs.Noted.{noting_placed, noting_freed}
use Rattle.block_seats.specs.Seatings.{SeatingView, IsSeated, bytes_at, length_at, open_of, spare_of, IsAlike}
use Rattle.block_home.specs.Holding.{Holds}
use Rattle.block_home.specs.Stored.{NamesStamp}
use Rattle.block_home.specs.declared.end.HomeEnd.{HomeEnd}
use Rattle.block_home.specs.declared.end.HomeEnd.TheVariants.{Damaged}

-- the stamp of a parked block
abbrev pub stamp_at : Blocks → ℕ → Option Stamp
stamp_at blocks block = option_and_then stamp_of (find nat_cmp block blocks)

-- each map that is held stays so
abbrev pub Carries : ℕ → Told → Blocks → Told → Blocks → Type 0
Carries user before old now new = (m : map.Blocks) → Holds m before user old → Holds m now user new

-- each map that is held, with these bytes under a block, or with none
abbrev pub CarriesWith : ℕ → ℕ → List ℕ → Told → Blocks → Told → Blocks → Type 0
CarriesWith user block bytes before old now new = (m : map.Blocks) → Holds m before user old → Holds (map.with_block m block bytes) now user new

abbrev pub CarriesWithout : ℕ → ℕ → Told → Blocks → Told → Blocks → Type 0
CarriesWithout user block before old now new = (m : map.Blocks) → Holds m before user old → Holds (map.without_block m block) now user new

abbrev pub IsUndamaged : {T : Type 0} → Result T HomeEnd → Type 0
IsUndamaged (Err (Damaged kept found)) = ⊥
IsUndamaged result = Unit {0}

-- a call that reads a block: Damaged never comes over a store that tells, and over one that is void no parked block is read
pub record IsSound (user block : ℕ) (told : Told) (old : Blocks) (result : Result (Unit {0}) HomeEnd) : Type 0 where
  pub telling : IsTrue (tells told) → (m : map.Blocks) → Holds m told user old → IsUndamaged result
  pub void : IsTrue told.void → (stamp : Stamp) → stamp_at old block ≡ Some stamp → IsErr result
  pub names : (stamp : Stamp) → stamp_at old block ≡ Some stamp → NamesStamp stamp result
  pub seated : stamp_at old block ≡ None → result ≡ Ok tt

-- these bytes are a part of those that each map has under a block
abbrev pub IsPart : ℕ → ℕ → ℕ → List ℕ → Told → Blocks → Type 0
IsPart user block from part told blocks = (m : map.Blocks) → Holds m told user blocks
    → (bytes : List ℕ) × (map.block_at m block ≡ Some bytes) × (part ≡ take (length part) (drop from bytes))

-- the same blocks are there, each as long as it was
pub record KeepsLengths (old new : SeatingView) : Type 0 where
  pub there : (block : ℕ) → is_some (find nat_cmp block new.blocks) ≡ is_some (find nat_cmp block old.blocks)
  pub lengths : (block : ℕ) → length_at new block ≡ length_at old block

-- a parked block came into the next slice, with these bytes
pub record ComesIn (block : ℕ) (bytes : List ℕ) (old new : SeatingView) : Type 0 where
  pub blocks : new.blocks ≡ put nat_cmp block (InSlice bytes true) old.blocks
  pub purse : new.purse ≡ with_block old.purse block
  pub places : (other : ℕ) → place_of new.purse other ≡ (if other == block then next_place old.purse else place_of old.purse other)
  pub left : open_of new + 1 ≡ open_of old
  pub spare : spare_of new ≡ spare_of old
  pub moves : new.moves ≡ noting_placed old.moves (next_place old.purse) block
  pub alike : IsAlike old new

-- with as many as its stamp says, and a block that is in a slice stays there
pub record IsLoaded (block : ℕ) (old new : SeatingView) : Type 0 where
  pub came : place_of old.purse block ≡ None → (bytes : List ℕ) × (length bytes ≡ length_at old block) × ComesIn block bytes old new
  pub stays : IsSeated old block → new ≡ old

-- or it has these bytes where it is
pub record IsReplaced (block : ℕ) (bytes : List ℕ) (old new : SeatingView) : Type 0 where
  pub came : place_of old.purse block ≡ None → ComesIn block bytes old new
  pub stays : IsSeated old block
      → new ≡ record old { blocks = put nat_cmp block (InSlice bytes (was_put (block_at old.blocks block))) old.blocks }

-- a block left its slice, and is known by its stamp
pub record GoesOut (user block : ℕ) (old new : SeatingView) : Type 0 where
  pub blocks : new.blocks ≡ put nat_cmp block (InStore (stamp_for user block (bytes_at old block))) old.blocks
  pub purse : new.purse ≡ without_block old.purse block
  pub places : (other : ℕ) → place_of new.purse other ≡ (if other == block then None else place_of old.purse other)
  pub left : IfSome (place_of old.purse block) (λ place. open_of new ≡ open_of old + (if is_worn place.1 then 0 else 1))
  pub spare : spare_of new ≡ spare_of old
  pub moves : new.moves ≡ noting_freed old.moves (place_of old.purse block)
  pub alike : IsAlike old new
  -- where each slice had a block, that slice is the one without
  pub idle : next_idle old.purse ≡ None → next_idle new.purse ≡ place_of old.purse block

-- and a block that is parked stays so
pub record IsParked (user block : ℕ) (old new : SeatingView) : Type 0 where
  pub went : IsSeated old block → GoesOut user block old new
  pub stays : place_of old.purse block ≡ None → new ≡ old

-- a block stays in its slice, after a put that failed
abbrev pub IsKept : ℕ → SeatingView → SeatingView → Type 0
IsKept block old new = new ≡ record old { blocks = put nat_cmp block (InSlice (bytes_at old block) true) old.blocks }
