-- Where a record stands in a block, and what is read at such a place.
use Rattle.std.specs.Prelude.{◌≡◌, ℕ, ◌+◌, ◌<◌, ◌≤◌, if◌then◌else◌, List, [], ◌∷◌, ◌++◌, length, drop, Ok, Err, Some, None}
use Rattle.std.specs.declared.option.Option.{Option}
use Rattle.std.specs.declared.result.Result.{Result}
use Rattle.std.specs.Str.{bytes_eq}
use Rattle.far_words.specs.declared.stamp.Unfit.{Unfit}
use Rattle.table_block.specs.declared.spots.Spot.{Spot}
use Rattle.table_block.specs.Records.{Record, head, record_size, Fits, spelling, spelled, IsBlock, NoRecord}

-- the place of a record that begins here
abbrev pub spot_of : ℕ → Record → Spot
spot_of at r = record { at = at; value = at + head + length r.0; end = at + record_size r }

-- a record in this place is within the bytes
pub record IsWithin (bytes : List ℕ) (spot : Spot) : Type 0 where
  pub key : spot.at + head ≤ spot.value
  pub value : spot.value ≤ spot.end
  pub end : spot.end ≤ length bytes

-- the place of the first record with a key, among records that begin here
abbrev pub spot_in : ℕ → List Record → List ℕ → Option Spot
spot_in at [] key = None
spot_in at (r ∷ rs) key = if bytes_eq r.0 key then Some (spot_of at r) else spot_in (at + record_size r) rs key

-- the bytes are these records, and this one of them stands in this place
pub record IsAt (bytes : List ℕ) (spot : Spot) (before : List Record) (this : Record) (after : List Record) : Type 0 where
  pub block : IsBlock bytes (before ++ this ∷ after)
  pub spot_is : spot ≡ spot_of (length (spelled before)) this

-- a record of the block stands in this place
pub record IsSpot (bytes : List ℕ) (spot : Spot) : Type 0 where
  pub before : List Record
  pub this : Record
  pub after : List Record
  pub is : IsAt bytes spot before this after

-- the bytes are records one after the other, and this is where the first with the key stands
pub record Finds (bytes key : List ℕ) (found : Option Spot) : Type 0 where
  pub records : List Record
  pub block : IsBlock bytes records
  pub found_is : found ≡ spot_in 0 records key

-- a whole record begins here, and this is its place
pub record Begins (bytes : List ℕ) (at : ℕ) (spot : Spot) : Type 0 where
  pub this : Record
  pub rest : List ℕ
  pub fits : Fits this
  pub parts : drop at bytes ≡ spelling this ++ rest
  pub spot_is : spot ≡ spot_of at this

-- what is read at a place: nothing exactly at the end, else a whole record, or there is none
abbrev pub ReadsAt : List ℕ → ℕ → Result (Option Spot) Unfit → Type 0
ReadsAt bytes at (Ok None) = at ≡ length bytes
ReadsAt bytes at (Ok (Some spot)) = Begins bytes at spot
ReadsAt bytes at (Err unfit) = (at < length bytes) × (unfit.place ≡ at) × NoRecord (drop at bytes)
