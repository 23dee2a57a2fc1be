-- Records as they are held: their bytes one after the other, and the place of each.
use Rattle.std.specs.Prelude.{◌≡◌, ℕ, ◌+◌, ◌<◌, ◌^◌, List, length, map, slice_range, All}
use Rattle.table_block.specs.declared.spots.Spot.{Spot}
use Rattle.table_block.specs.Records.{Record, head, Fits, spelled}
use Rattle.table_block.specs.Spots.{IsWithin}

abbrev pub record_at : List ℕ → Spot → Record
record_at bytes spot = (slice_range bytes (spot.at + head) spot.value, slice_range bytes spot.value spot.end)

abbrev pub records_at : List ℕ → List Spot → List Record
records_at bytes spots = map (record_at bytes) spots

pub record AreHeld (bytes : List ℕ) (spots : List Spot) : Type 0 where
  pub fit : All Fits (records_at bytes spots)
  pub bytes_are : bytes ≡ spelled (records_at bytes spots)
  pub within : All (IsWithin bytes) spots
  pub few : length bytes < 2 ^ 32
