-- When a read of a file needs a parked block.
use Rattle.std.specs.Prelude.{◌≡◌, ℕ, ◌+◌, ◌/◌, ◌<◌, ◌≤◌, slice_index, None}
use Rattle.block_seats.specs.Purses.{place_of}
use Rattle.block_seats.specs.Seatings.{SeatingView}
use Rattle.block_file.specs.Files.{FileView}

-- of so many bytes from a byte on, one is in the file and stands in a block that is in no slice
pub record ReadsParked (seats : SeatingView) (file : FileView) (from len : ℕ) : Type 0 where
  pub at : ℕ
  pub above : from ≤ at
  pub below : at < from + len
  pub inside : at < file.length
  pub away : place_of seats.purse (slice_index file.blocks (at / seats.size)) ≡ None
