-- What a table of slices by id and a table of blocks by number stand for.
use Rattle.std.specs.Prelude.{ℕ, Bool, true, false, List, [], map, count_by, not, Some, None}
use Rattle.std.specs.declared.option.Option.{Option}
use Rattle.slice_seq.specs.Slice.{SliceView}
use Rattle.slice_seq.specs.Used.{UsedView}
use Rattle.block_seats.specs.declared.seat.Seat.{Seat}
use Rattle.block_seats.specs.declared.seat.Seat.TheVariants.{Empty, Idle, Busy, Stray}
use Rattle.block_seats.specs.declared.cell.Cell.{Cell}
use Rattle.block_seats.specs.declared.cell.Cell.TheVariants.{Vacant, Resident, Parked}
use Rattle.far_words.specs.declared.stamp.Stamp.{Stamp}
use Rattle.block_seats.specs.Blocks.{BlockView, Blocks, InSlice, InStore}
use Rattle.block_seats.specs.Tables.{entries_of}
use Rattle.slice_seq.specs.Purses.{Held, Purse, is_worn}

abbrev pub held_in : Seat → Option Held
held_in Empty = None
held_in (Idle slice) = Some (record { number = slice.number; block = None })
held_in (Busy block number) = Some (record { number = number; block = Some block })
held_in (Stray slice) = None

-- the block of a seat with its slice's number, and the slice of a block with its number
abbrev pub block_of : Seat → Option (ℕ × ℕ)
block_of (Busy block number) = Some (block, number)
block_of _ = None

abbrev pub slice_of : Cell → Option (ℕ × ℕ)
slice_of Vacant = None
slice_of (Resident used put) = Some (used.id, used.number)
slice_of (Parked stamp) = None

abbrev pub view_in : Cell → Option BlockView
view_in Vacant = None
view_in (Resident used put) = Some (InSlice used.bytes put)
view_in (Parked stamp) = Some (InStore stamp)

-- whether a seat has a slice that can take a block, no slice, a block, a slice without a block, a slice out of order
abbrev pub is_open : Seat → Bool
is_open (Idle slice) = not (is_worn slice.number)
is_open _ = false

abbrev pub is_empty : Seat → Bool
is_empty Empty = true
is_empty _ = false

abbrev pub is_busy : Seat → Bool
is_busy (Busy block number) = true
is_busy _ = false

abbrev pub keeps_slice : Seat → Bool
keeps_slice (Idle slice) = true
keeps_slice (Stray slice) = true
keeps_slice _ = false

abbrev pub is_stray : Seat → Bool
is_stray (Stray slice) = true
is_stray _ = false

abbrev pub is_vacant : Cell → Bool
is_vacant Vacant = true
is_vacant _ = false

abbrev pub purse_of : List Seat → Purse
purse_of seats = entries_of (map held_in seats)

abbrev pub blocks_of : List Cell → Blocks
blocks_of cells = entries_of (map view_in cells)

abbrev pub strays_of : List Seat → ℕ
strays_of seats = count_by is_stray seats

-- whether a seat's place can be taken without losing a slice
abbrev pub is_bare : Seat → Bool
is_bare Empty = true
is_bare (Busy block number) = true
is_bare _ = false

-- the slice of a seat without a block
abbrev pub slice_in : Seat → SliceView
slice_in (Idle slice) = slice
slice_in (Stray slice) = slice
slice_in _ = record { id = 0; size = 0; number = 0 }

-- what stands in a cell whose block is in the store under this stamp, or is gone where there is none
abbrev pub left_cell : Option Stamp → Cell
left_cell None = Vacant
left_cell (Some stamp) = Parked stamp

-- the slice of a block, with the block's bytes, and whether it was ever put
abbrev pub put_in : Cell → Bool
put_in (Resident used put) = put
put_in _ = false

abbrev pub used_in : Cell → UsedView
used_in (Resident used put) = used
used_in _ = record { id = 0; size = 0; number = 0; bytes = [] }
