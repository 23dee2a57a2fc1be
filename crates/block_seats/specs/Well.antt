-- What holds of the tables.
use Rattle.std.specs.Prelude.{◌≡◌, ℕ, ◌^◌, ◌<◌, ◌≤◌, List, length, map, slice_index_or, Some, None}
use Rattle.std.specs.declared.option.Option.{Option}
use Rattle.slice_seq.specs.Slice.{SliceView}
use Rattle.block_seats.specs.declared.seat.Seat.{Seat}
use Rattle.block_seats.specs.declared.seat.Seat.TheVariants.{Empty, Idle}
use Rattle.block_seats.specs.declared.cell.Cell.{Cell}
use Rattle.block_seats.specs.declared.cell.Cell.TheVariants.{Vacant, Resident, Parked}
use Rattle.block_seats.specs.Seats.{block_of, slice_of, is_open, is_empty, is_busy, keeps_slice, is_vacant, purse_of, blocks_of, strays_of}
use Rattle.block_seats.specs.Seatings.{SeatingView}
use Rattle.block_seats.specs.declared.seating.Seating.TheInside.{Inside}

-- where one table names a place of the other, that place names it back under the same number
pub record Mirrors (xs ys : List (Option (ℕ × ℕ))) : Type 0 where
  pub back : (i j number : ℕ) → slice_index_or xs i None ≡ Some (j, number) → slice_index_or ys j None ≡ Some (i, number)

-- an idle slice has its seat's id and the size of all
pub record AreSeated (size : ℕ) (seats : List Seat) : Type 0 where
  pub seated : (id : ℕ) (slice : SliceView) → slice_index_or seats id Empty ≡ Idle slice → (slice.id ≡ id) × (slice.size ≡ size)

-- a block's slice has the size, and each block has at least one byte and at most as many
abbrev pub CellFits : ℕ → Cell → Type 0
CellFits size Vacant = Unit {0}
CellFits size (Resident used put) = (used.size ≡ size) × (1 ≤ length used.bytes) × (length used.bytes ≤ size)
CellFits size (Parked stamp) = (1 ≤ stamp.length) × (stamp.length ≤ size)

pub record AreSized (size : ℕ) (cells : List Cell) : Type 0 where
  pub each : (block : ℕ) → CellFits size (slice_index_or cells block Vacant)

pub record AreTables (size slices : ℕ) (seats : List Seat) (cells : List Cell) : Type 0 where
  pub seats_for_all : length seats ≡ slices
  pub seated : AreSeated size seats
  pub sized : AreSized size cells
  pub blocks_lie : Mirrors (map block_of seats) (map slice_of cells)
  pub slices_lend : Mirrors (map slice_of cells) (map block_of seats)

-- what contracts see of the tables
abbrev pub view_of : Inside → SeatingView
view_of seating = record {
  size = seating.size;
  slices = seating.slices;
  blocks = blocks_of seating.cells.items;
  purse = purse_of seating.seats.items;
  strays = strays_of seating.seats.items;
  numbers = length seating.cells.items;
  moves = seating.moves;
}

pub record IsWell (seating : Inside) : Type 0 where
  pub some : 1 ≤ seating.size
  pub size : seating.size ≤ 65536
  pub slices : seating.slices < 2 ^ 32
  pub few : length seating.cells.items < 2 ^ 32
  pub tables : AreTables seating.size seating.slices seating.seats.items seating.cells.items
  pub open_are : seating.open_seats ≡ map is_open seating.seats.items
  pub empty_are : seating.empty_seats ≡ map is_empty seating.seats.items
  pub idle_are : seating.idle_seats ≡ map keeps_slice seating.seats.items
  pub busy_are : seating.busy_seats ≡ map is_busy seating.seats.items
  pub vacant_are : seating.vacant_cells ≡ map is_vacant seating.cells.items
  pub most : seating.moves.most ≡ seating.slices
