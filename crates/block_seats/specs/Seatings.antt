-- What contracts see of blocks and slices that stand to each other.
use Rattle.std.specs.Prelude.{◌≡◌, ℕ, ◌+◌, ◌-◌, ◌<◌, ◌&&◌, nat_lt, not, Bool, List, [], length, is_some, IsTrue, IsSome, Some, None}
use Rattle.std.specs.declared.option.Option.{Option}
use Rattle.std.specs.Option.{option_map_or}
use Rattle.std.specs.Ordering.{nat_cmp}
use Rattle.std.specs.FinMap.{find, put}
use Rattle.far_words.specs.declared.stamp.Stamp.{Stamp}
use Rattle.slice_seq.specs.Slice.{SliceView}
use Rattle.slice_seq.specs.Purses.{Purse, used, open_slices}
use Rattle.block_seats.specs.Blocks.{Blocks, InStore, block_at, bytes_of, length_of}
use Rattle.block_seats.specs.Tables.{without}
use Rattle.block_seats.specs.Purses.{next_idle, place_of}
use Rattle.block_seats.specs.Noted.{NotedView, no_moves}

pub record SeatingView : Type 0 where
  -- how many bytes a block has at most, and how many slices there is room for
  pub size : ℕ
  pub slices : ℕ
  pub blocks : Blocks
  pub purse : Purse
  -- how many slices are kept that were granted out of order. They are never used
  pub strays : ℕ
  -- the numbers below it are those for which there is room
  pub numbers : ℕ
  pub moves : NotedView

-- whether a number names a block, and whether that is in a slice
abbrev pub HasBlock : SeatingView → ℕ → Type 0
HasBlock seating block = IsTrue (is_some (find nat_cmp block seating.blocks))

abbrev pub IsSeated : SeatingView → ℕ → Type 0
IsSeated seating block = IsSome (place_of seating.purse block)

-- the bytes of a block in a slice, and how many bytes a block has, wherever it is
abbrev pub bytes_at : SeatingView → ℕ → List ℕ
bytes_at seating block = bytes_of (block_at seating.blocks block)

abbrev pub length_at : SeatingView → ℕ → ℕ
length_at seating block = length_of (block_at seating.blocks block)

-- how many slices are held, how many of them are used, and how many can take a block
abbrev pub granted_of : SeatingView → ℕ
granted_of seating = length seating.purse + seating.strays

abbrev pub used_of : SeatingView → ℕ
used_of seating = used seating.purse + seating.strays

abbrev pub open_of : SeatingView → ℕ
open_of seating = length (open_slices seating.purse)

-- for how many new blocks there are numbers
abbrev pub spare_of : SeatingView → ℕ
spare_of seating = seating.numbers - length seating.blocks

-- the number of a new block: the lowest that names no block
pub record IsNewNumber (seating : SeatingView) (block : ℕ) : Type 0 where
  pub fresh : find nat_cmp block seating.blocks ≡ None
  pub least : (lower : ℕ) → lower < block → IsTrue (is_some (find nat_cmp lower seating.blocks))

-- a block is in the store under this stamp from then on, or is gone where there is none
abbrev pub leaving : Option Stamp → ℕ → Blocks → Blocks
leaving stamp block blocks = option_map_or (λ s. put nat_cmp block (InStore s) blocks) stamp (without block blocks)

-- whether a slice of this id comes in order: there is room for the id, and it isn't held
abbrev pub can_hold : SeatingView → ℕ → Bool
can_hold seating slice = nat_lt slice seating.slices && not (is_some (find nat_cmp slice seating.purse))

-- a slice is held without a block
abbrev pub with_slice : SeatingView → ℕ → ℕ → SeatingView
with_slice seating slice number =
    record seating { purse = put nat_cmp slice (record { number = number; block = None }) seating.purse }

-- one more slice is kept aside
abbrev pub with_stray : SeatingView → SeatingView
with_stray seating = record seating { strays = seating.strays + 1 }

-- the slice of lowest id without a block was taken out
pub record TakesIdle (slice : SliceView) (old new : SeatingView) : Type 0 where
  pub lowest : next_idle old.purse ≡ Some (slice.id, slice.number)
  pub size : slice.size ≡ old.size
  pub rest : new ≡ record old { purse = without slice.id old.purse }

-- two views that differ at most in their blocks, their purse and their moves
abbrev pub IsAlike : SeatingView → SeatingView → Type 0
IsAlike old new = new ≡ record old { blocks = new.blocks; purse = new.purse; moves = new.moves }

abbrev pub empty_seating : ℕ → ℕ → SeatingView
empty_seating size slices = record {
  size = size;
  slices = slices;
  blocks = [];
  purse = [];
  strays = 0;
  numbers = slices;
  moves = no_moves slices;
}
