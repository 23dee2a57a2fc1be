-- What a home gives where a slice is yielded.
use Rattle.std.specs.Prelude.{◌≡◌, ℕ, ◌≤◌, ◌⊎◌, IsSome, Some, None}
use Rattle.std.specs.Ordering.{nat_cmp}
use Rattle.std.specs.FinMap.{put}
use Rattle.far_io.specs.Faults.{Faults, Follows, Rose}
use Rattle.slice_seq.specs.Slice.{SliceView}
use Rattle.block_image.specs.Images.{stamp_for}
use Rattle.block_seats.specs.Tables.{without}
use Rattle.block_seats.specs.Blocks.{InStore}
use Rattle.block_seats.specs.Purses.{next_idle, first_block, place_of}
use Rattle.block_seats.specs.Noted.{noting_freed}
use Rattle.block_seats.specs.Seatings.{SeatingView, bytes_at, with_stray, TakesIdle, IsAlike}
use Rattle.block_home.specs.Calls.{IsKept}
use Rattle.block_home.specs.declared.end.YieldEnd.{YieldEnd}
use Rattle.block_home.specs.declared.end.YieldEnd.TheVariants.{Slice, NoneHeld, StoreFault}

-- the block in the slice of lowest id was parked, and the slice taken out
pub record ParksLowest (user : ℕ) (slice : SliceView) (old new : SeatingView) : Type 0 where
  pub block : ℕ
  pub lowest : first_block old.purse ≡ Some block
  pub place : place_of old.purse block ≡ Some (slice.id, slice.number)
  pub size : slice.size ≡ old.size
  pub blocks : new.blocks ≡ put nat_cmp block (InStore (stamp_for user block (bytes_at old block))) old.blocks
  pub purse : new.purse ≡ without slice.id old.purse
  pub moves : new.moves ≡ noting_freed old.moves (Some (slice.id, slice.number))
  pub alike : IsAlike old new

-- the slice of lowest id without a block goes, and where each has one, the one of lowest id, whose block is parked first.
-- One that came out of order may go in place of it
pub record IsYielded (user : ℕ) (slice : SliceView) (old new : SeatingView) : Type 0 where
  pub idle : IsSome (next_idle old.purse) → old.strays ≡ 0 → TakesIdle slice old new
  pub parked : next_idle old.purse ≡ None → old.strays ≡ 0 → ParksLowest user slice old new
  pub aside : 1 ≤ old.strays → TakesIdle slice old new ⊎ (old ≡ with_stray new)

-- each slice has a block, and the one in the slice of lowest id stays there, after a put that failed
pub record StaysSeated (old new : SeatingView) : Type 0 where
  pub block : ℕ
  pub full : next_idle old.purse ≡ None
  pub lowest : first_block old.purse ≡ Some block
  pub kept : IsKept block old new

abbrev pub IsYieldEnd : ℕ → SeatingView → SeatingView → YieldEnd → Type 0
IsYieldEnd user old new (Slice slice) = IsYielded user slice old new
IsYieldEnd user old new NoneHeld = new ≡ old
IsYieldEnd user old new StoreFault = StaysSeated old new

-- StoreFault comes only where the count rose
abbrev pub YieldRose : Faults → Faults → YieldEnd → Type 0
YieldRose before now StoreFault = Rose before now
YieldRose before now end = Unit {0}

pub record YieldCauses (before now : Faults) (end : YieldEnd) : Type 0 where
  pub follows : Follows before now
  pub rose : YieldRose before now end
