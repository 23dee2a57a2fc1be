-- Lists of block numbers in a home, and which of these blocks are in slices.
use Rattle.std.specs.Prelude.{◌≡◌, ◌≢◌, ℕ, ◌<◌, not, List, [], ◌∷◌, length, filter, slice_index, All, AllPairs, None}
use Rattle.std.specs.Ordering.{nat_cmp}
use Rattle.std.specs.FinMap.{find}
use Rattle.slice_seq.specs.Purses.{Purse, has_block}
use Rattle.block_seats.specs.Tables.{without}
use Rattle.block_seats.specs.Seatings.{SeatingView, HasBlock, IsSeated, length_at}
use Rattle.block_home.specs.Calls.{stamp_at}

-- each of these blocks is there, wherever it is, and none of them stands twice in the list
pub record AreThere (seats : SeatingView) (blocks : List ℕ) : Type 0 where
  pub distinct : AllPairs ◌≢◌ blocks
  pub each : (i : ℕ) → i < length blocks → HasBlock seats (slice_index blocks i)

-- a block is there, wherever it is, and has so many bytes
pub record IsLong (seats : SeatingView) (block len : ℕ) : Type 0 where
  pub there : HasBlock seats block
  pub long : length_at seats block ≡ len

-- a block is in a slice, and so it has no stamp
pub record IsInSlice (seats : SeatingView) (block : ℕ) : Type 0 where
  pub seated : IsSeated seats block
  pub unstamped : stamp_at seats.blocks block ≡ None

-- those of these blocks that are in no slice
abbrev pub parked_of : Purse → List ℕ → List ℕ
parked_of purse blocks = filter (λ block. not (has_block purse block)) blocks

-- and those that are in one
abbrev pub seated_of : Purse → List ℕ → List ℕ
seated_of purse blocks = filter (λ block. has_block purse block) blocks

-- every block that isn't one of these is as it was
pub record KeepsOthers {X : Type 0} (old new : List (ℕ × X)) (blocks : List ℕ) : Type 0 where
  pub others : (block : ℕ) → All (λ b. block ≢ b) blocks → find nat_cmp block new ≡ find nat_cmp block old

-- a map without these blocks
abbrev pub without_all : {X : Type 0} → List (ℕ × X) → List ℕ → List (ℕ × X)
without_all es [] = es
without_all es (block ∷ blocks) = without_all (without block es) blocks
