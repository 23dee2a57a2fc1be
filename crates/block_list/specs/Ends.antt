-- Why a call on a list of blocks ends early, and what it says of a block then.
use Rattle.std.specs.Prelude.{◌≡◌, ℕ, ◌<◌, List, length, slice_index, IsTrue, Some, None}
use Rattle.std.specs.declared.result.Result.{Result}
use Rattle.std.specs.declared.result.Result.TheVariants.{Err}
use Rattle.far_words.specs.declared.stamp.Stamp.{Stamp}
use Rattle.block_image.specs.Images.{IsFoundInstead}
use Rattle.shelf_link.specs.Blocks as map
use Rattle.shelf_link.specs.Told.{Told, tells}
use Rattle.block_seats.specs.Purses.{place_of}
use Rattle.block_seats.specs.Seatings.{SeatingView}
use Rattle.block_home.specs.Holding.{Holds}
use Rattle.block_home.specs.Calls.{stamp_at, IsUndamaged}
use Rattle.block_home.specs.declared.end.HomeEnd.{HomeEnd}
use Rattle.block_home.specs.declared.end.HomeEnd.TheVariants.{Exhausted, Damaged}

-- where slices were counted before, a call never lacks them
abbrev pub IsPreparedEnd : HomeEnd → Type 0
IsPreparedEnd (Exhausted need used granted) = ⊥
IsPreparedEnd end = Unit {0}

-- one of these blocks is in no slice, and has this stamp
pub record IsParkedAs (seats : SeatingView) (blocks : List ℕ) (kept : Stamp) : Type 0 where
  pub index : ℕ
  pub within : index < length blocks
  pub away : place_of seats.purse (slice_index blocks index) ≡ None
  pub stamp_is : stamp_at seats.blocks (slice_index blocks index) ≡ Some kept

-- a Damaged names the stamp of one of these blocks, and something else that was found
abbrev pub NamesBlock : {T : Type 0} → SeatingView → List ℕ → Result T HomeEnd → Type 0
NamesBlock seats blocks (Err (Damaged kept found)) = IsParkedAs seats blocks kept × IsFoundInstead kept found
NamesBlock seats blocks result = Unit {0}

-- over a store that tells its content no block is Damaged
abbrev pub IsNeverDamaged : {T : Type 0} → Told → ℕ → SeatingView → Result T HomeEnd → Type 0
IsNeverDamaged told user seats result =
    IsTrue (tells told) → (m : map.Blocks) → Holds m told user seats.blocks → IsUndamaged result
