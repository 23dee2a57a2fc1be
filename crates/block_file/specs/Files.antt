-- What contracts see of a file, and the bytes that it stands for.
use Rattle.std.specs.Prelude.{◌≡◌, ◌≢◌, ℕ, ◌+◌, ◌-◌, ◌*◌, ◌%◌, ◌<◌, ◌==◌, ◌&&◌, nat_lt, min, not, if◌then◌else◌, Bool, List, [], ◌∷◌, length, slice_index, take, drop, AllPairs, Some}
use Rattle.std.specs.Int.{div_ceil}
use Rattle.slice_seq.specs.Needs.{is_last_parked, append_need}
use Rattle.shelf_link.specs.Blocks as map
use Rattle.block_seats.specs.Seatings.{SeatingView}
use Rattle.block_list.specs.Lists.{IsLong}

-- how many bytes a file has, and its blocks in their order
pub record FileView : Type 0 where
  pub length : ℕ
  pub blocks : List ℕ

abbrev pub empty_file : FileView
empty_file = record { length = 0; blocks = [] }

abbrev pub file_in : ℕ → List ℕ → FileView
file_in len blocks = record { length = len; blocks = blocks }

-- by this map these blocks hold these bytes: as few blocks as can, no block twice, and block i with the bytes from i
-- times the size on, as many as fit. So all are full but the last
pub record HoldsBytes (size : ℕ) (m : map.Blocks) (blocks bytes : List ℕ) : Type 0 where
  pub count : length blocks ≡ div_ceil (length bytes) size
  pub distinct : AllPairs ◌≢◌ blocks
  pub each : (i : ℕ) → i < length blocks
      → map.block_at m (slice_index blocks i) ≡ Some (take size (drop (i * size) bytes))

-- by this map a file is this list of bytes
pub record IsFile (size : ℕ) (m : map.Blocks) (file : FileView) (bytes : List ℕ) : Type 0 where
  pub size_is : file.length ≡ length bytes
  pub holds : HoldsBytes size m file.blocks bytes

-- what stands of a file whatever a store holds: how many blocks it has and how long each is
pub record IsSound (seats : SeatingView) (file : FileView) : Type 0 where
  pub count : length file.blocks ≡ div_ceil file.length seats.size
  pub distinct : AllPairs ◌≢◌ file.blocks
  pub each : (i : ℕ) → i < length file.blocks
      → IsLong seats (slice_index file.blocks i) (min seats.size (file.length - i * seats.size))

-- how many blocks more a file of so many bytes has with so many more
abbrev pub new_blocks : (size old more : ℕ) → ℕ
new_blocks size old more = div_ceil (old + more) size - div_ceil old size

-- how many slices an append of so many bytes to a file needs in its home
abbrev pub need_of : SeatingView → FileView → (more : ℕ) → ℕ
need_of seats file more = append_need seats.size seats.purse file.blocks file.length more

-- whether an append of so many bytes needs the last block, and that is parked
abbrev pub needs_last : SeatingView → FileView → (more : ℕ) → Bool
needs_last seats file more =
    nat_lt 0 more && not (file.length % seats.size == 0) && is_last_parked seats.purse file.blocks

-- the last block, if it is
abbrev pub needed_last : SeatingView → FileView → (more : ℕ) → List ℕ
needed_last seats file more =
    if needs_last seats file more then slice_index file.blocks (length file.blocks - 1) ∷ [] else []
