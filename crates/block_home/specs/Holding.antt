-- When blocks and a store hold a map from block numbers to bytes.
use Rattle.std.specs.Prelude.{◌≡◌, ℕ, List, IsTrue, Some, None}
use Rattle.std.specs.declared.option.Option.{Option}
use Rattle.std.specs.Ordering.{nat_cmp}
use Rattle.std.specs.FinMap.{find}
use Rattle.far_words.specs.declared.stamp.Stamp.{Stamp}
use Rattle.block_image.specs.Images.{stamp_for}
use Rattle.shelf_link.specs.Told.{Told, tells, is_sure}
use Rattle.shelf_link.specs.Blocks as map
use Rattle.block_seats.specs.Blocks.{Blocks, BlockView, InSlice, InStore}
use Rattle.block_home.specs.Stored.{IsStored}

-- a parked block has the stamp of its bytes, and a store that tells holds their image under its number
pub record IsAway (m : map.Blocks) (told : Told) (user block : ℕ) (stamp : Stamp) : Type 0 where
  pub bytes : List ℕ
  pub there : map.block_at m block ≡ Some bytes
  pub stamped : stamp ≡ stamp_for user block bytes
  pub stored : IsTrue (tells told) → IsStored told block stamp bytes

abbrev pub IsHeld : map.Blocks → Told → ℕ → ℕ → Option BlockView → Type 0
IsHeld m told user block None = map.block_at m block ≡ None
IsHeld m told user block (Some (InSlice bytes was)) = map.block_at m block ≡ Some bytes
IsHeld m told user block (Some (InStore stamp)) = IsAway m told user block stamp

-- the store tells its content or that it is void, and each block has the map's bytes
pub record Holds (m : map.Blocks) (told : Told) (user : ℕ) (blocks : Blocks) : Type 0 where
  pub sure : IsTrue (is_sure told)
  pub each : (block : ℕ) → IsHeld m told user block (find nat_cmp block blocks)
