-- How a home and the maps that it holds change while a file grows in it.
use Rattle.std.specs.Prelude.{ℕ, List}
use Rattle.shelf_link.specs.Told.{Told}
use Rattle.shelf_link.specs.Blocks as map
use Rattle.block_seats.specs.Seatings.{SeatingView}
use Rattle.block_home.specs.Holding.{Holds}
use Rattle.block_list.specs.Lists.{KeepsOthers}
use Rattle.block_file.specs.Files.{FileView, IsFile}

-- in place of this map one is held, by which the file is these bytes, and whose other blocks are those of this one
pub record IsGrown (m : map.Blocks) (told : Told) (user : ℕ) (seats : SeatingView) (file : FileView) (bytes : List ℕ)
    : Type 0 where
  pub now : map.Blocks
  pub held : Holds now told user seats.blocks
  pub is : IsFile seats.size now file bytes
  pub keeps : KeepsOthers m now file.blocks
