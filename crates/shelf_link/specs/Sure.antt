-- What holds of a shelf whose room is reserved.
use Rattle.std.specs.Prelude.{◌+◌, ◌≤◌, vec_len, vec_capacity, IsTrue}
use Rattle.std.specs.Ordering.{nat_cmp}
use Rattle.std.specs.FinMap.{is_sorted}
use Rattle.shelf_link.specs.Shelves.{SureShelfView}
use Rattle.shelf_link.specs.Slots.{blocks_of, AreSized}
use Rattle.shelf_link.specs.declared.sure.SureShelf.TheInside.{Inside}

-- what contracts see of it
abbrev pub view_of : Inside → SureShelfView
view_of shelf = record {
  blocks = blocks_of shelf.held.items;
  room = vec_len shelf.spare;
  size = shelf.size;
  faults = shelf.faults;
}

pub record IsSure (shelf : Inside) : Type 0 where
  pub sorted : IsTrue (is_sorted nat_cmp (blocks_of shelf.held.items))
  pub held_sized : AreSized shelf.size shelf.held.items
  pub spare_sized : AreSized shelf.size shelf.spare.items
  -- both tables have a place for each slot
  pub held_places : vec_len shelf.held + vec_len shelf.spare ≤ vec_capacity shelf.held
  pub spare_places : vec_len shelf.held + vec_len shelf.spare ≤ vec_capacity shelf.spare
