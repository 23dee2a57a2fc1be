use Rattle.std.proofs.Common.{◌≡◌, take}
use Rattle.far_io.specs.Faults.{Follows}
use Rattle.shelf_link.specs.Blocks as map
use Rattle.shelf_link.specs.Told.{IsSameKind}
use Rattle.block_home.specs.Holding.{Holds}
use Rattle.block_list.specs.Growth.{GoOut}
use Rattle.block_list.specs.Lists.{without_all}
use Rattle.block_list.proofs.cut_blocks.Given as goal

abbrev pub invariant-loop-block : goal.invariant-loop-block
invariant-loop-block g l = record {
  rest : l.home ≡ record l.initial.home { seats = l.home.seats; shelf = l.home.shelf };
  blocks_are : l.home.seats.blocks ≡ without_all l.initial.home.seats.blocks (take l.block-index l.blocks);
  goes : GoOut (take l.block-index l.blocks) l.initial.home.seats l.home.seats;
  kind : IsSameKind (g.K.Shelf.told l.initial.home.shelf) (g.K.Shelf.told l.home.shelf);
  follows : Follows (g.K.Shelf.faults l.initial.home.shelf) (g.K.Shelf.faults l.home.shelf);
  holds : (m : map.Blocks) → Holds m (g.K.Shelf.told l.initial.home.shelf) l.initial.home.user l.initial.home.seats.blocks
      → Holds (without_all m (take l.block-index l.blocks)) (g.K.Shelf.told l.home.shelf) l.initial.home.user l.home.seats.blocks;
}
