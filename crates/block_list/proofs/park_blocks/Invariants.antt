use Rattle.std.proofs.Common.{◌≡◌}
use Rattle.far_io.specs.Faults.{Follows}
use Rattle.shelf_link.specs.Told.{IsSameKind}
use Rattle.block_home.specs.Calls.{Carries}
use Rattle.block_list.proofs.Going.{Parking}
use Rattle.block_list.proofs.park_blocks.Given as goal

abbrev pub invariant-loop-block : goal.invariant-loop-block
invariant-loop-block g l = record {
  rest : l.home ≡ record l.initial.home { seats = l.home.seats; shelf = l.home.shelf };
  parking : Parking l.initial.home.seats l.blocks l.home.seats l.block-index;
  kind : IsSameKind (g.K.Shelf.told l.initial.home.shelf) (g.K.Shelf.told l.home.shelf);
  follows : Follows (g.K.Shelf.faults l.initial.home.shelf) (g.K.Shelf.faults l.home.shelf);
  holds : Carries l.initial.home.user (g.K.Shelf.told l.initial.home.shelf) l.initial.home.seats.blocks (g.K.Shelf.told l.home.shelf) l.home.seats.blocks;
}
