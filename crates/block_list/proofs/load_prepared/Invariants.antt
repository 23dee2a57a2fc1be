use Rattle.std.proofs.Common.{◌≡◌, length, take}
use Rattle.std.specs.Prelude.{IsTrue}
use Rattle.far_io.specs.Faults.{Follows}
use Rattle.block_home.specs.Calls.{Carries}
use Rattle.block_list.specs.Lists.{parked_of}
use Rattle.block_list.proofs.Coming.{Loading}
use Rattle.block_list.proofs.load_prepared.Given as goal

abbrev pub invariant-loop-block : goal.invariant-loop-block
invariant-loop-block g l = record {
  rest : l.home ≡ record l.initial.home { seats = l.home.seats; shelf = l.home.shelf };
  loading : Loading l.initial.home.seats l.blocks l.home.seats l.block-index;
  told : g.K.Shelf.told l.home.shelf ≡ g.K.Shelf.told l.initial.home.shelf;
  follows : Follows (g.K.Shelf.faults l.initial.home.shelf) (g.K.Shelf.faults l.home.shelf);
  holds : Carries l.initial.home.user (g.K.Shelf.told l.initial.home.shelf) l.initial.home.seats.blocks (g.K.Shelf.told l.home.shelf) l.home.seats.blocks;
  seated : IsTrue (g.K.Shelf.told l.initial.home.shelf).void → length (parked_of l.initial.home.seats.purse (take l.block-index l.blocks)) ≡ 0;
}
