use Rattle.std.proofs.Common.{◌≡◌, ◌-◌, length, vec_capacity}
use Rattle.block_file.proofs.Adding.{Adding}
use Rattle.block_file.proofs.blocks.add_blocks.Given as goal

abbrev pub invariant-loop-done : goal.invariant-loop-done
invariant-loop-done g l = record {
  rest : l.home ≡ record l.initial.home { seats = l.home.seats };
  adding : Adding (g.K.Shelf.told l.initial.home.shelf) l.initial.home.user l.initial.home.seats l.initial.blocks.items l.used l.bytes l.home.seats l.blocks.items (vec_capacity l.blocks) l.done;
}

abbrev pub decreases-loop-done : goal.decreases-loop-done
decreases-loop-done g l = length l.bytes - l.done
