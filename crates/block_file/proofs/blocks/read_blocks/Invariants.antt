use Rattle.std.proofs.Common.{◌≡◌, ℕ, ◌+◌, ◌-◌, ◌/◌, ◌<◌, ◌≤◌, List, length, take, drop, get_or, None}
use Rattle.std.specs.Prelude.{IsTrue}
use Rattle.far_io.specs.Faults.{Follows}
use Rattle.shelf_link.specs.Blocks as map
use Rattle.block_seats.specs.Purses.{place_of}
use Rattle.block_home.specs.Holding.{Holds}
use Rattle.block_file.specs.Files.{HoldsBytes}
use Rattle.block_file.proofs.blocks.read_blocks.Given as goal

abbrev pub invariant-loop-done : goal.invariant-loop-done
invariant-loop-done g l = record {
  within : l.done ≤ length l.initial.out;
  rest : l.home ≡ record l.initial.home { shelf = l.home.shelf };
  told : g.K.Shelf.told l.home.shelf ≡ g.K.Shelf.told l.initial.home.shelf;
  follows : Follows (g.K.Shelf.faults l.initial.home.shelf) (g.K.Shelf.faults l.home.shelf);
  so_far : (m : map.Blocks) (bytes : List ℕ) → Holds m (g.K.Shelf.told l.initial.home.shelf) l.initial.home.user l.initial.home.seats.blocks → l.used ≡ length bytes → HoldsBytes l.initial.home.seats.size m l.blocks bytes
      → take l.done l.out ≡ take l.done (drop l.from bytes);
  present : IsTrue (g.K.Shelf.told l.initial.home.shelf).void → (at : ℕ) → l.from ≤ at → at < l.from + l.done → place_of l.initial.home.seats.purse (get_or l.blocks (at / l.initial.home.seats.size) 0) ≡ None → ⊥;
}

abbrev pub decreases-loop-done : goal.decreases-loop-done
decreases-loop-done g l = length l.initial.out - l.done
