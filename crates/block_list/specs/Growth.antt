-- How a home changes while blocks of a list are made, come into slices, leave them or end.
use Rattle.std.specs.Prelude.{◌≡◌, ℕ, ◌==◌, if◌then◌else◌, List, [], ◌∷◌, ◌++◌, is_some, None}
use Rattle.std.specs.List.{list_any}
use Rattle.std.specs.Ordering.{nat_cmp}
use Rattle.std.specs.FinMap.{find, put}
use Rattle.slice_seq.specs.Purses.{Purse}
use Rattle.block_seats.specs.Blocks.{BlockView}
use Rattle.block_seats.specs.Purses.{next_place, place_of, with_block, without_block}
use Rattle.block_seats.specs.Noted.{NotedView, noting_placed, noting_freed}
use Rattle.block_seats.specs.Seatings.{SeatingView, IsNewNumber, IsAlike}

-- blocks went into the next slices, one after the other: the purse then, and what is noted of it
abbrev pub with_blocks : Purse → List ℕ → Purse
with_blocks purse [] = purse
with_blocks purse (block ∷ blocks) = with_blocks (with_block purse block) blocks

abbrev pub noting_in : NotedView → Purse → List ℕ → NotedView
noting_in moves purse [] = moves
noting_in moves purse (block ∷ blocks) =
    noting_in (noting_placed moves (next_place purse) block) (with_block purse block) blocks

-- and blocks lost their slices. One that is in none stays as it is
abbrev pub without_blocks : Purse → List ℕ → Purse
without_blocks purse [] = purse
without_blocks purse (block ∷ blocks) = without_blocks (without_block purse block) blocks

abbrev pub noting_out : NotedView → Purse → List ℕ → NotedView
noting_out moves purse [] = moves
noting_out moves purse (block ∷ blocks) =
    noting_out (noting_freed moves (place_of purse block)) (without_block purse block) blocks

-- these blocks came into slices, in this order, and none left its own
pub record ComeIn (came : List ℕ) (old new : SeatingView) : Type 0 where
  pub purse : new.purse ≡ with_blocks old.purse came
  pub moves : new.moves ≡ noting_in old.moves old.purse came
  pub alike : IsAlike old new

-- these blocks left their slices, in this order, and none came into one
pub record GoOut (went : List ℕ) (old new : SeatingView) : Type 0 where
  pub purse : new.purse ≡ without_blocks old.purse went
  pub places : (block : ℕ)
      → place_of new.purse block ≡ (if list_any (λ b. b == block) went then None else place_of old.purse block)
  pub moves : new.moves ≡ noting_out old.moves old.purse went
  pub alike : IsAlike old new

-- new blocks were made one after the other, each under the lowest number that named no block, and no other came or went
abbrev pub AddsBlocks : SeatingView → List ℕ → SeatingView → Type 0
AddsBlocks old [] new = (block : ℕ) → is_some (find nat_cmp block new.blocks) ≡ is_some (find nat_cmp block old.blocks)
AddsBlocks old (block ∷ added) new =
    (view : BlockView) × IsNewNumber old block
    × AddsBlocks (record old { blocks = put nat_cmp block view old.blocks }) added new

-- parked blocks that were needed came in first, and then new blocks were made
pub record Grows (old : SeatingView) (needed added : List ℕ) (new : SeatingView) : Type 0 where
  pub comes : ComeIn (needed ++ added) old new
  pub adds : AddsBlocks old added new

-- with room for the block numbers below this one, once a home was prepared
abbrev pub with_numbers : SeatingView → ℕ → SeatingView
with_numbers seats numbers = record seats { numbers = numbers }
