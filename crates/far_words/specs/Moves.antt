-- What contracts see of moves.
use Rattle.std.specs.Prelude.{ℕ, List, [], ◌∷◌, ◌++◌, map}
use Rattle.std.specs.Ordering.{nat_cmp}
use Rattle.std.specs.List.Sorted.{IsStrictlySortedBy}
use Rattle.std.specs.Map.{keys_of}
use Rattle.far_words.specs.declared.moves.PlacedRow.{PlacedRow}

pub record MovesView : Type 0 where
  -- how many slices can be noted as freed without taking memory
  pub room : ℕ
  -- the slices that lost their block, each with the number under which it was used
  pub freed : List (ℕ × ℕ)
  -- the blocks that came into a slice
  pub placed : List PlacedRow

abbrev pub no_moves : ℕ → MovesView
no_moves room = record { room = room; freed = []; placed = [] }

abbrev pub with_freed : MovesView → ℕ × ℕ → MovesView
with_freed moves slice = record { room = moves.room; freed = moves.freed ++ slice ∷ []; placed = moves.placed }

abbrev pub with_placed : MovesView → PlacedRow → MovesView
with_placed moves row = record { room = moves.room; freed = moves.freed; placed = moves.placed ++ row ∷ [] }

-- each of the two lists is in order of slice id, and has no slice twice
pub record AreInOrder (moves : MovesView) : Type 0 where
  pub freed : IsStrictlySortedBy nat_cmp (keys_of moves.freed)
  pub placed : IsStrictlySortedBy nat_cmp (map (λ row. row.slice) moves.placed)
