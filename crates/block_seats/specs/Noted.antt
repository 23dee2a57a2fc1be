-- The moves since they were cleared last.
use Rattle.std.specs.Prelude.{ℕ, List, [], ◌∷◌, ◌++◌, take}
use Rattle.std.specs.declared.option.Option.{Option}
use Rattle.std.specs.Option.{option_map_or}
use Rattle.block_seats.specs.declared.moves.PlacedBlock.{PlacedBlock}

-- the first `most` slices that lost their block, each with its number, and the first `most` placements
pub record NotedView : Type 0 where
  pub most : ℕ
  pub freed : List (ℕ × ℕ)
  pub placed : List PlacedBlock

abbrev pub no_moves : ℕ → NotedView
no_moves most = record { most = most; freed = []; placed = [] }

abbrev pub with_freed : NotedView → ℕ × ℕ → NotedView
with_freed moves place = record { most = moves.most; freed = take moves.most (moves.freed ++ place ∷ []); placed = moves.placed }

abbrev pub with_placed : NotedView → PlacedBlock → NotedView
with_placed moves row = record { most = moves.most; freed = moves.freed; placed = take moves.most (moves.placed ++ row ∷ []) }

-- a block was placed at a place, or lost its place, if there is one
abbrev pub noting_placed : NotedView → Option (ℕ × ℕ) → ℕ → NotedView
noting_placed moves place block = option_map_or (λ p. with_placed moves (record { slice = p.0; number = p.1; block = block })) place moves

abbrev pub noting_freed : NotedView → Option (ℕ × ℕ) → NotedView
noting_freed moves place = option_map_or (with_freed moves) place moves
