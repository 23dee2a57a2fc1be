-- What is written of events: of each its outcome's line, and then the lines of its moves.
use Rattle.std.specs.Prelude.{ℕ, List, ◌++◌}
use Rattle.far_words.specs.Moves.{MovesView}
use Rattle.far_asks.specs.declared.request.Outcome.{Outcome}
use Rattle.far_words.specs.declared.moves.PlacedRow.{PlacedRow}
use Rattle.script_text.specs.Outcomes.{outcome_text, OutcomeFits}
use Rattle.script_text.specs.Moves.{moves_text, MovesFit}

-- what came of an event
pub record ToldEvent : Type 0 where
  pub outcome : Outcome
  pub freed : List (ℕ × ℕ)
  pub placed : List PlacedRow

abbrev pub moves_of : ToldEvent → MovesView
moves_of told = record { room = 0; freed = told.freed; placed = told.placed }

abbrev pub told_text : ToldEvent → List ℕ
told_text told = outcome_text told.outcome ++ moves_text (moves_of told)

-- each number is within the limit of its field, and a path is one
pub record ToldFits (told : ToldEvent) : Type 0 where
  pub outcome : OutcomeFits told.outcome
  pub moves : MovesFit (moves_of told)
