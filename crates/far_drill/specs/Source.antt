-- What contracts see of a source that tells the script of a drill, and what it has left.
use Rattle.std.specs.Prelude.{ℕ, ◌-◌, ◌≤◌, List, ◌++◌}
use Rattle.far_drill.specs.declared.script.Place.{Place}
use Rattle.far_drill.specs.Script.{made_lines, drawn_lines}

pub record DrillSourceView : Type 0 where
  -- the bytes that are left
  pub left : List ℕ

-- no more lines came before than there are
pub record IsPlace (place : Place) : Type 0 where
  pub first : place.first ≤ 12
  pub drawn : place.drawn ≤ place.size

-- the lines from a place on
abbrev pub lines_left : Place → List (List ℕ)
lines_left place = made_lines place.first (12 - place.first)
    ++ drawn_lines place.state place.drawn (place.size - place.drawn)
