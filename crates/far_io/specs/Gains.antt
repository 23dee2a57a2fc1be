-- What a buffer gains from a source.
use Rattle.std.specs.Prelude.{◌≡◌, ℕ, List, ◌++◌, length}
use Rattle.std.specs.declared.option.Option.{Option}
use Rattle.far_io.specs.Left.{in_front, IsAtEnd}

pub record Gains (old new : List ℕ) (before now : Option (List ℕ)) (count : ℕ) : Type 0 where
  pub piece : List ℕ
  pub grows : new ≡ old ++ piece
  pub long : length piece ≡ count
  pub same : in_front new now ≡ in_front old before
  pub end : count ≡ 0 → IsAtEnd now
