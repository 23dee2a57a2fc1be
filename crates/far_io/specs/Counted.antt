-- What contracts see of an object of std whose faults are counted.
use Rattle.std.specs.Prelude.{ℕ, List}

pub record Counted (O : Type 0) : Type 0 where
  -- the reader or writer
  pub object : O
  -- how many calls failed
  pub faults : ℕ

-- a sink over a writer tells of no list that it took
abbrev pub NothingTold : {W : Type 0} → Counted W → Counted W → List ℕ → Type 0
NothingTold before now bytes = ⊥
