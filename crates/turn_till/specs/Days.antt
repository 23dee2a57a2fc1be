-- What is asked on a day at the till.
use Rattle.std.specs.Prelude.{ℕ, ◌-◌, ◌/◌, List, ◌∷◌, ◌++◌, replicate}
use Rattle.turn_till.specs.declared.till.TillAsk.{TillAsk}
use Rattle.turn_till.specs.declared.till.TillAsk.TheVariants.{Pay, Empty}

-- so many payments of one
abbrev pub payments : ℕ → List TillAsk
payments n = replicate n (Pay 1)

-- payments of one, and the till emptied in their middle, so many calls in all
abbrev pub owner_asks : ℕ → List TillAsk
owner_asks calls = payments ((calls - 1) / 2) ++ Empty ∷ payments (calls / 2)
