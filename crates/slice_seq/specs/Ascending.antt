-- Block numbers in ascending order.
use Rattle.std.specs.Prelude.{ℕ, nat_le, if◌then◌else◌, List, [], ◌∷◌}

-- a number more among numbers that ascend
abbrev pub among : ℕ → List ℕ → List ℕ
among number [] = number ∷ []
among number (least ∷ numbers) =
    if nat_le number least then number ∷ least ∷ numbers else least ∷ among number numbers

-- the same numbers, in ascending order
abbrev pub ascending : List ℕ → List ℕ
ascending [] = []
ascending (number ∷ numbers) = among number (ascending numbers)
