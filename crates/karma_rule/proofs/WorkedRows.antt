-- The definition of Karma's rule on small quanta, computed.
use Rattle.std.proofs.Common.{◌≡◌, ℕ, true, false, [], ◌∷◌, refl}
use Rattle.karma_rule.specs.declared.row.Row.{Row}
use Rattle.karma_rule.specs.Karma.{karma, closing}

-- a user that is present: its demand, credits and given slices, and its share
abbrev row : ℕ → ℕ → ℕ → ℕ → ℕ → Row
row demand credits given fair floor = record { demand = demand; credits = credits; given = given; fair = fair; floor = floor; present = true }

abbrev away : ℕ → Row
away demand = record { demand = demand; credits = 0; given = 0; fair = 0; floor = 0; present = false }

first_quantum : karma (row 3 5 0 2 1 ∷ row 2 5 0 2 1 ∷ row 1 5 0 2 1 ∷ []) ≡ row 3 4 3 2 1 ∷ row 2 5 2 2 1 ∷ row 1 6 1 2 1 ∷ []
unfolding closing
first_quantum = refl

donated_first : karma (row 3 4 0 2 1 ∷ row 0 5 0 2 1 ∷ row 0 6 0 2 1 ∷ []) ≡ row 3 3 3 2 1 ∷ row 0 7 0 2 1 ∷ row 0 8 0 2 1 ∷ []
unfolding closing
donated_first = refl

third_quantum : karma (row 0 3 0 2 1 ∷ row 4 7 0 2 1 ∷ row 4 8 0 2 1 ∷ []) ≡ row 0 5 0 2 1 ∷ row 4 6 3 2 1 ∷ row 4 7 3 2 1 ∷ []
unfolding closing
third_quantum = refl

no_credit_left : karma (row 4 0 0 2 2 ∷ row 0 0 0 2 2 ∷ row 0 0 0 2 2 ∷ []) ≡ row 4 0 2 2 2 ∷ row 0 0 0 2 2 ∷ row 0 0 0 2 2 ∷ []
unfolding closing
no_credit_left = refl

two_donors : karma (row 12 3 0 4 4 ∷ row 0 3 0 4 4 ∷ row 0 3 0 4 4 ∷ []) ≡ row 12 0 7 4 4 ∷ row 0 5 0 4 4 ∷ row 0 4 0 4 4 ∷ []
unfolding closing
two_donors = refl

-- user 2 is away, and its demand stands
one_away : karma (row 3 4 3 2 1 ∷ row 2 5 2 2 1 ∷ away 1 ∷ []) ≡ row 3 4 2 2 1 ∷ row 2 5 2 2 1 ∷ away 1 ∷ []
unfolding closing
one_away = refl

-- user 2 is back with the average of 4 and 5, and without a floor
one_back : karma (row 3 4 2 2 1 ∷ row 2 5 2 2 1 ∷ row 1 4 0 2 0 ∷ []) ≡ row 3 3 3 2 1 ∷ row 2 5 2 2 1 ∷ row 1 5 1 2 0 ∷ []
unfolding closing
one_back = refl
