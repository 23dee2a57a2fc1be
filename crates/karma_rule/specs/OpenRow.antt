-- The rows of a quantum that is open: how they stand for its users.
use Rattle.std.specs.Prelude.{ℕ, ◌+◌, ◌-◌, ◌<◌, ◌≤◌, min, max, Bool, ◌&&◌, nat_lt, List, map}
use Rattle.karma_rule.specs.declared.row.Row.{Row}
use Rattle.karma_rule.specs.declared.limits.TheConstants.{MOST_FAIR, MOST_DEMAND, CREDITS_TOP}
use Rattle.karma_rule.specs.Karma.{User, Quantum}

-- At the close, what was lent is no longer counted.
abbrev pub closed : Row → Row
closed row = record row { given = min row.given row.demand }

-- While a quantum is open, `given` counts the slices of a user's floor that are in use, lent ones too.
abbrev pub user_of : Row → User
user_of row = record { row = closed row; left = row.floor - row.given }

abbrev pub quantum_of : List Row → ℕ → Quantum
quantum_of rows shared = record { users = map user_of rows; shared = shared }

-- a row of an open quantum: its given slices are filled up to the floor, and no number will overflow
pub record IsOpenRow (row : Row) : Type 0 where
  pub filled : min row.floor row.demand ≤ row.given
  pub wanted : row.given ≤ max row.demand row.floor
  pub small : row.demand ≤ MOST_DEMAND
  pub low : row.floor ≤ MOST_FAIR
  pub room : row.credits + (row.floor - row.given) < CREDITS_TOP

abbrev pub row_borrows : Row → Bool
row_borrows row = nat_lt row.given row.demand && nat_lt 0 row.credits

abbrev pub row_lends : Row → Bool
row_lends row = nat_lt row.given row.floor

abbrev pub has_more : Row → Row → Bool
has_more row other = nat_lt other.credits row.credits

abbrev pub has_fewer : Row → Row → Bool
has_fewer row other = nat_lt row.credits other.credits
