-- What holds of every Book.
use Rattle.std.specs.Prelude.{ℕ, ◌+◌, ◌*◌, ◌≤◌, ◌≡◌, Bool, List, length, map, All, IfSome}
use Rattle.std.specs.Bool.{OnFalse}
use Rattle.std.specs.List.{sum_by}
use Rattle.std.specs.declared.option.Option.{Option}
use Rattle.karma_rule.specs.declared.row.Row.{Row}
use Rattle.karma_rule.specs.declared.row.Share.{Share}
use Rattle.karma_rule.specs.declared.shape.Shape.{Shape}
use Rattle.karma_rule.specs.declared.limits.TheConstants.{MOST_FAIR, MOST_DEMAND}
use Rattle.karma_rule.specs.Limits.{IsPlan}
use Rattle.demand_book.specs.Book.{BookView}
use Rattle.demand_book.specs.Roster.{seat_of, fair_of_seat}
use Rattle.demand_book.specs.declared.book.TheConstants.{QUANTA}

-- A user gains at most its fair share of credits in a quantum, so that in all quanta none comes near 2^62.
pub record IsRow (shape : Shape) (made : ℕ) (row : Row) : Type 0 where
  pub fair : row.fair ≤ MOST_FAIR
  pub floor : row.floor ≤ row.fair
  pub demand : row.demand ≤ MOST_DEMAND
  pub credits : row.credits ≤ shape.credits + made * MOST_FAIR
  pub away : OnFalse row.present ((row.fair ≡ 0) × (row.credits ≡ 0))

-- within the limits of a share
pub record IsShare (share : Share) : Type 0 where
  pub fair : share.fair ≤ MOST_FAIR
  pub floor : share.floor ≤ share.fair

-- The fair shares of the next roster together are `promised`, no more than there are slices. Where it is unchanged, it is that of the last quantum.
pub record IsRoster (shape : Shape) (rows : List Row) (roster : List (Option Share)) (promised : ℕ) (changes : Bool) : Type 0 where
  pub users : length roster ≡ shape.users
  pub shares : All (λ seat. IfSome seat IsShare) roster
  pub all : promised ≡ sum_by fair_of_seat roster
  pub within : promised ≤ shape.users * shape.share.fair
  pub same : OnFalse changes (map seat_of rows ≡ roster)

pub record IsBook (book : BookView) (promised : ℕ) (changes : Bool) : Type 0 where
  pub plan : IsPlan book.shape
  pub users : length book.rows ≡ book.shape.users
  pub quanta : book.quanta ≤ QUANTA
  pub rows : All (IsRow book.shape book.quanta) book.rows
  pub roster : IsRoster book.shape book.rows book.roster promised changes
