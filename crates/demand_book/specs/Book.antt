-- What contracts see of a Book, and what its calls leave.
use Rattle.std.specs.Prelude.{ℕ, ◌+◌, ◌-◌, ◌*◌, true, false, List, map, set, replicate, Some, None}
use Rattle.std.specs.List.{sum_by}
use Rattle.std.specs.declared.option.Option.{Option}
use Rattle.karma_rule.specs.declared.row.Row.{Row}
use Rattle.karma_rule.specs.declared.row.Share.{Share}
use Rattle.karma_rule.specs.declared.shape.Shape.{Shape}
use Rattle.karma_rule.specs.Karma.{change_at, karma}
use Rattle.demand_book.specs.Roster.{seat_of, fair_of_seat, seated_rows}

-- The shape that it was made for, the count of quanta made, and the users' rows: standing demand, and what the last quantum left. Then
-- the roster of the next quantum: each user's share, or none where it is away.
pub record BookView : Type 0 where
  pub shape : Shape
  pub quanta : ℕ
  pub rows : List Row
  pub roster : List (Option Share)

-- before the first report and the first quantum
abbrev pub opening_row : Shape → Row
opening_row shape = record { demand = 0; credits = shape.credits; given = 0; fair = shape.share.fair; floor = shape.share.floor; present = true }

abbrev pub opening_book : Shape → BookView
opening_book shape = record { shape = shape; quanta = 0; rows = replicate shape.users (opening_row shape); roster = replicate shape.users (Some shape.share) }

-- a user's demand stands from now on
abbrev pub demanding : ℕ → Row → Row
demanding demand row = record row { demand = demand }

abbrev pub reported : BookView → ℕ → ℕ → BookView
reported book user demand = record book { rows = change_at (demanding demand) book.rows user }

-- from the next quantum on, the user is present with this share
abbrev pub joined : BookView → ℕ → Share → BookView
joined book user share = record book { roster = set book.roster user (Some share) }

-- from the next quantum on, the user is away
abbrev pub left : BookView → ℕ → BookView
left book user = record book { roster = set book.roster user None }

-- from the next quantum on, the users have the seats of these rows
abbrev pub with_roster : BookView → List Row → BookView
with_roster book rows = record book { roster = map seat_of rows }

-- the greatest fair share that a user may have: what the others will leave of all slices
abbrev pub limit_for : BookView → ℕ → ℕ
limit_for book user = book.shape.users * book.shape.share.fair - sum_by fair_of_seat (left book user).roster

-- the users of the roster have their shares, and the credits that they begin the quantum with
abbrev pub seated_book : BookView → BookView
seated_book book = record book { rows = seated_rows book.shape.credits book.rows book.roster }

-- one quantum, for the demands that stand, the roster, and the credits of the last one
abbrev pub ticked : BookView → BookView
ticked book = record book { quanta = book.quanta + 1; rows = karma (seated_book book).rows }

-- a row of zeros, of a user that is away
abbrev pub blank_row : Row
blank_row = record { demand = 0; credits = 0; given = 0; fair = 0; floor = 0; present = false }
