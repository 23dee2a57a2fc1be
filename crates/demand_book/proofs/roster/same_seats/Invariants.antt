use Rattle.std.proofs.Common.{◌≡◌, ◌<◌, ℕ}
use Rattle.demand_book.specs.Roster.{seat_of}
use Rattle.demand_book.proofs.RosterRows.{seat_at, row_of_user}
use Rattle.demand_book.proofs.roster.same_seats.Given as goal

abbrev pub invariant-loop-user : goal.invariant-loop-user
invariant-loop-user l = (user : ℕ) → user < l.user → seat_of (row_of_user l.rows user) ≡ seat_at l.roster user
