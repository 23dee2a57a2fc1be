use Rattle.std.proofs.Common.{◌≡◌, map, take}
use Rattle.std.specs.List.{sum_by}
use Rattle.demand_book.specs.Roster.{seat_of, fair_of_seat}
use Rattle.demand_book.proofs.roster.take_seats.Given as goal

abbrev pub invariant-loop-user : goal.invariant-loop-user
invariant-loop-user l = record {
  taken : take l.user l.roster ≡ take l.user (map seat_of l.rows);
  promised : l.promised ≡ sum_by fair_of_seat (take l.user (map seat_of l.rows));
}
