use Rattle.std.proofs.Common.{◌≡◌, map, take, drop}
use Rattle.std.specs.List.{zip}
use Rattle.demand_book.specs.Roster.{seated}
use Rattle.demand_book.proofs.roster.seat_rows.Given as goal

abbrev pub invariant-loop-user : goal.invariant-loop-user
invariant-loop-user l = record {
  seated : take l.user l.rows ≡ map (λ pair. seated l.newcomer pair.0 pair.1) (take l.user (zip l.fn.rows l.roster));
  rest : drop l.user l.rows ≡ drop l.user l.fn.rows;
}
