use Rattle.std.proofs.Common.{◌≡◌, ◌+◌, ◌<◌, ◌∷◌, ◌++◌, [], None, length, map, take, sym, ap, ◌∙◌, arith}
use Rattle.std.specs.List.{sum_by}
use Rattle.std.proofs.lemmas.List.{length-map, get_or-map, take_all, take_more, take_more_set}
use Rattle.std.proofs.lemmas.List.Sums.{sum_by_more, sum_by_more_le}
use Rattle.demand_book.specs.Book.{blank_row}
use Rattle.demand_book.specs.Roster.{seat_of, fair_of_seat}
use Rattle.demand_book.proofs.RosterRows.{seat_at}
use Rattle.demand_book.proofs.roster.take_seats.Goals as goal

pub overflow_add-promised : goal.overflow_add-promised
overflow_add-promised c =
    let rows = c.args.rows.now in
    let user = c.loop-user.user in
    let inside : user < length (map seat_of rows) = omega (arith, length-map rows seat_of, c.loop-user-test.true) in
    let seat = c.row_seat-seat.ensures ∙ sym (get_or-map seat_of rows user blank_row None c.loop-user-test.true) in
    omega (arith, c.seat_fair-promised.ensures, ap fair_of_seat seat, sum_by_more_le fair_of_seat (map seat_of rows) user None inside, c.loop-user.invariant.promised, c.requires.together)

pub loop-user-preserved : goal.loop-user-preserved
loop-user-preserved c =
    let rows = c.args.rows.now in
    let user = c.loop-user.user in
    let seats = map seat_of rows in
    let inside : user < length seats = omega (arith, length-map rows seat_of, c.loop-user-test.true) in
    let in_roster : user < length c.loop-user.roster = omega arith in
    let seat : c.row_seat-seat.result ≡ seat_at seats user = c.row_seat-seat.ensures ∙ sym (get_or-map seat_of rows user blank_row None c.loop-user-test.true) in
    record {
      taken = take_more_set c.loop-user.roster user c.row_seat-seat.result in_roster ∙ ap (λ t. t ++ c.row_seat-seat.result ∷ []) c.loop-user.invariant.taken
          ∙ ap (λ s. take user seats ++ s ∷ []) seat ∙ sym (take_more seats user None inside);
      promised = ap (λ n. n + c.seat_fair-promised.result) c.loop-user.invariant.promised ∙ ap (λ n. sum_by fair_of_seat (take user seats) + n) (c.seat_fair-promised.ensures ∙ ap fair_of_seat seat)
          ∙ sym (sum_by_more fair_of_seat seats user None inside);
    }

pub returns-clause-roster : goal.returns-clause-roster
returns-clause-roster c =
    let seats = map seat_of c.args.rows.now in
    sym (take_all c.loop-user.user c.loop-user.roster (omega arith)) ∙ c.loop-user.invariant.taken ∙ take_all c.loop-user.user seats (omega (arith, length-map c.args.rows.now seat_of))

pub returns-clause-promised : goal.returns-clause-promised
returns-clause-promised c =
    let seats = map seat_of c.args.rows.now in
    c.loop-user.invariant.promised ∙ ap (sum_by fair_of_seat) (take_all c.loop-user.user seats (omega (arith, length-map c.args.rows.now seat_of)))
