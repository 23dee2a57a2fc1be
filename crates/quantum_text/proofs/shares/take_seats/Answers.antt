use Rattle.std.proofs.Common.{◌≡◌, ◌+◌, ◌<◌, None, length, map, take, set, refl, sym, ◌∙◌, ap, subst, arith}
use Rattle.std.specs.Prelude.{All}
use Rattle.std.proofs.lemmas.List.{length-map, map-set, take_all, take_more_set}
use Rattle.std.proofs.lemmas.List.Elements.{All-push}
use Rattle.demand_book.specs.Roster.{seat_of}
use Rattle.quantum_text.specs.Shares.{seat_word, IsSeat, IsSeated}
use Rattle.quantum_text.proofs.Items.{due_nothing, due_more, due_item, taken_more, taken_all}
use Rattle.quantum_text.proofs.Seats.{seat_word_injective}
use Rattle.quantum_text.proofs.SeatsRead.{numbers_kept}
use Rattle.quantum_text.proofs.shares.take_seats.Goals as goal

pub loop-row-init : goal.loop-row-init
loop-row-init c = record { due = λ seats are. are.spelled; taken = λ seats are. refl; seated = λ k d inside. absurd (omega (arith, inside)); numbers = refl }

pub unreachable-requires : goal.unreachable-requires
unreachable-requires c =
    due_nothing seat_word IsSeat None (length c.args.rows.now) c.loop-row.row-index _ _ c.loop-row.invariant.due c.loop-row-test.true c.in_default.ensures.nothing c.requires.0 c.requires.1

pub loop-row-preserved : goal.loop-row-preserved
loop-row-preserved c =
    let all = c.loop-row.invariant in
    let users = length c.args.rows.now in
    let rows = c.loop-row.rows in
    let i = c.loop-row.row-index in
    let row = c.take_seat.new.row in
    let here : i < length rows = omega (arith, c.loop-row.auto.rows, c.loop-row-test.true) in
    record {
      due = due_more seat_word IsSeat None users i _ _ _ c.in-Some.seat all.due c.loop-row-test.true c.in-Some.ensures.seat;
      taken = λ seats are.
          ap (take (i + 1)) (map-set seat_of rows i row) ∙ ap (λ s. take (i + 1) (set (map seat_of rows) i s)) c.take_seat.ensures.seat
          ∙ taken_more None (map seat_of rows) seats i c.in-Some.seat (omega (arith, length-map rows seat_of, here)) (omega (arith, are.many, c.loop-row-test.true))
          (due_item seat_word IsSeat None users i _ _ _ c.in-Some.seat seat_word_injective all.due c.loop-row-test.true c.in-Some.ensures.seat c.in-Some.ensures.within seats are) (all.taken seats are);
      seated = subst (All IsSeated) (sym (take_more_set rows i row here)) (All-push IsSeated (take i rows) row all.seated c.take_seat.ensures.seated);
      numbers = numbers_kept rows i row _ here c.take_seat.ensures.numbers ∙ all.numbers;
    }

pub returns-clause-seats : goal.returns-clause-seats
returns-clause-seats c =
    let seats = c.requires.0 in
    let rows = c.loop-row.rows in
    let same : map seat_of rows ≡ seats =
    taken_all (map seat_of rows) seats (length c.args.rows.now) c.loop-row.row-index (length-map rows seat_of ∙ c.loop-row.auto.rows) c.requires.1.many c.loop-row-test.false (c.loop-row.invariant.taken seats c.requires.1) in
    rw same c.requires.1

pub returns-clause-seated : goal.returns-clause-seated
returns-clause-seated c =
    subst (All IsSeated) (take_all c.loop-row.row-index c.loop-row.rows (omega (arith, c.loop-row.auto.rows, c.loop-row-test.false))) c.loop-row.invariant.seated
