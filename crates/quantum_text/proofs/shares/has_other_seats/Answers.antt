use Rattle.std.proofs.Common.{None, length, map, refl, sym}
use Rattle.std.proofs.lemmas.List.{length-map}
use Rattle.demand_book.specs.Roster.{seat_of}
use Rattle.quantum_text.specs.Shares.{seat_word, IsSeat}
use Rattle.quantum_text.proofs.Items.{due_nothing, due_more, taken_all}
use Rattle.quantum_text.proofs.SeatsRead.{is_other, same_more}
use Rattle.quantum_text.proofs.shares.has_other_seats.Goals as goal

pub loop-row-init : goal.loop-row-init
loop-row-init c = record { due = λ seats are. are.spelled; same = λ seats are. refl }

pub unreachable-requires : goal.unreachable-requires
unreachable-requires c =
    due_nothing seat_word IsSeat None (length c.args.rows.now) c.loop-row.row-index _ _ c.loop-row.invariant.due c.loop-row-test.true c.in_default.ensures.nothing c.requires.0 c.requires.1

pub returns-then-not-has_seat-clause-others : goal.returns-then-not-has_seat-clause-others
returns-then-not-has_seat-clause-others c seats are =
    is_other c.args.rows.now c.loop-row.row-index _ _ _ _ c.in-Some.seat c.loop-row.invariant.due c.loop-row-test.true c.in-Some.ensures.seat c.in-Some.ensures.within c.has_seat.result c.has_seat.ensures c.if-not-has_seat.true seats are

pub loop-row-preserved : goal.loop-row-preserved
loop-row-preserved c = record {
  due = due_more seat_word IsSeat None (length c.args.rows.now) c.loop-row.row-index _ _ _ c.in-Some.seat c.loop-row.invariant.due c.loop-row-test.true c.in-Some.ensures.seat;
  same = λ seats are.
      same_more c.args.rows.now c.loop-row.row-index _ _ _ _ c.in-Some.seat c.loop-row.invariant.due c.loop-row-test.true c.in-Some.ensures.seat c.in-Some.ensures.within c.has_seat.result c.has_seat.ensures c.if-not-has_seat.false seats are
      (c.loop-row.invariant.same seats are);
}

pub returns-clause-same : goal.returns-clause-same
returns-clause-same c seats are =
    sym (taken_all (map seat_of c.args.rows.now) seats (length c.args.rows.now) c.loop-row.row-index (length-map c.args.rows.now seat_of) are.many c.loop-row-test.false (c.loop-row.invariant.same seats are))
