use Rattle.std.proofs.Common.{◌<◌, None, length, map, sym, ap, ◌∙◌, arith}
use Rattle.std.specs.List.{flat_map}
use Rattle.std.proofs.lemmas.List.{length-map, get_or-map, take_all}
use Rattle.far_io.proofs.Faults.{follows_itself, follows_on, on_error, failed_after}
use Rattle.far_io.proofs.Sends.{sends_nothing, sends_equal, sends_row, row_failed}
use Rattle.demand_book.specs.Book.{blank_row}
use Rattle.demand_book.specs.Roster.{seat_of}
use Rattle.quantum_text.specs.Shares.{seat_text}
use Rattle.quantum_text.proofs.shares.put_seats.Goals as goal

pub loop-row-init : goal.loop-row-init
loop-row-init g c = record {
  sends = sends_nothing g.O.Sink.took c.args.sink.now c.args.piece.now;
  faults = follows_itself (g.O.Sink.faults c.args.sink.now);
}

pub returns-in_err-make_room-clause-prefix : goal.returns-in_err-make_room-clause-prefix
returns-in_err-make_room-clause-prefix g c =
    on_error c.from_residual.result
    (row_failed g.O.Sink.took seat_text _ _ _ _ _ (map seat_of c.args.rows.now) c.loop-row.row-index c.loop-row.invariant.sends c.in_err-make_room.ensures.prefix)

pub returns-in_err-make_room-clause-cause : goal.returns-in_err-make_room-clause-cause
returns-in_err-make_room-clause-cause g c =
    failed_after _ _ _ c.from_residual.result c.loop-row.invariant.faults c.in_err-make_room.ensures.cause.follows c.in_err-make_room.ensures.cause.failed

pub loop-row-preserved : goal.loop-row-preserved
loop-row-preserved g c =
    let rows = c.args.rows.now in
    let i = c.loop-row.row-index in
    let here : i < length (map seat_of rows) = omega (arith, length-map rows seat_of, c.loop-row-test.true) in
    record {
      sends = sends_row g.O.Sink.took seat_text _ _ _ _ _ _ _ (map seat_of rows) i None c.row_seat.result c.loop-row.invariant.sends c.in_ok-make_room.ensures.sends c.push_seat.ensures
          (c.row_seat.ensures ∙ sym (get_or-map seat_of rows i blank_row None c.loop-row-test.true)) here;
      faults = follows_on _ _ _ c.loop-row.invariant.faults c.in_ok-make_room.ensures.cause.follows;
    }

pub returns-clause-sends : goal.returns-clause-sends
returns-clause-sends g c =
    let rows = c.args.rows.now in
    sends_equal g.O.Sink.took _ _ _ _ _ _ (ap (flat_map seat_text) (take_all c.loop-row.row-index (map seat_of rows) (omega (arith, length-map rows seat_of, c.loop-row-test.false)))) c.loop-row.invariant.sends
