use Rattle.std.proofs.Common.{◌≡◌, ◌∷◌, [], ◌++◌, get_or, ap, sym, ◌∙◌, arith}
use Rattle.std.specs.Fmt.{decimal}
use Rattle.far_io.proofs.Faults.{follows_itself, follows_on}
use Rattle.far_io.proofs.Sends.{sends_nothing, sends_equal, sends_number, prefix_number, spaced_none}
use Rattle.quantum_text.specs.LineKind.{numbers_of}
use Rattle.far_io.proofs.Faults.{on_error, failed_after}
use Rattle.quantum_text.proofs.write.put_numbers.Goals as goal

pub loop-index-init : goal.loop-index-init
loop-index-init g c = record {
  sends = sends_equal g.O.Sink.took _ _ _ _ _ _ (sym spaced_none) (sends_nothing g.O.Sink.took c.args.sink.now c.args.piece.now);
  faults = follows_itself (g.O.Sink.faults c.args.sink.now);
}

pub returns-in_err-make_room-clause-prefix : goal.returns-in_err-make_room-clause-prefix
returns-in_err-make_room-clause-prefix g c =
    on_error c.from_residual.result
    (prefix_number g.O.Sink.took _ _ _ _ _ (numbers_of c.args.kind c.args.report.now) c.loop-index.index c.loop-index.invariant.sends c.in_err-make_room.ensures.prefix)

pub returns-in_err-make_room-clause-cause : goal.returns-in_err-make_room-clause-cause
returns-in_err-make_room-clause-cause g c =
    failed_after _ _ _ c.from_residual.result c.loop-index.invariant.faults c.in_err-make_room.ensures.cause.follows c.in_err-make_room.ensures.cause.failed

pub loop-index-preserved : goal.loop-index-preserved
loop-index-preserved g c =
    let all = c.loop-index.invariant in
    let numbers = numbers_of c.args.kind c.args.report.now in
    let grows : c.push_decimal.new.piece ≡ (c.make_room.new.piece ++ 32 ∷ []) ++ decimal (get_or numbers c.loop-index.index 0) =
    c.push_decimal.ensures.text ∙ ap (λ t. t ++ decimal c.number.result) c.push.ensures
    ∙ ap (λ n. (c.make_room.new.piece ++ 32 ∷ []) ++ decimal n) c.number.ensures in
    record {
      sends = sends_number g.O.Sink.took _ _ _ _ _ _ _ numbers c.loop-index.index all.sends c.in_ok-make_room.ensures.sends grows (omega (arith, c.count-index-end.ensures.numbers, c.loop-index-test.true));
      faults = follows_on _ _ _ all.faults c.in_ok-make_room.ensures.cause.follows;
    }
