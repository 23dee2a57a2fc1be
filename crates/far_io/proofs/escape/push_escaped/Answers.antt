use Rattle.std.proofs.Common.{◌≡◌, ◌<◌, [], ◌∷◌, ◌++◌, length, get_or, refl, sym, ◌∙◌, ap, arith}
use Rattle.std.specs.List.{flat_map}
use Rattle.std.proofs.lemmas.List.{take_all}
use Rattle.far_io.specs.Escapes.{escaped_byte}
use Rattle.far_io.proofs.Escapes.{escaped_flat, escaped_empty}
use Rattle.far_io.proofs.Faults.{on_error, follows_on}
use Rattle.far_io.proofs.Sends.{sends_equal, held_more, prefix_equal, sends_row, row_failed}
use Rattle.far_io.proofs.escape.push_escaped.Goals as goal

pub returns-then-is_empty-clause-sends : goal.returns-then-is_empty-clause-sends
returns-then-is_empty-clause-sends g c =
    let empty : length c.args.bytes.now ≡ 0 = grind (arith, c.is_empty.ensures, c.if-is_empty.true) in
    sends_equal g.O.Sink.took _ _ _ _ _ _ (sym (escaped_empty c.args.bytes.now empty))
    (held_more g.O.Sink.took _ _ _ _ _ (37 ∷ []) c.in_ok-make_room.ensures.sends c.push.ensures)

pub returns-in_err-make_room-2-clause-prefix : goal.returns-in_err-make_room-2-clause-prefix
returns-in_err-make_room-2-clause-prefix g c =
    let bytes = c.args.bytes.now in
    let here : c.loop-byte.byte-index < length bytes = c.loop-byte-test.true in
    on_error c.from_residual-in_err-make_room-2.result
    (prefix_equal g.O.Sink.took _ _ (c.args.piece.now ++ flat_map escaped_byte bytes) _ (ap (λ t. c.args.piece.now ++ t) (escaped_flat bytes (omega arith)))
    (row_failed g.O.Sink.took escaped_byte _ _ _ _ _ bytes c.loop-byte.byte-index c.loop-byte.invariant.sends c.in_err-make_room-2.ensures.prefix))

pub loop-byte-preserved : goal.loop-byte-preserved
loop-byte-preserved g c =
    let bytes = c.args.bytes.now in
    let i = c.loop-byte.byte-index in
    record {
      sends = sends_row g.O.Sink.took escaped_byte _ _ _ _ _ _ _ bytes i 0 (get_or bytes i 0) c.loop-byte.invariant.sends c.in_ok-make_room-2.ensures.sends c.push_byte.ensures refl c.loop-byte-test.true;
      faults = follows_on _ _ _ c.loop-byte.invariant.faults c.in_ok-make_room-2.ensures.cause.follows;
    }

pub returns-clause-sends : goal.returns-clause-sends
returns-clause-sends g c =
    let bytes = c.args.bytes.now in
    let some : 0 < length bytes = grind (arith, c.is_empty.ensures, c.if-is_empty.false) in
    sends_equal g.O.Sink.took _ _ _ _ _ _
    (ap (flat_map escaped_byte) (take_all c.loop-byte.byte-index bytes c.loop-byte-test.false) ∙ escaped_flat bytes some) c.loop-byte.invariant.sends
