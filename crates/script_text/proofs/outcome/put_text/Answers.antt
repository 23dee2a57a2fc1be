use Rattle.std.proofs.Common.{[], ◌∷◌, append_assoc}
use Rattle.far_io.specs.Escapes.{escaped}
use Rattle.far_io.proofs.Faults.{on_error}
use Rattle.far_io.proofs.Sends.{sends_more, held_more, prefix_after, prefix_longer, prefix_equal}
use Rattle.script_text.proofs.outcome.put_text.Goals as goal

pub returns-in_err-push_escaped-clause-prefix : goal.returns-in_err-push_escaped-clause-prefix
returns-in_err-push_escaped-clause-prefix g c =
    let text = escaped c.args.bytes.now in
    on_error c.from_residual.result
    (prefix_equal g.O.Sink.took _ _ _ _ (append_assoc c.args.piece.now text (10 ∷ [])) (prefix_longer g.O.Sink.took _ _ _ (10 ∷ []) c.in_err-push_escaped.ensures.prefix))

pub returns-in_err-make_room-clause-prefix : goal.returns-in_err-make_room-clause-prefix
returns-in_err-make_room-clause-prefix g c =
    on_error c.from_residual-in_err-make_room.result
    (prefix_after g.O.Sink.took _ _ _ _ _ (escaped c.args.bytes.now) (10 ∷ []) c.in_ok-push_escaped.ensures.sends (prefix_longer g.O.Sink.took _ _ _ (10 ∷ []) c.in_err-make_room.ensures.prefix))

pub returns-clause-sends : goal.returns-clause-sends
returns-clause-sends g c =
    sends_more g.O.Sink.took _ _ _ _ _ _ (escaped c.args.bytes.now) (10 ∷ []) c.in_ok-push_escaped.ensures.sends
    (held_more g.O.Sink.took _ _ _ _ _ (10 ∷ []) c.in_ok-make_room.ensures.sends c.push.ensures)
