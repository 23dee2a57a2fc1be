use Rattle.std.proofs.Common.{[], ◌∷◌, ◌++◌, ap}
use Rattle.std.proofs.lemmas.Result.{on_ok_weaker, on_err_weaker}
use Rattle.far_io.proofs.Sends.{sends_more, sends_equal, held_more, prefix_after, prefix_equal}
use Rattle.script_text.specs.Outcomes.{outcome_text}
use Rattle.script_text.proofs.Joined.{ended_begun}
use Rattle.script_text.proofs.outcome.put_outcome.Goals as goal

pub returns-in-None-clause-sends : goal.returns-in-None-clause-sends
unfolding outcome_text
returns-in-None-clause-sends g c = held_more g.O.Sink.took _ _ _ _ _ _ c.in_ok-make_room.ensures.sends c.in-None.ensures

pub returns-in-Some-clause-sends : goal.returns-in-Some-clause-sends
unfolding outcome_text
returns-in-Some-clause-sends g c =
    let put = c.in-Some.ensures in
    let begun = held_more g.O.Sink.took _ _ _ _ _ (put.word ++ 32 ∷ []) c.in_ok-make_room.ensures.sends put.put in
    on_ok_weaker c.put_text.result (λ rest. sends_equal g.O.Sink.took _ _ _ _ _ _ (ended_begun _ _ _ _ put) (sends_more g.O.Sink.took _ _ _ _ _ _ _ _ begun rest)) c.put_text.ensures.sends

pub returns-in-Some-clause-prefix : goal.returns-in-Some-clause-prefix
unfolding outcome_text
returns-in-Some-clause-prefix g c =
    let put = c.in-Some.ensures in
    let begun = held_more g.O.Sink.took _ _ _ _ _ (put.word ++ 32 ∷ []) c.in_ok-make_room.ensures.sends put.put in
    on_err_weaker c.put_text.result (λ fault. prefix_equal g.O.Sink.took _ _ _ _ (ap (λ t. c.args.piece.now ++ t) (ended_begun _ _ _ _ put)) (prefix_after g.O.Sink.took _ _ _ _ _ _ _ begun fault)) c.put_text.ensures.prefix
