use Rattle.std.proofs.Common.{◌∷◌, [], ◌++◌, refl, sym, ◌∙◌, ap, append-nil}
use Rattle.far_io.specs.Sends.{spaced}
use Rattle.far_io.proofs.Sends.{sends_more}
use Rattle.quantum_text.specs.LineKind.{word_of, numbers_of}
use Rattle.quantum_text.specs.Block.{line_text, ended_line}
use Rattle.far_io.proofs.Faults.{on_error}
use Rattle.far_io.proofs.Sends.{held_more, fault_within}
use Rattle.quantum_text.proofs.write.put_block_line.Goals as goal

pub returns-in_err-put_numbers-clause-prefix : goal.returns-in_err-put_numbers-clause-prefix
unfolding line_text ended_line
returns-in_err-put_numbers-clause-prefix g c =
    let word = word_of c.args.kind in
    let numbers = spaced (numbers_of c.args.kind c.args.report.now) in
    let begun = held_more g.O.Sink.took _ _ _ _ _ word c.in_ok-make_room.ensures.sends (c.push_all.ensures ∙ ap (λ t. c.make_room.new.piece ++ t) c.word.ensures) in
    on_error c.from_residual-in_err-put_numbers.result
    (fault_within g.O.Sink.took _ _ _ _ _ word numbers (10 ∷ []) _ _ begun c.in_err-put_numbers.ensures.prefix refl refl)

pub returns-in_err-make_room-2-clause-prefix : goal.returns-in_err-make_room-2-clause-prefix
unfolding line_text ended_line
returns-in_err-make_room-2-clause-prefix g c =
    let word = word_of c.args.kind in
    let numbers = spaced (numbers_of c.args.kind c.args.report.now) in
    let begun = held_more g.O.Sink.took _ _ _ _ _ word c.in_ok-make_room.ensures.sends (c.push_all.ensures ∙ ap (λ t. c.make_room.new.piece ++ t) c.word.ensures) in
    let put = sends_more g.O.Sink.took _ _ _ _ _ _ word numbers begun c.in_ok-put_numbers.ensures.sends in
    on_error c.from_residual-in_err-make_room-2.result
    (fault_within g.O.Sink.took _ _ _ _ c.put_numbers.new.piece (word ++ numbers) [] (10 ∷ []) _ _ put c.in_err-make_room-2.ensures.prefix (sym (append-nil c.put_numbers.new.piece)) (ap (λ t. t ++ 10 ∷ []) (sym (append-nil (word ++ numbers)))))

pub returns-clause-sends : goal.returns-clause-sends
unfolding line_text ended_line
returns-clause-sends g c =
    let word = word_of c.args.kind in
    let numbers = spaced (numbers_of c.args.kind c.args.report.now) in
    let begun = held_more g.O.Sink.took _ _ _ _ _ word c.in_ok-make_room.ensures.sends (c.push_all.ensures ∙ ap (λ t. c.make_room.new.piece ++ t) c.word.ensures) in
    let put = sends_more g.O.Sink.took _ _ _ _ _ _ word numbers begun c.in_ok-put_numbers.ensures.sends in
    let end = held_more g.O.Sink.took _ _ _ _ _ (10 ∷ []) c.in_ok-make_room-2.ensures.sends c.push.ensures in
    sends_more g.O.Sink.took _ _ _ _ _ _ (word ++ numbers) (10 ∷ []) put end
