use Rattle.std.proofs.Common.{◌∷◌, [], ◌++◌, map, codes, refl, sym, ◌∙◌, ap, append-nil}
use Rattle.std.specs.List.{flat_map}
use Rattle.far_io.proofs.Faults.{on_error}
use Rattle.far_io.proofs.Sends.{sends_more, sends_equal, held_more, fault_within}
use Rattle.demand_book.specs.Roster.{seat_of}
use Rattle.quantum_text.specs.Shares.{seat_text, shares_text, ended_shares}
use Rattle.quantum_text.proofs.shares.put_shares_line.Goals as goal

pub returns-in_err-put_seats-clause-prefix : goal.returns-in_err-put_seats-clause-prefix
unfolding shares_text ended_shares
returns-in_err-put_seats-clause-prefix g c =
    let word = codes "shares" in
    let seats = flat_map seat_text (map seat_of c.args.report.now.rows) in
    let begun = held_more g.O.Sink.took _ _ _ _ _ word c.in_ok-make_room.ensures.sends c.push_all.ensures in
    on_error c.from_residual-in_err-put_seats.result
    (fault_within g.O.Sink.took _ _ _ _ _ word seats (10 ∷ []) _ _ begun c.in_err-put_seats.ensures.prefix (ap (λ rows. c.push_all.new.self ++ flat_map seat_text (map seat_of rows)) c.items.ensures) refl)

pub returns-in_err-make_room-2-clause-prefix : goal.returns-in_err-make_room-2-clause-prefix
unfolding shares_text ended_shares
returns-in_err-make_room-2-clause-prefix g c =
    let word = codes "shares" in
    let seats = flat_map seat_text (map seat_of c.items.result.now) in
    let begun = held_more g.O.Sink.took _ _ _ _ _ word c.in_ok-make_room.ensures.sends c.push_all.ensures in
    let put = sends_more g.O.Sink.took _ _ _ _ _ _ word seats begun c.in_ok-put_seats.ensures.sends in
    on_error c.from_residual-in_err-make_room-2.result
    (fault_within g.O.Sink.took _ _ _ _ c.put_seats.new.piece (word ++ seats) [] (10 ∷ []) _ _ put c.in_err-make_room-2.ensures.prefix (sym (append-nil c.put_seats.new.piece))
    (ap (λ rows. (word ++ flat_map seat_text (map seat_of rows)) ++ 10 ∷ []) (sym c.items.ensures) ∙ ap (λ t. t ++ 10 ∷ []) (sym (append-nil (word ++ seats)))))

pub returns-clause-sends : goal.returns-clause-sends
unfolding shares_text ended_shares
returns-clause-sends g c =
    let word = codes "shares" in
    let seats = flat_map seat_text (map seat_of c.items.result.now) in
    let begun = held_more g.O.Sink.took _ _ _ _ _ word c.in_ok-make_room.ensures.sends c.push_all.ensures in
    let put = sends_more g.O.Sink.took _ _ _ _ _ _ word seats begun c.in_ok-put_seats.ensures.sends in
    let end = held_more g.O.Sink.took _ _ _ _ _ (10 ∷ []) c.in_ok-make_room-2.ensures.sends c.push.ensures in
    sends_equal g.O.Sink.took _ _ _ _ _ _ (ap (λ rows. (word ++ flat_map seat_text (map seat_of rows)) ++ 10 ∷ []) c.items.ensures) (sends_more g.O.Sink.took _ _ _ _ _ _ (word ++ seats) (10 ∷ []) put end)
