use Rattle.std.proofs.Common.{◌≡◌, ◌≢◌, List, Option, length, map, sym, ◌∙◌, ap, subst}
use Rattle.std.specs.Option.{option_copied}
use Rattle.std.proofs.lemmas.List.{length-map}
use Rattle.far_io.specs.Words.{words_after}
use Rattle.karma_rule.specs.declared.row.Row.{Row}
use Rattle.karma_rule.specs.declared.row.Share.{Share}
use Rattle.demand_book.specs.Roster.{seat_of}
use Rattle.quantum_text.specs.LineKind.{without_seat}
use Rattle.quantum_text.specs.Shares.{roster_of, AreSeats, SeatsTogether, IsSharesLine}
use Rattle.quantum_text.proofs.LineWords.{told_apart, told_same}
use Rattle.quantum_text.proofs.SeatsRead.{other_word, no_seats, too_many, same_roster, its_roster, rows_stand, refilled, roster_changes}
use Rattle.quantum_text.proofs.shares.parse_shares_line.Goals as goal

pub returns-then-ne-clause-bad : goal.returns-then-ne-clause-bad
returns-then-ne-clause-bad c = other_word c.args.shape _ _ _ _ c.split_word.ensures.words (told_apart _ _ c.ne.result c.ne.ensures c.if-ne.true)

pub returns-in_default-clause-bad : goal.returns-in_default-clause-bad
returns-in_default-clause-bad c =
    no_seats c.args.shape _ _ _ _ c.split_word.ensures.words (length c.items.result.now) (ap length c.items.ensures ∙ sym (length-map c.args.report.now.rows seat_of)) c.in_default.ensures.none

pub returns-then-total-from-clause-bad : goal.returns-then-total-from-clause-bad
returns-then-total-from-clause-bad c =
    let above = rw (c.from.ensures, c.from-2.ensures) at c.if-total-from.true in
    too_many c.args.shape _ _ _ _ c.split_word.ensures.words (length c.items.result.now) c.in-Some.total (ap length c.items.ensures ∙ sym (length-map c.args.report.now.rows seat_of)) c.in-Some.ensures.seats above

pub returns-then-not-has_other_seats-clause-bad : goal.returns-then-not-has_other_seats-clause-bad
returns-then-not-has_other_seats-clause-bad c =
    same_roster c.args.shape _ _ _ _ c.split_word.ensures.words (length c.items-2.result.now) (ap length c.items-2.ensures ∙ sym (length-map c.args.report.now.rows seat_of))
    (λ seats are. c.if-not-has_other_seats.ensures.same seats are ∙ ap (map seat_of) c.items-2.ensures)

pub returns-clause-good : goal.returns-clause-good
returns-clause-good c =
    let rows = c.args.report.now.rows in
    let new = c.take_seats.new.rows in
    let words = words_after (option_copied c.split_word.result.1) in
    let long : length new ≡ length rows = rows_stand c.items_mut.result.now new c.take_seats.ensures.numbers ∙ ap length c.items_mut.ensures.value in
    let within = rw (c.from.ensures, c.from-2.ensures) at c.if-total-from.false in
    let seats : SeatsTogether (length rows) words c.in-Some.total = subst (λ (r : List Row). SeatsTogether (length r) words c.in-Some.total) c.items.ensures c.in-Some.ensures.seats in
    let another : (seats : List (Option Share)) → AreSeats (length rows) words seats → seats ≢ map seat_of rows =
    subst (λ (r : List Row). (seats : List (Option Share)) → AreSeats (length r) words seats → seats ≢ map seat_of r) c.items-2.ensures c.if-not-has_other_seats.ensures.others in
    let are : AreSeats (length rows) words (map seat_of new) = subst (λ (r : List Row). AreSeats (length r) words (map seat_of new)) c.items_mut.ensures.value c.take_seats.ensures.seats in
    subst (λ (r : List Row). IsSharesLine c.args.shape (roster_of c.args.report.now) c.args.line.now (map seat_of r)) (sym (refilled rows new long))
    (its_roster c.args.shape (roster_of c.args.report.now) c.args.line.now _ words c.split_word.ensures.words (length rows) c.in-Some.total (map seat_of new) (sym (length-map rows seat_of))
    (told_same _ _ c.ne.result c.ne.ensures c.if-ne.false) seats within another are)

pub returns-clause-others : goal.returns-clause-others
returns-clause-others c =
    roster_changes c.args.report.now c.take_seats.new.rows (c.take_seats.ensures.numbers ∙ ap (map without_seat) c.items_mut.ensures.value) c.take_seats.ensures.seated
