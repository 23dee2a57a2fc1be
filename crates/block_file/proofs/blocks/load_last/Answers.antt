use Rattle.std.proofs.Common.{◌≢◌, ◌%◌, ◌<◌, ap, ◌∙◌, arith}
use Rattle.block_list.proofs.Coming.{seated_or}
use Rattle.block_list.proofs.Ended.{ok_map, err_map}
use Rattle.block_file.proofs.Last.{room_last, last_came, last_left, last_others, needed_away, away_needed}
use Rattle.block_file.proofs.blocks.load_last.Goals as goal

pub load-requires-clause-room : goal.load-requires-clause-room
load-requires-clause-room g c =
    let seats = c.args.home.now.seats in
    let blocks = c.args.blocks.now in
    let nonzero = c.if-more-eq0.false in
    let some : 0 < c.args.more = omega arith in
    let over : c.args.used % seats.size ≢ 0 = λ whole. c.if-used-size-eq0.false (ap (λ s. c.args.used % s) (c.from-size.ensures ∙ c.size.ensures.value) ∙ whole) in
    seated_or seats _ (room_last seats c.args.used blocks c.args.more c.requires.sound c.size.ensures.some some over c.requires.room)

pub returns-clause-came : goal.returns-clause-came
returns-clause-came g c =
    let seats = c.args.home.now.seats in
    let blocks = c.args.blocks.now in
    let nonzero = c.if-more-eq0.false in
    let some : 0 < c.args.more = omega arith in
    let over : c.args.used % seats.size ≢ 0 = λ whole. c.if-used-size-eq0.false (ap (λ s. c.args.used % s) (c.from-size.ensures ∙ c.size.ensures.value) ∙ whole) in
    ok_map c.load.result (last_came seats c.args.used blocks c.args.more c.requires.sound c.size.ensures.some some over c.load.new.self.seats) c.load.ensures.placed

pub returns-clause-left : goal.returns-clause-left
returns-clause-left g c =
    let seats = c.args.home.now.seats in
    let blocks = c.args.blocks.now in
    let nonzero = c.if-more-eq0.false in
    let some : 0 < c.args.more = omega arith in
    let over : c.args.used % seats.size ≢ 0 = λ whole. c.if-used-size-eq0.false (ap (λ s. c.args.used % s) (c.from-size.ensures ∙ c.size.ensures.value) ∙ whole) in
    ok_map c.load.result (last_left seats c.args.used blocks c.args.more c.requires.sound c.size.ensures.some some over c.load.new.self.seats) c.load.ensures.placed

pub returns-clause-others : goal.returns-clause-others
returns-clause-others g c =
    let seats = c.args.home.now.seats in
    let blocks = c.args.blocks.now in
    let nonzero = c.if-more-eq0.false in
    let some : 0 < c.args.more = omega arith in
    let over : c.args.used % seats.size ≢ 0 = λ whole. c.if-used-size-eq0.false (ap (λ s. c.args.used % s) (c.from-size.ensures ∙ c.size.ensures.value) ∙ whole) in
    last_others seats c.args.used blocks c.args.more c.requires.sound c.size.ensures.some some over c.load.new.self.seats c.load.result c.load.ensures.placed c.load.ensures.same

pub returns-clause-void : goal.returns-clause-void
returns-clause-void g c = λ v needed.
    let seats = c.args.home.now.seats in
    let blocks = c.args.blocks.now in
    let nonzero = c.if-more-eq0.false in
    let some : 0 < c.args.more = omega arith in
    let over : c.args.used % seats.size ≢ 0 = λ whole. c.if-used-size-eq0.false (ap (λ s. c.args.used % s) (c.from-size.ensures ∙ c.size.ensures.value) ∙ whole) in
    c.load.ensures.void v (needed_away seats c.args.used blocks c.args.more c.requires.sound c.size.ensures.some some over needed)

pub returns-clause-needed : goal.returns-clause-needed
returns-clause-needed g c =
    let seats = c.args.home.now.seats in
    let blocks = c.args.blocks.now in
    let nonzero = c.if-more-eq0.false in
    let some : 0 < c.args.more = omega arith in
    let over : c.args.used % seats.size ≢ 0 = λ whole. c.if-used-size-eq0.false (ap (λ s. c.args.used % s) (c.from-size.ensures ∙ c.size.ensures.value) ∙ whole) in
    err_map c.load.result (away_needed seats c.args.used blocks c.args.more c.requires.sound c.size.ensures.some some over) c.load.ensures.away
