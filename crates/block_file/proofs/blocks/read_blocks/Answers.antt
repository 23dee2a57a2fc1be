use Rattle.std.proofs.Common.{◌≡◌, ◌+◌, ◌-◌, ◌/◌, ◌%◌, ◌<◌, ◌≤◌, length, take, drop, get_or, sym, ap, ◌∙◌, subst, arith, length-take, length-drop, is_some, Err}
use Rattle.std.specs.Prelude.{IsTrue}
use Rattle.std.proofs.lemmas.List.{take_all}
use Rattle.std.proofs.lemmas.Result.{err_from_is_err_and}
use Rattle.far_io.proofs.Faults.{follows_on}
use Rattle.shelf_link.specs.Told.{Told}
use Rattle.block_seats.specs.Purses.{place_of}
use Rattle.block_seats.specs.Seatings.{SeatingView, HasBlock, length_at}
use Rattle.block_home.specs.Homes.{HomeView}
use Rattle.block_home.specs.Calls.{IsPart}
use Rattle.block_list.specs.Ends.{NamesBlock}
use Rattle.block_list.proofs.Ended.{names_one}
use Rattle.block_list.proofs.Named.{holds_as, part_as}
use Rattle.block_file.proofs.Reading.{block_inside, block_there, part_within, read_more, place_between}
use Rattle.block_file.proofs.blocks.read_blocks.Goals as goal

pub read-requires-clause-there : goal.read-requires-clause-there
read-requires-clause-there g c =
    let start = c.args.home.now.seats in
    let blocks = c.args.blocks.now in
    let l = c.loop-done in
    let at = c.args.from + l.done in
    let same_length = l.auto.out in
    let size_is : c.from-size.result ≡ start.size = c.from-size.ensures ∙ c.size.ensures.value in
    let seats_is : l.home.seats ≡ start = ap (λ (h : HomeView g.row.K.Denot). h.seats) l.invariant.rest in
    let inside : at < c.args.used = let all = c.requires.within (omega arith) in omega arith in
    subst (λ n. HasBlock l.home.seats (get_or blocks (at / n) 0)) (sym size_is)
    (subst (λ (s : SeatingView). HasBlock s (get_or blocks (at / start.size) 0)) (sym seats_is) (block_there start c.args.used blocks c.requires.sound c.size.ensures.some at inside))

pub read-requires-clause-within : goal.read-requires-clause-within
read-requires-clause-within g c =
    let start = c.args.home.now.seats in
    let blocks = c.args.blocks.now in
    let l = c.loop-done in
    let end = c.min-end.result in
    let at = c.args.from + l.done in
    let size_is : c.from-size.result ≡ start.size = c.from-size.ensures ∙ c.size.ensures.value in
    let at_is : at % c.from-size.result ≡ at % start.size = ap (λ s. at % s) size_is in
    let seats_is : l.home.seats ≡ start = ap (λ (h : HomeView g.row.K.Denot). h.seats) l.invariant.rest in
    let same_length = l.auto.out in
    let some : 0 < start.size = c.size.ensures.some in
    let ends = c.min-end.ensures in
    let more : 0 < end - l.done = omega arith in
    let fits : at % start.size + (end - l.done) ≤ start.size = omega arith in
    let many : length (take (end - l.done) (drop l.done l.out)) ≡ end - l.done = omega (arith, length-take (end - l.done) (drop l.done l.out), length-drop l.done l.out) in
    let inside : at + (end - l.done) ≤ c.args.used = let all = c.requires.within (omega arith) in omega arith in
    let block_is : length_at l.home.seats (get_or blocks (at / c.from-size.result) 0) ≡ length_at start (get_or blocks (at / start.size) 0) = λ i. length_at (seats_is i) (get_or blocks (at / size_is i) 0) in
    let whole = part_within start c.args.used blocks c.requires.sound some at (end - l.done) fits inside more in
    omega arith

pub loop-done-preserved : goal.loop-done-preserved
loop-done-preserved g c =
    let home = c.args.home.now in
    let start = c.args.home.now.seats in
    let blocks = c.args.blocks.now in
    let l = c.loop-done in
    let end = c.min-end.result in
    let at = c.args.from + l.done in
    let told = g.K.Shelf.told in
    let faults = g.K.Shelf.faults in
    let read = c.in_ok-read.ensures in
    let now = c.read.new.self in
    let size_is : c.from-size.result ≡ start.size = c.from-size.ensures ∙ c.size.ensures.value in
    let at_is : at % c.from-size.result ≡ at % start.size = ap (λ s. at % s) size_is in
    let seats_is : l.home.seats ≡ start = ap (λ (h : HomeView g.row.K.Denot). h.seats) l.invariant.rest in
    let user_is : l.home.user ≡ home.user = ap (λ (h : HomeView g.row.K.Denot). h.user) l.invariant.rest in
    let same_length = l.auto.out in
    let some : 0 < start.size = c.size.ensures.some in
    let ends = c.min-end.ensures in
    let more : l.done < end = omega arith in
    let within : end ≤ length l.out = omega arith in
    let fits : at % start.size + (end - l.done) ≤ start.size = omega arith in
    let many : length (take (end - l.done) (drop l.done l.out)) ≡ end - l.done = omega (arith, length-take (end - l.done) (drop l.done l.out), length-drop l.done l.out) in
    let inside : at < c.args.used = let all = c.requires.within (omega arith) in omega arith in
    let part : IsPart home.user (get_or blocks (at / start.size) 0) (at % start.size) c.read.new.out (told home.shelf) start.blocks =
    part_as l.home.user home.user (get_or blocks (at / start.size) 0) (at % start.size) c.read.new.out (told l.home.shelf) (told home.shelf) l.home.seats.blocks start.blocks user_is l.invariant.told (ap (λ (s : SeatingView). s.blocks) seats_is)
    (subst (λ n. IsPart l.home.user (get_or blocks (at / n) 0) (at % n) c.read.new.out (told l.home.shelf) l.home.seats.blocks) size_is read.bytes) in
    record {
      within = omega arith;
      rest = read.rest ∙ (λ i. record (l.invariant.rest i) { shelf = now.shelf });
      told = read.told ∙ l.invariant.told;
      follows = follows_on (faults home.shelf) (faults l.home.shelf) (faults now.shelf) l.invariant.follows read.cause.follows;
      so_far = λ m bytes holds used_is held.
          read_more (told home.shelf) home.user start blocks bytes m holds held c.args.from l.done end l.out c.read.new.out (omega arith) within fits
          (block_inside start c.args.used blocks c.requires.sound some at inside) (l.invariant.so_far m bytes holds used_is held) part (c.read.auto.out ∙ many);
      present = λ v place above below away.
          place_between start.size c.args.from l.done end place some fits below
          (λ before. l.invariant.present v place above before away)
          (λ same. let clash = read.void (subst (λ (t : Told). IsTrue t.void) (sym l.invariant.told) v)
          ((λ i. place_of (seats_is i).purse (get_or blocks (at / size_is i) 0)) ∙ ap (λ n. place_of start.purse (get_or blocks n 0)) (sym same) ∙ away) in cc);
    }

pub returns-clause-bytes : goal.returns-clause-bytes
returns-clause-bytes g c = λ m bytes holds used_is held.
    let l = c.loop-done in
    let same_length = l.auto.out in
    let within = l.invariant.within in
    let all : l.done ≡ length c.args.out.now = omega arith in
    sym (take_all l.done l.out (omega arith)) ∙ l.invariant.so_far m bytes holds used_is held ∙ ap (λ n. take n (drop c.args.from bytes)) all

pub returns-clause-void : goal.returns-clause-void
returns-clause-void g c = λ v reads.
    let l = c.loop-done in
    let within = l.invariant.within in
    let same_length = l.auto.out in
    absurd (l.invariant.present v reads.at reads.above (let below = reads.below in omega arith) reads.away)

pub returns-in_err-read-clause-names : goal.returns-in_err-read-clause-names
returns-in_err-read-clause-names g c =
    let start = c.args.home.now.seats in
    let blocks = c.args.blocks.now in
    let l = c.loop-done in
    let at = c.args.from + l.done in
    let same_length = l.auto.out in
    let size_is : c.from-size.result ≡ start.size = c.from-size.ensures ∙ c.size.ensures.value in
    let seats_is : l.home.seats ≡ start = ap (λ (h : HomeView g.row.K.Denot). h.seats) l.invariant.rest in
    let inside : at < c.args.used = let all = c.requires.within (omega arith) in omega arith in
    let e = err_from_is_err_and c.from_residual.result c.from_residual.ensures.1 in
    rw (e.1, e.2)
    (subst (λ (s : SeatingView). NamesBlock {T = Unit {0}} s blocks (Err c.in_err-read.field-0.0)) seats_is
    (names_one (g.K.Shelf.told l.home.shelf) l.home.user l.home.seats blocks (at / c.from-size.result) (Err c.in_err-read.field-0.0)
    (subst (λ n. at / n < length blocks) (sym size_is) (block_inside start c.args.used blocks c.requires.sound c.size.ensures.some at inside)) c.in_err-read.ensures.sound c.in_err-read.ensures.away))

pub returns-in_err-read-clause-telling : goal.returns-in_err-read-clause-telling
returns-in_err-read-clause-telling g c = λ tells m holds.
    let home = c.args.home.now in
    let l = c.loop-done in
    let told = g.K.Shelf.told in
    let seats_is : l.home.seats ≡ home.seats = ap (λ (h : HomeView g.row.K.Denot). h.seats) l.invariant.rest in
    let user_is : l.home.user ≡ home.user = ap (λ (h : HomeView g.row.K.Denot). h.user) l.invariant.rest in
    let at = c.in_err-read.ensures.sound in
    let e = err_from_is_err_and c.from_residual.result c.from_residual.ensures.1 in
    rw (e.1, e.2)
    (at.telling (subst (λ (t : Told). IsTrue (is_some t.content)) (sym l.invariant.told) tells) m
    (holds_as m (told home.shelf) (told l.home.shelf) home.user l.home.user home.seats.blocks l.home.seats.blocks (sym l.invariant.told) (sym user_is) (ap (λ (s : SeatingView). s.blocks) (sym seats_is)) holds))
