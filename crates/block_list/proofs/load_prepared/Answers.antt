use Rattle.std.proofs.Common.{◌≡◌, is_some, length, get_or, sym, ap, ◌∙◌, subst, arith, [], ◌∷◌, Err, lit<}
use Rattle.std.specs.Prelude.{IsTrue}
use Rattle.std.proofs.lemmas.Result.{err_from_is_err_and}
use Rattle.far_io.proofs.Faults.{follows_on}
use Rattle.shelf_link.specs.Told.{Told}
use Rattle.block_seats.specs.Seatings.{SeatingView}
use Rattle.block_home.specs.Homes.{HomeView}
use Rattle.block_home.specs.Holding.{Holds}
use Rattle.std.proofs.lemmas.List.{take_all}
use Rattle.block_list.specs.Lists.{parked_of, KeepsOthers}
use Rattle.block_list.specs.Growth.{ComeIn}
use Rattle.block_list.proofs.Ended.{on_err, names_one, names_first, causes_later}
use Rattle.block_list.proofs.Going.{lengths_then, others_of}
use Rattle.block_list.proofs.Coming.{loading_place, loading_find, loading-more, loading-stopped, loading_room, seated_or, still_seated}
use Rattle.block_list.proofs.load_prepared.Goals as goal

pub load-requires-clause-there : goal.load-requires-clause-there
load-requires-clause-there g c =
    let blocks = c.args.blocks.now in
    let i = c.loop-block.block-index in
    c.loop-block.invariant.loading.lengths.there (get_or blocks i 0) ∙ c.requires.there.each i c.loop-block-test.true

pub load-requires-clause-room : goal.load-requires-clause-room
load-requires-clause-room g c =
    let l = c.loop-block in
    seated_or l.home.seats (get_or c.args.blocks.now l.block-index 0)
    (loading_room c.args.home.now.seats c.args.blocks.now c.requires.there.distinct l.home.seats l.block-index l.invariant.loading c.loop-block-test.true)

pub loop-block-preserved : goal.loop-block-preserved
loop-block-preserved g c =
    let start = c.args.home.now in
    let blocks = c.args.blocks.now in
    let l = c.loop-block in
    let i = l.block-index in
    let load = c.in_ok-load.ensures in
    let now = c.load.new.self in
    let told = g.K.Shelf.told in
    let faults = g.K.Shelf.faults in
    let user_is : l.home.user ≡ start.user = ap (λ (h : HomeView g.row.K.Denot). h.user) l.invariant.rest in
    record {
      rest = load.rest ∙ (λ j. record (l.invariant.rest j) { seats = now.seats; shelf = now.shelf });
      loading = loading-more start.seats blocks c.requires.there.distinct l.home.seats i l.invariant.loading c.loop-block-test.true now.seats load.placed load.lengths;
      told = load.told ∙ l.invariant.told;
      follows = follows_on (faults start.shelf) (faults l.home.shelf) (faults now.shelf) l.invariant.follows load.cause.follows;
      holds = λ m holds. subst (λ u. Holds m (told now.shelf) u now.seats.blocks) user_is (load.holds m (subst (λ u. Holds m (told l.home.shelf) u l.home.seats.blocks) (sym user_is) (l.invariant.holds m holds)));
      seated = λ v. still_seated start.seats blocks c.requires.there.distinct l.home.seats i l.invariant.loading c.loop-block-test.true
          (λ none. let clash = load.void (subst (λ (t : Told). IsTrue t.void) (sym l.invariant.told) v) none in cc) (l.invariant.seated v);
    }

pub returns-in_err-load-clause-err : goal.returns-in_err-load-clause-err
returns-in_err-load-clause-err g c =
    let l = c.loop-block in
    let e = err_from_is_err_and c.from_residual.result c.from_residual.ensures.1 in
    on_err c.from_residual.result e.0 e.1
    (loading-stopped c.args.home.now.seats c.args.blocks.now c.requires.there.distinct l.home.seats l.block-index l.invariant.loading c.loop-block-test.true c.load.new.self.seats c.in_err-load.ensures.same)

pub returns-in_err-load-clause-lengths : goal.returns-in_err-load-clause-lengths
returns-in_err-load-clause-lengths g c = lengths_then c.args.home.now.seats c.loop-block.home.seats c.load.new.self.seats c.loop-block.invariant.loading.lengths c.in_err-load.ensures.lengths

pub returns-in_err-load-clause-others : goal.returns-in_err-load-clause-others
returns-in_err-load-clause-others g c =
    let l = c.loop-block in
    let start = c.args.home.now.seats in
    subst (λ (s : SeatingView). KeepsOthers start.blocks s.blocks c.args.blocks.now) (sym c.in_err-load.ensures.same) (others_of start.blocks l.home.seats.blocks c.args.blocks.now l.block-index l.invariant.loading.others)

pub returns-in_err-load-clause-holds : goal.returns-in_err-load-clause-holds
returns-in_err-load-clause-holds g c = λ m holds.
    let start = c.args.home.now in
    let l = c.loop-block in
    let now = c.load.new.self in
    let told = g.K.Shelf.told in
    let user_is : l.home.user ≡ start.user = ap (λ (h : HomeView g.row.K.Denot). h.user) l.invariant.rest in
    subst (λ u. Holds m (told now.shelf) u now.seats.blocks) user_is (c.in_err-load.ensures.holds m (subst (λ u. Holds m (told l.home.shelf) u l.home.seats.blocks) (sym user_is) (l.invariant.holds m holds)))

pub returns-in_err-load-clause-cause : goal.returns-in_err-load-clause-cause
returns-in_err-load-clause-cause g c =
    let faults = g.K.Shelf.faults in
    let e = err_from_is_err_and c.from_residual.result c.from_residual.ensures.1 in
    rw (e.1, e.2)
    (causes_later (faults c.args.home.now.shelf) (faults c.loop-block.home.shelf) (faults c.load.new.self.shelf) _ c.loop-block.invariant.follows c.in_err-load.ensures.cause)

pub returns-in_err-load-clause-names : goal.returns-in_err-load-clause-names
returns-in_err-load-clause-names g c =
    let l = c.loop-block in
    let start = c.args.home.now.seats in
    let blocks = c.args.blocks.now in
    let p = l.invariant.loading in
    let e = err_from_is_err_and c.from_residual.result c.from_residual.ensures.1 in
    rw (e.1, e.2)
    (names_first start l.home.seats blocks l.block-index (Err c.in_err-load.field-0.0) c.loop-block-test.true
    (loading_place start blocks c.requires.there.distinct l.home.seats l.block-index p c.loop-block-test.true) (loading_find start blocks c.requires.there.distinct l.home.seats l.block-index p c.loop-block-test.true)
    (names_one (g.K.Shelf.told l.home.shelf) l.home.user l.home.seats (get_or blocks l.block-index 0 ∷ []) 0 (Err c.in_err-load.field-0.0) (lit< tt) c.in_err-load.ensures.sound c.in_err-load.ensures.away))

pub returns-in_err-load-clause-telling : goal.returns-in_err-load-clause-telling
returns-in_err-load-clause-telling g c = λ tells m holds.
    let start = c.args.home.now in
    let l = c.loop-block in
    let told = g.K.Shelf.told in
    let user_is : l.home.user ≡ start.user = ap (λ (h : HomeView g.row.K.Denot). h.user) l.invariant.rest in
    let at = c.in_err-load.ensures.sound in
    let e = err_from_is_err_and c.from_residual.result c.from_residual.ensures.1 in
    rw (e.1, e.2)
    (at.telling (subst (λ (t : Told). IsTrue (is_some t.content)) (sym l.invariant.told) tells) m (subst (λ u. Holds m (told l.home.shelf) u l.home.seats.blocks) (sym user_is) (l.invariant.holds m holds)))

pub returns-clause-ok : goal.returns-clause-ok
returns-clause-ok g c =
    let start = c.args.home.now.seats in
    subst (λ bs. ComeIn (parked_of start.purse bs) start c.loop-block.home.seats) (take_all c.loop-block.block-index c.args.blocks.now c.loop-block-test.false) c.loop-block.invariant.loading.comes

pub returns-clause-lengths : goal.returns-clause-lengths
returns-clause-lengths g c = c.loop-block.invariant.loading.lengths

pub returns-clause-others : goal.returns-clause-others
returns-clause-others g c = others_of c.args.home.now.seats.blocks c.loop-block.home.seats.blocks c.args.blocks.now c.loop-block.block-index c.loop-block.invariant.loading.others

pub returns-clause-holds : goal.returns-clause-holds
returns-clause-holds g c = c.loop-block.invariant.holds

pub returns-clause-void : goal.returns-clause-void
returns-clause-void g c = λ v some.
    let start = c.args.home.now.seats in
    let gone : length (parked_of start.purse c.args.blocks.now) ≡ 0 = ap (λ bs. length (parked_of start.purse bs)) (sym (take_all c.loop-block.block-index c.args.blocks.now c.loop-block-test.false)) ∙ c.loop-block.invariant.seated v in
    absurd (omega arith)
