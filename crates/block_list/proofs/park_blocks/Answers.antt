use Rattle.std.proofs.Common.{◌≡◌, get_or, sym, ap, ◌∙◌, subst}
use Rattle.std.proofs.lemmas.List.{take_all}
use Rattle.std.proofs.lemmas.Result.{err_from_is_err_and}
use Rattle.far_io.proofs.Faults.{follows_on, rose_before}
use Rattle.block_home.specs.Homes.{HomeView}
use Rattle.block_home.specs.Holding.{Holds}
use Rattle.block_list.specs.Lists.{seated_of}
use Rattle.block_list.specs.Growth.{GoOut}
use Rattle.block_list.proofs.Ended.{on_err}
use Rattle.block_list.proofs.Going.{parking-more, parking-stopped, lengths_then, kind_then, others_of, stopped_others}
use Rattle.block_list.proofs.park_blocks.Goals as goal

pub park-requires : goal.park-requires
park-requires g c =
    let blocks = c.args.blocks.now in
    let i = c.loop-block.block-index in
    let inside = c.loop-block-test.true in
    c.loop-block.invariant.parking.lengths.there (get_or blocks i 0) ∙ c.requires.each i inside

pub loop-block-preserved : goal.loop-block-preserved
loop-block-preserved g c =
    let start = c.args.home.now in
    let blocks = c.args.blocks.now in
    let l = c.loop-block in
    let i = l.block-index in
    let park = c.in_ok-park.ensures in
    let now = c.park.new.self in
    let told = g.K.Shelf.told in
    let faults = g.K.Shelf.faults in
    let user_is : l.home.user ≡ start.user = ap (λ (h : HomeView g.row.K.Denot). h.user) l.invariant.rest in
    record {
      rest = park.rest ∙ (λ j. record (l.invariant.rest j) { seats = now.seats; shelf = now.shelf });
      parking = parking-more l.home.user start.seats blocks c.requires.distinct l.home.seats i l.invariant.parking c.loop-block-test.true now.seats park.parked park.lengths;
      kind = kind_then (told start.shelf) (told l.home.shelf) (told now.shelf) l.invariant.kind park.kind;
      follows = follows_on (faults start.shelf) (faults l.home.shelf) (faults now.shelf) l.invariant.follows park.cause.follows;
      holds = λ m holds. subst (λ u. Holds m (told now.shelf) u now.seats.blocks) user_is (park.holds m (subst (λ u. Holds m (told l.home.shelf) u l.home.seats.blocks) (sym user_is) (l.invariant.holds m holds)));
    }

pub returns-in_err-park-clause-err : goal.returns-in_err-park-clause-err
returns-in_err-park-clause-err g c =
    let l = c.loop-block in
    let e = err_from_is_err_and c.from_residual.result c.from_residual.ensures.1 in
    on_err c.from_residual.result e.0 e.1
    (parking-stopped l.home.user c.args.home.now.seats c.args.blocks.now c.requires.distinct l.home.seats l.block-index l.invariant.parking c.loop-block-test.true c.park.new.self.seats c.in_err-park.ensures.stays)

pub returns-in_err-park-clause-lengths : goal.returns-in_err-park-clause-lengths
returns-in_err-park-clause-lengths g c = lengths_then c.args.home.now.seats c.loop-block.home.seats c.park.new.self.seats c.loop-block.invariant.parking.lengths c.in_err-park.ensures.lengths

pub returns-in_err-park-clause-others : goal.returns-in_err-park-clause-others
returns-in_err-park-clause-others g c =
    let l = c.loop-block in
    stopped_others c.args.home.now.seats c.args.blocks.now l.home.seats l.block-index l.invariant.parking c.loop-block-test.true c.park.new.self.seats c.in_err-park.ensures.stays

pub returns-in_err-park-clause-holds : goal.returns-in_err-park-clause-holds
returns-in_err-park-clause-holds g c = λ m holds.
    let start = c.args.home.now in
    let l = c.loop-block in
    let now = c.park.new.self in
    let told = g.K.Shelf.told in
    let user_is : l.home.user ≡ start.user = ap (λ (h : HomeView g.row.K.Denot). h.user) l.invariant.rest in
    subst (λ u. Holds m (told now.shelf) u now.seats.blocks) user_is (c.in_err-park.ensures.holds m (subst (λ u. Holds m (told l.home.shelf) u l.home.seats.blocks) (sym user_is) (l.invariant.holds m holds)))

pub returns-in_err-park-clause-cause : goal.returns-in_err-park-clause-cause
returns-in_err-park-clause-cause g c =
    let start = c.args.home.now in
    let l = c.loop-block in
    let now = c.park.new.self in
    let faults = g.K.Shelf.faults in
    let cause = c.in_err-park.ensures.cause in
    let e = err_from_is_err_and c.from_residual.result c.from_residual.ensures.1 in
    rw (e.1, e.2)
    (record { follows = follows_on (faults start.shelf) (faults l.home.shelf) (faults now.shelf) l.invariant.follows cause.follows; failed = rose_before (faults start.shelf) (faults l.home.shelf) (faults now.shelf) l.invariant.follows cause.failed })

pub returns-in_err-park-clause-kind : goal.returns-in_err-park-clause-kind
returns-in_err-park-clause-kind g c =
    let told = g.K.Shelf.told in
    kind_then (told c.args.home.now.shelf) (told c.loop-block.home.shelf) (told c.park.new.self.shelf) c.loop-block.invariant.kind c.in_err-park.ensures.kind

pub returns-clause-ok : goal.returns-clause-ok
returns-clause-ok g c =
    let start = c.args.home.now.seats in
    subst (λ bs. GoOut (seated_of start.purse bs) start c.loop-block.home.seats) (take_all c.loop-block.block-index c.args.blocks.now c.loop-block-test.false) c.loop-block.invariant.parking.goes

pub returns-clause-lengths : goal.returns-clause-lengths
returns-clause-lengths g c = c.loop-block.invariant.parking.lengths

pub returns-clause-others : goal.returns-clause-others
returns-clause-others g c = others_of c.args.home.now.seats.blocks c.loop-block.home.seats.blocks c.args.blocks.now c.loop-block.block-index c.loop-block.invariant.parking.others

pub returns-clause-holds : goal.returns-clause-holds
returns-clause-holds g c = c.loop-block.invariant.holds
