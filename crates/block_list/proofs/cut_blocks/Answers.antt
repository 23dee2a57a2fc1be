use Rattle.std.proofs.Common.{◌≡◌, is_some, take, get_or, sym, ap, ◌∙◌, subst}
use Rattle.std.specs.Ordering.{nat_cmp}
use Rattle.std.specs.FinMap.{find}
use Rattle.std.proofs.lemmas.List.{take_all, take_more}
use Rattle.far_io.proofs.Faults.{follows_on}
use Rattle.block_seats.specs.Tables.{without}
use Rattle.block_home.specs.Homes.{HomeView}
use Rattle.block_home.specs.Holding.{Holds}
use Rattle.block_list.specs.Growth.{GoOut}
use Rattle.block_list.specs.Lists.{without_all}
use Rattle.block_list.proofs.Listed.{next_apart}
use Rattle.block_list.proofs.Going.{out-push, find-without_all, without_all-push, kind_then}
use Rattle.block_list.proofs.cut_blocks.Goals as goal

pub cut-requires : goal.cut-requires
cut-requires g c =
    let blocks = c.args.blocks.now in
    let i = c.loop-block.block-index in
    let inside = c.loop-block-test.true in
    ap is_some
    (ap (find nat_cmp (get_or blocks i 0)) c.loop-block.invariant.blocks_are
    ∙ find-without_all c.args.home.now.seats.blocks (take i blocks) (get_or blocks i 0) (next_apart blocks i c.requires.distinct inside))
    ∙ c.requires.each i inside

pub loop-block-preserved : goal.loop-block-preserved
loop-block-preserved g c =
    let start = c.args.home.now in
    let blocks = c.args.blocks.now in
    let l = c.loop-block in
    let i = l.block-index in
    let block = get_or blocks i 0 in
    let cut = c.cut.ensures in
    let now = c.cut.new.self in
    let told = g.K.Shelf.told in
    let faults = g.K.Shelf.faults in
    let more = sym (take_more blocks i 0 c.loop-block-test.true) in
    let user_is : l.home.user ≡ start.user = ap (λ (h : HomeView g.row.K.Denot). h.user) l.invariant.rest in
    record {
      rest = cut.rest ∙ (λ j. record (l.invariant.rest j) { seats = now.seats; shelf = now.shelf });
      blocks_are = cut.blocks ∙ ap (without block) l.invariant.blocks_are ∙ sym (without_all-push start.seats.blocks (take i blocks) block) ∙ ap (without_all start.seats.blocks) more;
      goes = subst (λ went. GoOut went start.seats now.seats) more (out-push (take i blocks) block start.seats l.home.seats now.seats l.invariant.goes cut.purse cut.places cut.moves cut.alike);
      kind = kind_then (told start.shelf) (told l.home.shelf) (told now.shelf) l.invariant.kind cut.kind;
      follows = follows_on (faults start.shelf) (faults l.home.shelf) (faults now.shelf) l.invariant.follows cut.follows;
      holds = λ m holds.
          subst (λ es. Holds es (told now.shelf) start.user now.seats.blocks) (sym (without_all-push m (take i blocks) block) ∙ ap (without_all m) more)
          (subst (λ u. Holds (without block (without_all m (take i blocks))) (told now.shelf) u now.seats.blocks) user_is
          (cut.holds (without_all m (take i blocks)) (subst (λ u. Holds (without_all m (take i blocks)) (told l.home.shelf) u l.home.seats.blocks) (sym user_is) (l.invariant.holds m holds))));
    }

pub returns-clause-holds : goal.returns-clause-holds
returns-clause-holds g c = λ m holds.
    subst (λ bs. Holds (without_all m bs) (g.K.Shelf.told c.loop-block.home.shelf) c.args.home.now.user c.loop-block.home.seats.blocks) (take_all c.loop-block.block-index c.args.blocks.now c.loop-block-test.false) (c.loop-block.invariant.holds m holds)

pub returns-clause-others : goal.returns-clause-others
returns-clause-others g c =
    let start = c.args.home.now.seats.blocks in
    record {
      others = λ q apart.
          ap (find nat_cmp q) (c.loop-block.invariant.blocks_are ∙ ap (without_all start) (take_all c.loop-block.block-index c.args.blocks.now c.loop-block-test.false))
          ∙ find-without_all start c.args.blocks.now q apart;
    }
