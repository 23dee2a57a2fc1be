use Rattle.std.proofs.Common.{◌≡◌, is_some, sym, ap, subst}
use Rattle.std.specs.Prelude.{IsTrue}
use Rattle.shelf_link.specs.Told.{Told}
use Rattle.block_home.specs.Homes.{HomeView}
use Rattle.block_home.specs.Holding.{Holds}
use Rattle.block_list.proofs.Named.{holds_as}
use Rattle.block_list.proofs.load_blocks.Goals as goal

pub returns-clause-holds : goal.returns-clause-holds
returns-clause-holds g c = λ m holds.
    let old = c.args.home.now in
    let mid = c.prepare.new.self in
    let new = c.load_prepared.new.home in
    let told = g.K.Shelf.told in
    let rest = c.prepare.ensures.rest in
    let user_is : mid.user ≡ old.user = ap (λ (h : HomeView g.row.K.Denot). h.user) rest in
    let told_is : told mid.shelf ≡ told old.shelf = ap (λ (h : HomeView g.row.K.Denot). told h.shelf) rest in
    let blocks_are : mid.seats.blocks ≡ old.seats.blocks = ap (λ (h : HomeView g.row.K.Denot). h.seats.blocks) rest in
    subst (λ u. Holds m (told new.shelf) u new.seats.blocks) user_is
    (c.load_prepared.ensures.holds m (holds_as m (told old.shelf) (told mid.shelf) old.user mid.user old.seats.blocks mid.seats.blocks (sym told_is) (sym user_is) (sym blocks_are) holds))

pub returns-clause-telling : goal.returns-clause-telling
returns-clause-telling g c = λ tells m holds.
    let old = c.args.home.now in
    let mid = c.prepare.new.self in
    let told = g.K.Shelf.told in
    let rest = c.prepare.ensures.rest in
    let user_is : mid.user ≡ old.user = ap (λ (h : HomeView g.row.K.Denot). h.user) rest in
    let told_is : told mid.shelf ≡ told old.shelf = ap (λ (h : HomeView g.row.K.Denot). told h.shelf) rest in
    let blocks_are : mid.seats.blocks ≡ old.seats.blocks = ap (λ (h : HomeView g.row.K.Denot). h.seats.blocks) rest in
    c.load_prepared.ensures.telling (subst (λ (t : Told). IsTrue (is_some t.content)) (sym told_is) tells) m
    (holds_as m (told old.shelf) (told mid.shelf) old.user mid.user old.seats.blocks mid.seats.blocks (sym told_is) (sym user_is) (sym blocks_are) holds)
