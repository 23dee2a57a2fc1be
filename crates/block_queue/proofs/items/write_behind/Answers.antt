use Rattle.std.proofs.Common.{◌≡◌, ◌++◌, ℕ, List, sym, ap, subst, ◌∙◌}
use Rattle.std.proofs.lemmas.Option.{same_Some}
use Rattle.slice_seq.specs.Used.{written_at}
use Rattle.shelf_link.specs.Blocks as map
use Rattle.block_seats.specs.Blocks.{was_put, block_at}
use Rattle.block_seats.specs.Seatings.{bytes_at}
use Rattle.block_home.specs.Homes.{HomeView}
use Rattle.block_home.specs.Holding.{Holds}
use Rattle.block_home.proofs.Shelved.{seated_held}
use Rattle.block_list.proofs.Coming.{seated_or}
use Rattle.block_queue.proofs.Behind.{room_for, written_is, behind_came, behind_longer, behind_lengths, behind_same, behind_others}
use Rattle.block_queue.proofs.items.write_behind.Goals as goal

pub load-requires-clause-room : goal.load-requires-clause-room
load-requires-clause-room g c = seated_or c.args.home.now.seats c.args.block (room_for c.args.home.now.seats c.args.block c.requires.prepared)

pub returns-clause-bytes : goal.returns-clause-bytes
returns-clause-bytes g c = λ m bytes holds at.
    let home = c.args.home.now in
    let mid = c.load.new.self in
    let new = c.write.new.self in
    let told = g.K.Shelf.told in
    let load = c.in_default.ensures in
    let block = c.args.block in
    let user_is : mid.user ≡ home.user = ap (λ (h : HomeView g.row.K.Denot). h.user) load.rest in
    let held = load.holds m holds in
    let here = seated_held m (told mid.shelf) home.user block mid.seats.blocks (load.lengths.there block ∙ c.requires.there) load.seated.1 held in
    let same : bytes_at mid.seats block ≡ bytes = same_Some (bytes_at mid.seats block) bytes (sym here ∙ at) in
    let written = written_is block home.seats mid.seats load.placed load.lengths c.requires.there load.seated.1 new.seats c.length-at.result c.args.piece.now (was_put (block_at mid.seats.blocks block)) c.length-at.ensures.value
    (ap (λ (h : HomeView g.row.K.Denot). h.seats) c.write.ensures.rest) c.write.ensures.blocks in
    subst (λ (bs : List ℕ). Holds (map.with_block m block bs) (told new.shelf) home.user new.seats.blocks) (written ∙ ap (λ (bs : List ℕ). bs ++ c.args.piece.now) same)
    (subst (λ (u : ℕ). Holds (map.with_block m block (written_at (bytes_at mid.seats block) c.length-at.result c.args.piece.now)) (told new.shelf) u new.seats.blocks) user_is
    (c.write.ensures.holds m (subst (λ (u : ℕ). Holds m (told mid.shelf) u mid.seats.blocks) (sym user_is) held)))

pub returns-clause-came : goal.returns-clause-came
returns-clause-came g c =
    let load = c.in_default.ensures in
    behind_came c.args.block c.args.home.now.seats c.load.new.self.seats load.placed load.lengths c.requires.there load.seated.1 c.write.new.self.seats c.length-at.result c.args.piece.now _ c.length-at.ensures.value
    (ap (λ (h : HomeView g.row.K.Denot). h.seats) c.write.ensures.rest) c.write.ensures.blocks

pub returns-clause-longer : goal.returns-clause-longer
returns-clause-longer g c =
    let load = c.in_default.ensures in
    behind_longer c.args.block c.args.home.now.seats c.load.new.self.seats load.placed load.lengths c.requires.there load.seated.1 c.write.new.self.seats c.length-at.result c.args.piece.now _ c.length-at.ensures.value
    (ap (λ (h : HomeView g.row.K.Denot). h.seats) c.write.ensures.rest) c.write.ensures.blocks

pub returns-clause-lengths : goal.returns-clause-lengths
returns-clause-lengths g c =
    let load = c.in_default.ensures in
    behind_lengths c.args.block c.args.home.now.seats c.load.new.self.seats load.placed load.lengths c.requires.there load.seated.1 c.write.new.self.seats c.length-at.result c.args.piece.now _ c.length-at.ensures.value
    (ap (λ (h : HomeView g.row.K.Denot). h.seats) c.write.ensures.rest) c.write.ensures.blocks

pub returns-clause-same_blocks : goal.returns-clause-same_blocks
returns-clause-same_blocks g c =
    let load = c.in_default.ensures in
    behind_same c.args.block c.args.home.now.seats c.load.new.self.seats load.placed load.lengths c.requires.there load.seated.1 c.write.new.self.seats c.length-at.result c.args.piece.now _ c.length-at.ensures.value
    (ap (λ (h : HomeView g.row.K.Denot). h.seats) c.write.ensures.rest) c.write.ensures.blocks

pub returns-clause-others : goal.returns-clause-others
returns-clause-others g c =
    let load = c.in_default.ensures in
    behind_others c.args.block c.args.home.now.seats c.load.new.self.seats load.placed load.lengths c.requires.there load.seated.1 c.write.new.self.seats c.length-at.result c.args.piece.now _ c.length-at.ensures.value
    (ap (λ (h : HomeView g.row.K.Denot). h.seats) c.write.ensures.rest) c.write.ensures.blocks
