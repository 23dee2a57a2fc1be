use Rattle.std.proofs.Common.{◌≡◌, ◌+◌, ◌++◌, length, min, sym, ap, ◌∙◌, subst, arith}
use Rattle.std.proofs.lemmas.List.{take_all}
use Rattle.block_home.specs.Homes.{HomeView}
use Rattle.block_file.specs.Files.{file_in, IsSound}
use Rattle.block_file.specs.Growth.{IsGrown}
use Rattle.block_file.proofs.Adding.{adding-more}
use Rattle.block_list.proofs.Named.{carries_as}
use Rattle.block_file.proofs.blocks.add_blocks.Goals as goal

pub loop-done-preserved : goal.loop-done-preserved
loop-done-preserved g c =
    let start = c.args.home.now in
    let bytes = c.args.bytes.now in
    let l = c.loop-done in
    let added = c.add-block.ensures in
    let now = c.add-block.new.self in
    let told = g.K.Shelf.told in
    let end_is : c.min-end.result ≡ min (length bytes) (l.done + start.seats.size) = c.min-end.ensures ∙ ap (λ s. min (length bytes) (l.done + s)) c.size-size.ensures.value in
    let shelf_is : l.home.shelf ≡ start.shelf = ap (λ (h : HomeView g.row.K.Denot). h.shelf) l.invariant.rest in
    let shelf_now : now.shelf ≡ start.shelf = ap (λ (h : HomeView g.row.K.Denot). h.shelf) added.rest ∙ shelf_is in
    let user_is : l.home.user ≡ start.user = ap (λ (h : HomeView g.row.K.Denot). h.user) l.invariant.rest in
    record {
      rest = added.rest ∙ (λ i. record (l.invariant.rest i) { seats = now.seats });
      adding =
          rw (c.push_reserved.ensures.items, c.push_reserved.ensures.capacity)
          (adding-more (told start.shelf) start.user start.seats c.args.blocks.now.items c.args.used bytes l.home.seats l.blocks.items _ l.done l.invariant.adding c.size-size.ensures.some c.loop-done-test.true
          now.seats c.add-block.result c.min-end.result end_is added.number added.alike added.blocks added.purse added.moves added.left
          (carries_as l.home.user start.user (told l.home.shelf) (told start.shelf) (told now.shelf) (told start.shelf) c.add-block.result _ l.home.seats.blocks now.seats.blocks user_is (ap told shelf_is) (ap told shelf_now) added.holds));
    }

pub returns-clause-sound : goal.returns-clause-sound
returns-clause-sound g c =
    let within = c.loop-done.invariant.adding.within in
    subst (λ n. IsSound c.loop-done.home.seats (file_in (c.args.used + n) c.loop-done.blocks.items)) (let all : c.loop-done.done ≡ length c.args.bytes.now = omega arith in all) c.loop-done.invariant.adding.sound

pub returns-clause-bytes : goal.returns-clause-bytes
returns-clause-bytes g c = λ m old holds used_is held.
    let home = c.args.home.now in
    let l = c.loop-done in
    let told = g.K.Shelf.told in
    let bytes = c.args.bytes.now in
    let within = l.invariant.adding.within in
    let all : l.done ≡ length bytes = let past = c.loop-done-test.false in omega arith in
    let shelf_is : l.home.shelf ≡ home.shelf = ap (λ (h : HomeView g.row.K.Denot). h.shelf) l.invariant.rest in
    subst (λ t. IsGrown m t home.user l.home.seats (file_in (c.args.used + length bytes) l.blocks.items) (old ++ bytes)) (ap told (sym shelf_is))
    (subst (λ n. IsGrown m (told home.shelf) home.user l.home.seats (file_in (c.args.used + n) l.blocks.items) (old ++ bytes)) all
    (subst (λ bs. IsGrown m (told home.shelf) home.user l.home.seats (file_in (c.args.used + l.done) l.blocks.items) (old ++ bs)) (take_all l.done bytes c.loop-done-test.false) (l.invariant.adding.grown m old holds used_is held)))
