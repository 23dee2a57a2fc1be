use Rattle.std.proofs.Common.{◌≡◌, ◌≢◌, ◌+◌, ◌-◌, ◌%◌, ◌<◌, ◌≤◌, ◌++◌, length, get_or, take, sym, ap, subst, ◌∙◌, arith, length-take}
use Rattle.std.specs.Ordering.{nat_cmp}
use Rattle.std.specs.FinMap.{find}
use Rattle.block_seats.specs.Blocks.{block_at, was_put}
use Rattle.block_home.specs.Homes.{HomeView}
use Rattle.block_home.proofs.Held.{put_other}
use Rattle.block_list.proofs.Growing.{same_put}
use Rattle.block_file.specs.Files.{file_in, IsSound}
use Rattle.block_file.specs.Growth.{IsGrown}
use Rattle.block_file.proofs.Last.{inside, some_of}
use Rattle.block_file.proofs.Writing.{filled_sound, filled_grown}
use Rattle.block_file.proofs.blocks.fill_last.Goals as goal

pub returns-clause-sound : goal.returns-clause-sound
returns-clause-sound g c =
    let seats = c.args.home.now.seats in
    let blocks = c.args.blocks.now in
    let new = c.write.new.self in
    let part = take c.min-count.result c.args.bytes.now in
    let at_is : c.args.used % c.from-size.result ≡ c.args.used % seats.size = ap (λ s. c.args.used % s) (c.from-size.ensures ∙ c.size.ensures.value) in
    let pos : 0 < seats.size = c.size.ensures.some in
    let over : c.args.used % seats.size ≢ 0 = λ whole. c.if-at-eq0.false (at_is ∙ whole) in
    let many : length part ≡ c.min-count.result = let room = c.min-count.ensures in omega (arith, length-take c.min-count.result c.args.bytes.now) in
    let fits : c.args.used % seats.size + length part ≤ seats.size = let room = c.min-count.ensures in omega arith in
    let seated = c.requires.seated (some_of (length c.args.bytes.now) (sym c.if-is_empty.ensures)) over in
    subst (λ n. IsSound new.seats (file_in (c.args.used + n) blocks)) many
    (filled_sound seats c.args.used blocks c.requires.sound pos over seated.unstamped new.seats part (was_put (block_at seats.blocks (get_or blocks (length blocks - 1) 0))) (ap (λ (h : HomeView g.row.K.Denot). h.seats.size) c.write.ensures.rest) (rw (← at_is) c.write.ensures.blocks) fits)

pub returns-clause-bytes : goal.returns-clause-bytes
returns-clause-bytes g c = λ m old holds used_is held.
    let seats = c.args.home.now.seats in
    let blocks = c.args.blocks.now in
    let new = c.write.new.self in
    let part = take c.min-count.result c.args.bytes.now in
    let at_is : c.args.used % c.from-size.result ≡ c.args.used % seats.size = ap (λ s. c.args.used % s) (c.from-size.ensures ∙ c.size.ensures.value) in
    let pos : 0 < seats.size = c.size.ensures.some in
    let over : c.args.used % seats.size ≢ 0 = λ whole. c.if-at-eq0.false (at_is ∙ whole) in
    let many : length part ≡ c.min-count.result = let room = c.min-count.ensures in omega (arith, length-take c.min-count.result c.args.bytes.now) in
    let fits : c.args.used % seats.size + length part ≤ seats.size = let room = c.min-count.ensures in omega arith in
    let seated = c.requires.seated (some_of (length c.args.bytes.now) (sym c.if-is_empty.ensures)) over in
    let told = g.K.Shelf.told in
    subst (λ n. IsGrown m (told new.shelf) c.args.home.now.user new.seats (file_in (c.args.used + n) blocks) (old ++ part)) many
    (filled_grown seats c.args.used blocks c.requires.sound pos over seated.unstamped new.seats part (was_put (block_at seats.blocks (get_or blocks (length blocks - 1) 0))) (ap (λ (h : HomeView g.row.K.Denot). h.seats.size) c.write.ensures.rest) (rw (← at_is) c.write.ensures.blocks) fits
    (told c.args.home.now.shelf) (told new.shelf) c.args.home.now.user m old holds used_is held (rw (← at_is) (c.write.ensures.holds m holds)))

pub returns-clause-numbers : goal.returns-clause-numbers
returns-clause-numbers g c = λ block.
    let blocks = c.args.blocks.now in
    let old = c.args.home.now.seats.blocks in
    let at_is : c.args.used % c.from-size.result ≡ c.args.used % c.args.home.now.seats.size = ap (λ s. c.args.used % s) (c.from-size.ensures ∙ c.size.ensures.value) in
    let here = inside c.args.home.now.seats c.args.used blocks (length c.args.bytes.now) c.requires.sound c.size.ensures.some (some_of (length c.args.bytes.now) (sym c.if-is_empty.ensures)) (λ whole. c.if-at-eq0.false (at_is ∙ whole)) in
    let is = c.requires.sound.each (length blocks - 1) here in
    same_put old c.write.new.self.seats.blocks (get_or blocks (length blocks - 1) 0) _ c.write.ensures.blocks is.there block

pub returns-clause-others : goal.returns-clause-others
returns-clause-others g c =
    let blocks = c.args.blocks.now in
    let at_is : c.args.used % c.from-size.result ≡ c.args.used % c.args.home.now.seats.size = ap (λ s. c.args.used % s) (c.from-size.ensures ∙ c.size.ensures.value) in
    let here = inside c.args.home.now.seats c.args.used blocks (length c.args.bytes.now) c.requires.sound c.size.ensures.some (some_of (length c.args.bytes.now) (sym c.if-is_empty.ensures)) (λ whole. c.if-at-eq0.false (at_is ∙ whole)) in
    record {
      others = λ block apart. ap (find nat_cmp block) c.write.ensures.blocks ∙ put_other c.args.home.now.seats.blocks (get_or blocks (length blocks - 1) 0) _ block (apart (length blocks - 1) 0 here);
    }
