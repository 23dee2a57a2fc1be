use Rattle.std.proofs.Common.{◌≡◌, ℕ, Bool, true, cond, is_some, List, length, Some, ap, sym, ◌∙◌, arith}
use Rattle.std.specs.Option.{option_and_then}
use Rattle.std.specs.FinMap.{find, put}
use Rattle.std.specs.Ordering.{nat_cmp}
use Rattle.block_seats.specs.Blocks.{Blocks, InSlice, stamp_of}
use Rattle.block_seats.specs.Purses.{next_place, place_of}
use Rattle.block_home.proofs.Held.{put_here}
use Rattle.block_home.proofs.Fetched.{content_of_buffer}
use Rattle.block_home.proofs.Shelved.{carries_load, keeps_put, length_stamped, stamped_there, itself, next_there}
use Rattle.block_home.proofs.home.Home.load.Goals as goal

pub returns-in-Ok-clause-holds : goal.returns-in-Ok-clause-holds
returns-in-Ok-clause-holds g c =
    let image = c.self.inside.image in
    let fits : length image.items ≡ image.len = ap (λ (xs : List ℕ). length xs) (sym c.deref_mut.ensures.value) ∙ c.deref_mut.ensures.len in
    let content = content_of_buffer c.fetch_image.new.image image.items c.deref.result.now image.len c.in-Some.stamp.length (c.in-Ok.ensures.buffer ∙ c.deref_mut.ensures.len) fits c.deref.ensures.value in
    let blocks = c.place_again.ensures.blocks ∙ ap (λ (bytes : List ℕ). put nat_cmp c.args.block (InSlice bytes true) c.self.inside.seats.blocks) content in
    rw (← c.self.view_is)
    (λ m holds. rw blocks
    (carries_load _ _ _ _ _ c.in-Some.stamp c.fetch_image.new.image c.in-Ok.ensures.same (sym c.stamp.ensures.stamp ∙ c.in-Some.is) c.in-Ok.ensures.fetches m holds))

pub returns-in-Ok-clause-seated : goal.returns-in-Ok-clause-seated
returns-in-Ok-clause-seated g c =
    let again = c.place_again.ensures in
    let room = again.open in (
      ap is_some (again.places c.args.block ∙ ap (λ (b : Bool). cond b (next_place c.self.inside.seats.purse) (place_of c.self.inside.seats.purse c.args.block)) (itself c.args.block))
          ∙ next_there c.self.inside.seats.purse (omega arith),
      ap (λ (bs : Blocks). option_and_then stamp_of (find nat_cmp c.args.block bs)) again.blocks ∙ ap (option_and_then stamp_of) (put_here c.self.inside.seats.blocks c.args.block _),
    )

pub returns-in-Ok-clause-lengths : goal.returns-in-Ok-clause-lengths
returns-in-Ok-clause-lengths g c =
    let image = c.self.inside.image in
    let fits : length image.items ≡ image.len = ap (λ (xs : List ℕ). length xs) (sym c.deref_mut.ensures.value) ∙ c.deref_mut.ensures.len in
    let content = content_of_buffer c.fetch_image.new.image image.items c.deref.result.now image.len c.in-Some.stamp.length (c.in-Ok.ensures.buffer ∙ c.deref_mut.ensures.len) fits c.deref.ensures.value in
    let stamped = c.in-Ok.ensures.fetches.stamped in
    let stamp_is : option_and_then stamp_of (find nat_cmp c.args.block c.self.inside.seats.blocks) ≡ Some c.in-Some.stamp = sym c.stamp.ensures.stamp ∙ c.in-Some.is in
    rw (← c.self.view_is)
    (keeps_put c.self.inside.seats c.place_again.new.self c.args.block _ c.place_again.ensures.blocks (stamped_there (find nat_cmp c.args.block c.self.inside.seats.blocks) c.in-Some.stamp stamp_is)
    (ap (λ (xs : List ℕ). length xs) content ∙ sym stamped.counted ∙ length_stamped (find nat_cmp c.args.block c.self.inside.seats.blocks) c.in-Some.stamp stamp_is))
