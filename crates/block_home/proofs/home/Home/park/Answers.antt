use Rattle.std.proofs.Common.{ℕ, List, IsTrue, ap, subst, ◌∙◌}
use Rattle.std.specs.FinMap.{find, put}
use Rattle.std.specs.Ordering.{nat_cmp}
use Rattle.far_words.specs.declared.stamp.Stamp.{Stamp}
use Rattle.block_image.specs.Images.{stamp_for}
use Rattle.shelf_link.specs.Told.{tells}
use Rattle.block_seats.specs.Blocks.{InStore}
use Rattle.block_home.specs.Stored.{IsStored}
use Rattle.block_home.proofs.Shelved.{carries_park, carries_kept, keeps_put, length_seated}
use Rattle.block_home.proofs.home.Home.park.Goals as goal

pub returns-in-Ok-clause-holds : goal.returns-in-Ok-clause-holds
returns-in-Ok-clause-holds g c =
    let user : ℕ = c.self.inside.user in
    let block : ℕ = c.args.block in
    let now = g.K.Shelf.told c.put_image.new.shelf in
    let stamp = c.in-Ok.ensures.stamp ∙ ap (λ (bytes : List ℕ). stamp_for user block bytes) c.bytes.ensures.value in
    let blocks = c.park.ensures.blocks ∙ ap (λ (s : Stamp). put nat_cmp block (InStore s) c.self.inside.seats.blocks) stamp in
    let stored = subst (λ (bytes : List ℕ). IsTrue (tells now) → IsStored now block (stamp_for user block bytes) bytes) c.bytes.ensures.value c.in-Ok.ensures.stored in
    rw (← c.self.view_is)
    (λ m holds. rw blocks
    (carries_park _ _ _ _ _ (c.place.ensures.there c.if-is_none.ensures) (c.place.ensures.unstamped c.if-is_none.ensures) stored c.in-Ok.ensures.kind c.in-Ok.ensures.others m holds))

pub returns-in-Err-clause-holds : goal.returns-in-Err-clause-holds
returns-in-Err-clause-holds g c =
    rw (← c.self.view_is)
    (λ m holds. rw c.note_put.ensures.blocks
    (carries_kept _ _ _ _ _ (c.place.ensures.there c.if-is_none.ensures) (c.place.ensures.unstamped c.if-is_none.ensures) c.in-Err.ensures.kind c.in-Err.ensures.others m holds))

pub returns-in-Ok-clause-lengths : goal.returns-in-Ok-clause-lengths
returns-in-Ok-clause-lengths g c =
    let seats = c.self.inside.seats in
    let there = c.place.ensures.there c.if-is_none.ensures in
    let stamp = c.in-Ok.ensures.stamp ∙ ap (λ (bytes : List ℕ). stamp_for c.self.inside.user c.args.block bytes) c.bytes.ensures.value in
    rw (← c.self.view_is)
    (keeps_put seats c.park.new.self c.args.block _ c.park.ensures.blocks there
    (ap (λ (s : Stamp). s.length) stamp ∙ length_seated (find nat_cmp c.args.block seats.blocks) there (c.place.ensures.unstamped c.if-is_none.ensures)))

pub returns-in-Err-clause-lengths : goal.returns-in-Err-clause-lengths
returns-in-Err-clause-lengths g c =
    let seats = c.self.inside.seats in
    let there = c.place.ensures.there c.if-is_none.ensures in
    rw (← c.self.view_is)
    (keeps_put seats c.note_put.new.self c.args.block _ c.note_put.ensures.blocks there (length_seated (find nat_cmp c.args.block seats.blocks) there (c.place.ensures.unstamped c.if-is_none.ensures)))
