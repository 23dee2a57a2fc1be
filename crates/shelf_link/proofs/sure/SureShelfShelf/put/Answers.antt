use Rattle.std.proofs.Common.{◌≡◌, ◌<◌, ◌≤◌, ◌-◌, length, ap, ◌∙◌, refl, inr, arith}
use Rattle.std.proofs.lemmas.Bool.Decides.{nat_tests}
use Rattle.shelf_link.specs.Blocks.{block_at, with_block}
use Rattle.shelf_link.specs.Shelves.{SureShelfView, room_after}
use Rattle.shelf_link.proofs.Blocks.{at_with_block, others_with_block}
use Rattle.shelf_link.proofs.Rooms.{taken_there, taken_absent, fits_again, fits_new}
use Rattle.shelf_link.proofs.sure.SureShelfShelf.put.Goals as goal

pub returns-in-Ok-clause-held : goal.returns-in-Ok-clause-held
returns-in-Ok-clause-held c = λ _.
    ap (λ (s : SureShelfView). block_at s.blocks c.args.block) c.put_again.ensures ∙ at_with_block c.args.self.now.blocks c.args.block c.args.bytes.now

pub returns-in-Ok-clause-others : goal.returns-in-Ok-clause-others
returns-in-Ok-clause-others c = λ other apart.
    ap (λ s. block_at s.blocks other) c.put_again.ensures ∙ others_with_block c.args.self.now.blocks c.args.block c.args.bytes.now other apart

pub returns-in-Ok-clause-full : goal.returns-in-Ok-clause-full
returns-in-Ok-clause-full c =
    let fits : length c.args.bytes.now ≤ c.args.self.now.size = omega (arith, ap (λ s. s.size) c.self.view_is, c.if-self-bytes.false) in
    (λ e. absurd (cc), fits_again c.args.self.now c.args.block (length c.args.bytes.now) fits c.in-Ok.ensures.there)

pub returns-in-Ok-clause-ok : goal.returns-in-Ok-clause-ok
returns-in-Ok-clause-ok c =
    let old = c.args.self.now in
    let room : old.room ≡ room_after old c.args.block = omega (arith, taken_there old c.args.block c.in-Ok.ensures.there) in
    c.put_again.ensures ∙ ap (λ n. record old { blocks = with_block old.blocks c.args.block c.args.bytes.now; room = n }) room

pub returns-in-Err-clause-full : goal.returns-in-Err-clause-full
returns-in-Err-clause-full c =
    let room : c.args.self.now.room ≡ 0 = grind (arith, nat_tests, ap (λ s. s.room) c.self.view_is, c.if-is_empty.ensures) in
    (λ _. inr (c.in-Err.ensures.absent, room), λ _. refl)

pub returns-in-Err-2-clause-held : goal.returns-in-Err-2-clause-held
returns-in-Err-2-clause-held c = λ _.
    ap (λ s. block_at s.blocks c.args.block) c.put_new.ensures ∙ at_with_block c.args.self.now.blocks c.args.block c.args.bytes.now

pub returns-in-Err-2-clause-others : goal.returns-in-Err-2-clause-others
returns-in-Err-2-clause-others c = λ other apart.
    ap (λ s. block_at s.blocks other) c.put_new.ensures ∙ others_with_block c.args.self.now.blocks c.args.block c.args.bytes.now other apart

pub returns-in-Err-2-clause-full : goal.returns-in-Err-2-clause-full
returns-in-Err-2-clause-full c =
    let fits : length c.args.bytes.now ≤ c.args.self.now.size = omega (arith, ap (λ s. s.size) c.self.view_is, c.if-self-bytes.false) in
    let room : 0 < c.args.self.now.room = grind (arith, nat_tests, ap (λ s. s.room) c.self.view_is, c.if-is_empty.ensures) in
    (λ e. absurd (cc), fits_new c.args.self.now c.args.block (length c.args.bytes.now) fits room)

pub returns-in-Err-2-clause-ok : goal.returns-in-Err-2-clause-ok
returns-in-Err-2-clause-ok c =
    let old = c.args.self.now in
    let room : old.room - 1 ≡ room_after old c.args.block = omega (arith, taken_absent old c.args.block c.in-Err-2.ensures.absent) in
    c.put_new.ensures ∙ ap (λ n. record old { blocks = with_block old.blocks c.args.block c.args.bytes.now; room = n }) room
