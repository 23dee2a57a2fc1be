use Rattle.std.proofs.Common.{◌≡◌, ◌+◌, ap, sym, ◌∙◌, arith}
use Rattle.shelf_link.specs.Blocks.{block_at, without_block}
use Rattle.shelf_link.specs.Shelves.{taken_by}
use Rattle.shelf_link.proofs.Blocks.{at_without_block, others_without_block}
use Rattle.shelf_link.proofs.Rooms.{taken_there, taken_absent, without_absent}
use Rattle.shelf_link.proofs.sure.SureShelfShelf.remove.Goals as goal

pub returns-in-Ok-clause-gone : goal.returns-in-Ok-clause-gone
returns-in-Ok-clause-gone c = λ _. ap (λ s. block_at s.blocks c.args.block) c.take_out.ensures ∙ at_without_block c.args.self.now.blocks c.args.block

pub returns-in-Ok-clause-others : goal.returns-in-Ok-clause-others
returns-in-Ok-clause-others c = λ other apart.
    ap (λ s. block_at s.blocks other) c.take_out.ensures ∙ others_without_block c.args.self.now.blocks c.args.block other apart

pub returns-in-Ok-clause-all : goal.returns-in-Ok-clause-all
returns-in-Ok-clause-all c =
    let old = c.args.self.now in
    c.take_out.ensures
    ∙ ap (λ n. record old { blocks = without_block old.blocks c.args.block; room = old.room + n }) (sym (taken_there old c.args.block c.in-Ok.ensures.there))

pub returns-in_default-clause-all : goal.returns-in_default-clause-all
returns-in_default-clause-all c =
    let old = c.args.self.now in
    let absent = c.in_default.ensures.absent in
    let room : old.room ≡ old.room + taken_by old c.args.block = omega (arith, taken_absent old c.args.block absent) in
    ap (λ b. record old { blocks = b }) (sym (without_absent old.blocks c.args.block absent))
    ∙ ap (λ n. record old { blocks = without_block old.blocks c.args.block; room = n }) room
