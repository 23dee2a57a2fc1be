use Rattle.std.proofs.Common.{ap, sym, ◌∙◌, ◌<◌, length, subst, Some, arith}
use Rattle.std.proofs.lemmas.List.{get_or_default}
use Rattle.shelf_link.specs.Blocks.{block_at}
use Rattle.shelf_link.specs.Slots.{IsAt}
use Rattle.shelf_link.proofs.Slots.{bytes_there, length_of, no_slot}
use Rattle.shelf_link.proofs.sure.SureShelf.bytes_at.Goals as goal

pub returns : goal.returns
returns c =
    let held = c.self.inside.held.items in
    let there = subst (λ s. IsAt s.blocks c.args.block c.args.at) (sym c.self.view_is) c.requires in
    let within : c.args.at < length held = omega (arith, there.within, length_of held) in
    sym (ap (λ s. block_at s.blocks c.args.block) c.self.view_is)
    ∙ bytes_there held c.self.invariant.sorted c.args.block c.args.at there
    ∙ ap (λ slot. Some slot.bytes) (sym (c.index.ensures ∙ get_or_default held c.args.at c.index.result.now no_slot within)) ∙ ap Some (sym c.bytes.ensures)
