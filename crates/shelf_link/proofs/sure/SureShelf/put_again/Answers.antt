use Rattle.std.proofs.Common.{◌≡◌, ◌<◌, length, vec_len, ap, sym, ◌∙◌, subst, arith}
use Rattle.std.proofs.lemmas.List.Elements.{All-set}
use Rattle.shelf_link.specs.Blocks.{Blocks, with_block}
use Rattle.shelf_link.specs.Shelves.{SureShelfView}
use Rattle.shelf_link.specs.Slots.{IsAt, blocks_of}
use Rattle.shelf_link.proofs.Slots.{set_slot, set_sorted, length_of}
use Rattle.shelf_link.proofs.sure.SureShelf.put_again.Goals as goal

pub invariant_of-self : goal.invariant_of-self
invariant_of-self c =
    let held = c.self.inside.held.items in
    let well = c.self.invariant in
    let there = subst (λ s. IsAt s.blocks c.args.block c.args.at) (sym c.self.view_is) c.requires.there in
    let within : c.args.at < length held = omega (arith, there.within, length_of held) in
    let slot = c.index_mut-slot in
    let sized : c.set.new.self.size ≡ c.self.inside.size =
    ap (λ s. s.size) c.set.ensures ∙ ap (λ s. s.size) slot.ensures.value ∙ well.held_sized c.args.at slot.result.now within in
    record {
      sorted = set_sorted held well.sorted c.args.block c.args.at c.set.new.self there (ap (λ s. s.block) c.set.ensures);
      held_sized = All-set (λ s. s.size ≡ c.self.inside.size) held c.args.at c.set.new.self sized well.held_sized;
      spare_sized = well.spare_sized;
      held_places = well.held_places;
      spare_places = well.spare_places;
    }

pub returns : goal.returns
returns c =
    let held = c.self.inside.held.items in
    let there = subst (λ s. IsAt s.blocks c.args.block c.args.at) (sym c.self.view_is) c.requires.there in
    let blocks = set_slot held c.self.invariant.sorted c.args.block c.args.at c.set.new.self there (ap (λ s. s.block) c.set.ensures) in
    let seen : Blocks → SureShelfView = λ b. record { blocks = b; room = vec_len c.self.inside.spare; size = c.self.inside.size; faults = c.self.inside.faults } in
    ap seen (blocks ∙ ap (λ s. with_block (blocks_of held) c.args.block s.bytes) c.set.ensures)
    ∙ ap (λ (s : SureShelfView). record s { blocks = with_block s.blocks c.args.block c.args.bytes.now }) c.self.view_is
