use Rattle.std.proofs.Common.{◌≡◌, ℕ, ◌-◌, vec_len, ap, sym, ◌∙◌, subst, arith}
use Rattle.std.proofs.lemmas.List.Elements.{All-pop}
use Rattle.std.specs.Prelude.{IfSome}
use Rattle.shelf_link.specs.Blocks.{Blocks, with_block}
use Rattle.shelf_link.specs.Shelves.{SureShelfView}
use Rattle.shelf_link.specs.Slots.{IsGapFor, blocks_of}
use Rattle.shelf_link.proofs.Slots.{insert_slot, insert_sorted, insert_sized}
use Rattle.shelf_link.proofs.sure.SureShelf.put_new.Goals as goal

pub invariant_of-self : goal.invariant_of-self
invariant_of-self c =
    let held = c.self.inside.held.items in
    let size = c.self.inside.size in
    let well = c.self.invariant in
    let gap = subst (λ s. IsGapFor s.blocks c.args.block c.args.at) (sym c.self.view_is) c.requires.gap in
    let popped = All-pop (λ s. s.size ≡ size) _ _ _ c.pop.ensures.items well.spare_sized in
    let taken : c.in-Some.slot.size ≡ size = subst (λ r. IfSome r (λ s. s.size ≡ size)) c.in-Some.is popped.1 in
    record {
      sorted = rw c.insert_slot.ensures.items (insert_sorted held well.sorted c.args.block c.args.at c.set.new.self gap (ap (λ s. s.block) c.set.ensures));
      held_sized = rw c.insert_slot.ensures.items (insert_sized size held well.held_sized c.args.at c.set.new.self (ap (λ s. s.size) c.set.ensures ∙ taken));
      spare_sized = popped.0;
      held_places = omega (arith, c.insert_slot.ensures.len, c.insert_slot.ensures.places, c.in-Some.ensures.cases, well.held_places);
      spare_places = omega (arith, c.insert_slot.ensures.len, c.in-Some.ensures.cases, c.pop.ensures.capacity, well.spare_places);
    }

pub returns : goal.returns
returns c =
    let held = c.self.inside.held.items in
    let gap = subst (λ s. IsGapFor s.blocks c.args.block c.args.at) (sym c.self.view_is) c.requires.gap in
    let blocks = insert_slot held c.self.invariant.sorted c.args.block c.args.at c.set.new.self gap (ap (λ s. s.block) c.set.ensures) in
    let seen : Blocks → ℕ → SureShelfView = λ b n. record { blocks = b; room = n; size = c.self.inside.size; faults = c.self.inside.faults } in
    let room : vec_len c.pop.new.self ≡ vec_len c.self.inside.spare - 1 = omega (arith, c.in-Some.ensures.cases) in
    ap (λ b. seen b (vec_len c.pop.new.self)) (ap blocks_of c.insert_slot.ensures.items ∙ blocks ∙ ap (λ s. with_block (blocks_of held) c.args.block s.bytes) c.set.ensures)
    ∙ ap (seen (with_block (blocks_of held) c.args.block c.args.bytes.now)) room
    ∙ ap (λ (s : SureShelfView). record s { blocks = with_block s.blocks c.args.block c.args.bytes.now; room = s.room - 1 }) c.self.view_is
