use Rattle.std.proofs.Common.{◌≡◌, ◌<◌, ℕ, ◌+◌, length, vec_len, ap, sym, ◌∙◌, subst, arith}
use Rattle.std.proofs.lemmas.List.Elements.{All-push}
use Rattle.shelf_link.specs.Blocks.{Blocks, without_block}
use Rattle.shelf_link.specs.Shelves.{SureShelfView}
use Rattle.shelf_link.specs.Slots.{IsAt, blocks_of}
use Rattle.shelf_link.proofs.Slots.{remove_slot, remove_sorted, remove_sized, length_of}
use Rattle.shelf_link.proofs.sure.SureShelf.take_out.Goals as goal

pub invariant_of-self : goal.invariant_of-self
invariant_of-self c =
    let held = c.self.inside.held.items in
    let size = c.self.inside.size in
    let well = c.self.invariant in
    let there = subst (λ s. IsAt s.blocks c.args.block c.args.at) (sym c.self.view_is) c.requires in
    let within : c.args.at < length held = omega (arith, there.within, length_of held) in
    let taken : c.remove-slot.result.size ≡ size = ap (λ s. s.size) c.remove-slot.ensures.value ∙ well.held_sized c.args.at c.remove-slot.result within in
    record {
      sorted = rw c.remove-slot.ensures.items (remove_sorted held well.sorted c.args.block c.args.at there);
      held_sized = rw c.remove-slot.ensures.items (remove_sized size held well.held_sized c.args.at);
      spare_sized = rw c.push_reserved.ensures.items (All-push (λ s. s.size ≡ size) _ _ well.spare_sized taken);
      held_places = omega (arith, c.remove-slot.ensures.len, c.remove-slot.ensures.capacity, c.push_reserved.ensures.len, well.held_places);
      spare_places = omega (arith, c.remove-slot.ensures.len, c.push_reserved.ensures.len, c.push_reserved.ensures.capacity, well.spare_places);
    }

pub returns : goal.returns
returns c =
    let held = c.self.inside.held.items in
    let there = subst (λ s. IsAt s.blocks c.args.block c.args.at) (sym c.self.view_is) c.requires in
    let blocks = remove_slot held c.self.invariant.sorted c.args.block c.args.at there in
    let seen : Blocks → ℕ → SureShelfView = λ b n. record { blocks = b; room = n; size = c.self.inside.size; faults = c.self.inside.faults } in
    ap (λ b. seen b (vec_len c.push_reserved.new.self)) (ap blocks_of c.remove-slot.ensures.items ∙ blocks)
    ∙ ap (seen (without_block (blocks_of held) c.args.block)) c.push_reserved.ensures.len
    ∙ ap (λ (s : SureShelfView). record s { blocks = without_block s.blocks c.args.block; room = s.room + 1 }) c.self.view_is
