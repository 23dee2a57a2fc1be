use Rattle.std.proofs.Common.{◌≡◌, ◌≤◌, vec_len, vec_capacity}
use Rattle.shelf_link.specs.Slots.{AreSized}
use Rattle.shelf_link.proofs.slot.fresh_slots.Given as goal

abbrev pub invariant-loop-done : goal.invariant-loop-done
invariant-loop-done l = record {
  count : vec_len l.slots ≡ l._done;
  places : l.count ≤ vec_capacity l.slots;
  sized : AreSized l.size l.slots.items;
}
