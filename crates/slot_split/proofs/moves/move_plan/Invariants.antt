use Rattle.std.proofs.Common.{◌≡◌, take}
use Rattle.slot_split.specs.Packing.{with_records, packed}
use Rattle.slot_split.specs.Plans.{moving, rests}
use Rattle.slot_split.proofs.moves.move_plan.Given as goal

abbrev pub invariant-loop-at : goal.invariant-loop-at
invariant-loop-at l = record {
  left : l.rests ≡ rests l.from l.to 0 (take l.at l.left);
  right : l.right ≡ with_records l.size (packed l.size l.last) (moving l.from l.to (take l.at l.left));
}
