use Rattle.std.proofs.Common.{◌≡◌, take}
use Rattle.std.specs.Prelude.{filter}
use Rattle.slot_split.specs.Packing.{with_records}
use Rattle.slot_split.specs.Plans.{moves, stays}
use Rattle.slot_split.proofs.moves.split_block.Given as goal

abbrev pub invariant-loop-index : goal.invariant-loop-index
invariant-loop-index l = record {
  kept : l.kept ≡ filter (stays l.from l.to) (take l.index l.block);
  moved : l.right ≡ with_records l.size l.initial.right (filter (moves l.from l.to) (take l.index l.block));
}
