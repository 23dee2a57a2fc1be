use Rattle.std.proofs.Common.{◌≡◌, take}
use Rattle.slot_split.specs.Packing.{with_records}
use Rattle.slot_split.proofs.packing.put_all_first_fit.Given as goal

abbrev pub invariant-loop-index : goal.invariant-loop-index
invariant-loop-index l = l.blocks ≡ with_records l.size l.initial.blocks (take l.index l.records)
