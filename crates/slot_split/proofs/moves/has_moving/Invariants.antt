use Rattle.std.proofs.Common.{◌≡◌, take, false}
use Rattle.std.specs.List.{list_any}
use Rattle.slot_split.specs.Plans.{moves}
use Rattle.slot_split.proofs.moves.has_moving.Given as goal

abbrev pub invariant-loop-index : goal.invariant-loop-index
invariant-loop-index l = list_any (moves l.from l.to) (take l.index l.block) ≡ false
