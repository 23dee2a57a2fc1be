use Rattle.std.proofs.Common.{◌-◌, ◌≤◌, length}
use Rattle.table_block.proofs.Finding.{Walked}
use Rattle.table_block.proofs.spots.find.Given as goal

abbrev pub invariant-loop-spot : goal.invariant-loop-spot
invariant-loop-spot l = record { within : l.at ≤ length l.bytes; walked : Walked l.bytes l.key l.at l.found }

abbrev pub decreases-loop-spot : goal.decreases-loop-spot
decreases-loop-spot l = length l.bytes - l.at
