use Rattle.std.proofs.Common.{◌-◌, ◌≤◌, length}
use Rattle.table_block.proofs.Reading.{HasRead}
use Rattle.slot_split.proofs.records.Records.read.Given as goal

abbrev pub invariant-loop-records : goal.invariant-loop-records
invariant-loop-records l = record { within : l.at ≤ length l.bytes; read : HasRead l.bytes l.records l.at }

abbrev pub decreases-loop-records : goal.decreases-loop-records
decreases-loop-records l = length l.bytes - l.at
