use Rattle.std.proofs.Common.{◌≡◌, take}
use Rattle.table_block.specs.Slots.{hash_of}
use Rattle.table_block.proofs.slots.hash.Given as goal

abbrev pub invariant-loop-byte : goal.invariant-loop-byte
invariant-loop-byte l = l.hash ≡ hash_of (take l.byte-index l.key)
