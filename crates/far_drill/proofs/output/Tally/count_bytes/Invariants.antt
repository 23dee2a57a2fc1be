use Rattle.std.proofs.Common.{ℕ, ◌≤◌, List, ◌++◌, length, take}
use Rattle.far_drill.specs.Sink.{Counts}
use Rattle.far_drill.proofs.output.Tally.count_bytes.Given as goal

abbrev pub invariant-loop-byte : goal.invariant-loop-byte
invariant-loop-byte l = (length l.self.kept ≤ 16) × ((old : List ℕ) → Counts l.fn.self old → Counts l.self (old ++ take l.byte-index l.bytes))
