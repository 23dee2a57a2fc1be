use Rattle.std.proofs.Common.{◌≡◌, take}
use Rattle.far_io.specs.Lines.{line_of}
use Rattle.far_io.proofs.lines.find_end.Given as goal

abbrev pub invariant-loop-i : goal.invariant-loop-i
invariant-loop-i l = line_of (take l.i l.bytes) ≡ take l.i l.bytes
