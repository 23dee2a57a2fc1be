use Rattle.std.proofs.Common.{take}
use Rattle.far_io.specs.Words.{HasNoSpace}
use Rattle.far_io.proofs.words.find_space.Given as goal

abbrev pub invariant-loop-i : goal.invariant-loop-i
invariant-loop-i l = HasNoSpace (take l.i l.line)
