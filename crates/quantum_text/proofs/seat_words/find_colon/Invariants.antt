use Rattle.std.proofs.Common.{take}
use Rattle.quantum_text.specs.Shares.{HasNoColon}
use Rattle.quantum_text.proofs.seat_words.find_colon.Given as goal

abbrev pub invariant-loop-i : goal.invariant-loop-i
invariant-loop-i l = HasNoColon (take l.i l.word)
