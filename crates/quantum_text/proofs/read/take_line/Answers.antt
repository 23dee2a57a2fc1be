use Rattle.std.proofs.Common.{refl}
use Rattle.quantum_text.proofs.NextLine.{missing, too_long}
use Rattle.quantum_text.proofs.read.take_line.Goals as goal

pub returns-else-begins-clause-none : goal.returns-else-begins-clause-none
returns-else-begins-clause-none g c = λ agrees.
    let got = rw c.in-Err-End.field-0-is at c.in-Err-End.ensures in
    rw c.next_is_bad.ensures (missing c.args.begins _ _ _ _ c.if-begins.false got.read (got.end refl agrees))

pub returns-in-Err-TooLong-clause-none : goal.returns-in-Err-TooLong-clause-none
returns-in-Err-TooLong-clause-none g c = λ agrees.
    let read = rw c.in-Err-TooLong.field-0-is at c.in-Err-TooLong.ensures.read in
    rw c.next_is_bad-in-Err-TooLong.ensures (too_long c.args.begins _ _ _ _ _ read)
