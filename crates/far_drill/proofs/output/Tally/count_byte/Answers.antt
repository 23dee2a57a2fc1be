use Rattle.std.proofs.Common.{length, refl, ap, arith}
use Rattle.far_drill.proofs.Counted.{counts_more, counts_full}
use Rattle.far_drill.proofs.output.Tally.count_byte.Goals as goal

pub returns-then-bytes-lt-KEPT-clause-counts : goal.returns-then-bytes-lt-KEPT-clause-counts
returns-then-bytes-lt-KEPT-clause-counts c = λ bytes counts.
    counts_more c.args.self.now _ bytes c.args.byte c.if-byte-eq10.false refl refl counts c.push.ensures (omega (arith, c.if-bytes-lt-KEPT.true, ap length c.bytes.ensures))

pub returns-else-bytes-lt-KEPT-clause-counts : goal.returns-else-bytes-lt-KEPT-clause-counts
returns-else-bytes-lt-KEPT-clause-counts c = λ bytes counts.
    counts_full c.args.self.now _ bytes c.args.byte c.if-byte-eq10.false refl refl counts refl (omega (arith, c.if-bytes-lt-KEPT.false, ap length c.bytes.ensures))
