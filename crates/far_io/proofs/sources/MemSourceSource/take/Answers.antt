use Rattle.std.proofs.Common.{ap, arith}
use Rattle.far_io.proofs.Left.{takes_memory}
use Rattle.far_io.proofs.sources.MemSourceSource.take.Goals as goal

pub returns-clause-bytes : goal.returns-clause-bytes
returns-clause-bytes c =
    let got = c.copy_from-count.ensures in
    rw (← ap (λ s. s.left) c.self.view_is)
    (takes_memory (Unit {0}) _ _ _ _ _ c.items.ensures got.copied (λ room here. omega (arith, got.count, c.self.invariant.1)))
