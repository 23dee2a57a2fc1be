use Rattle.std.specs.Io.KnownBytes.{Keeps}
use Rattle.far_io.proofs.real.read_patiently.Given as goal

abbrev pub invariant-loop : goal.invariant-loop
invariant-loop g l = Keeps (g.R.Read.remaining l.initial.inner) (g.R.Read.remaining l.inner)
