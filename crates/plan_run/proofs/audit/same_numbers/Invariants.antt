use Rattle.std.proofs.Common.{◌≡◌, ℕ, ◌<◌, get_or}
use Rattle.quantum_text.specs.LineKind.{numbers_of}
use Rattle.plan_run.proofs.audit.same_numbers.Given as goal

abbrev pub invariant-loop-index : goal.invariant-loop-index
invariant-loop-index l = (k : ℕ) → k < l.index → get_or (numbers_of l.kind l.read) k 0 ≡ get_or (numbers_of l.kind l.wanted) k 0
