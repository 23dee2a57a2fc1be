use Rattle.std.proofs.Common.{◌≡◌, All}
use Rattle.bench_cell.proofs.threads.passes.Given as goal

abbrev pub invariant-loop-thread : goal.invariant-loop-thread
invariant-loop-thread l = record {
  first : l.first ≡ record l.initial.first { made = l.first.made; found = l.first.found };
  cell : All (λ pass. (pass.cell ≡ l.cell) × (pass.left ≡ 4294967296)) l.passes.items;
}
