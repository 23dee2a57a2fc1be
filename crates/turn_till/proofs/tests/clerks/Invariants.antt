use Rattle.std.proofs.Common.{◌≡◌, All}
use Rattle.turn_cell.specs.declared.cell.TheConstants.{CALLS_EACH}
use Rattle.turn_till.proofs.tests.clerks.Given as goal

abbrev pub invariant-loop-thread : goal.invariant-loop-thread
invariant-loop-thread l = record {
  owner : l.owner ≡ record l.initial.owner { made = l.owner.made; found = l.owner.found };
  cell : All (λ pass. pass.cell ≡ l.cell) l.clerks.items;
  left : All (λ pass. pass.left ≡ CALLS_EACH) l.clerks.items;
}
