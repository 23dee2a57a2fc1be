use Rattle.std.proofs.Common.{◌≡◌, length}
use Rattle.far_memory.proofs.memory_shelves.Given as goal

abbrev pub invariant-loop : goal.invariant-loop
invariant-loop l = record { made : length l.shelves.items ≡ l.counter }
