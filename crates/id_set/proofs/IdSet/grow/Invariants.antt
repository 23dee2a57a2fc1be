use Rattle.std.proofs.Common.{◌≡◌, ◌≤◌, ◌-◌, length}
use Rattle.id_set.proofs.GrowLemmas.{copied}
use Rattle.id_set.proofs.IdSet.grow.Given as goal

abbrev pub invariant-loop-id : goal.invariant-loop-id
invariant-loop-id l = record {
  copied : l.grown ≡ copied l.self l.id (l.bound - l.id) l.member;
  end : l.id-end ≡ length l.self;
  bounded : length l.self ≤ l.bound;
}
