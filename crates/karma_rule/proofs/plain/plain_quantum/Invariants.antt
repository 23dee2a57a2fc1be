use Rattle.std.proofs.Common.{◌≡◌}
use Rattle.std.specs.List.{All}
use Rattle.karma_rule.specs.Karma.{opening, closing, lendable}
use Rattle.karma_rule.specs.OpenRow.{quantum_of, IsOpenRow}
use Rattle.karma_rule.proofs.plain.plain_quantum.Given as goal

abbrev pub invariant-loans : goal.invariant-loans
invariant-loans l = record {
  closes : closing (quantum_of l.rows l.shared) ≡ closing (opening l.fn.rows);
  rows_open : All IsOpenRow l.rows;
}

abbrev pub decreases-loans : goal.decreases-loans
decreases-loans l = lendable (quantum_of l.rows l.shared)
