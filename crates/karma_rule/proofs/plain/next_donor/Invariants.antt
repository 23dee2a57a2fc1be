use Rattle.karma_rule.specs.OpenRow.{row_lends, has_fewer}
use Rattle.karma_rule.proofs.FirstBest.{Found}
use Rattle.karma_rule.proofs.plain.next_donor.Given as goal

abbrev pub invariant-loop-i : goal.invariant-loop-i
invariant-loop-i l = Found row_lends has_fewer l.rows l.i l.poorest
