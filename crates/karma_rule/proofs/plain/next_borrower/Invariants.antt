use Rattle.karma_rule.specs.OpenRow.{row_borrows, has_more}
use Rattle.karma_rule.proofs.FirstBest.{Found}
use Rattle.karma_rule.proofs.plain.next_borrower.Given as goal

abbrev pub invariant-loop-i : goal.invariant-loop-i
invariant-loop-i l = Found row_borrows has_more l.rows l.i l.richest
