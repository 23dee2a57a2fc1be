use Rattle.std.proofs.Common.{arith}
use Rattle.std.proofs.lemmas.Bool.Decides.{nat_tests}
use Rattle.karma_rule.specs.OpenRow.{row_lends, has_fewer}
use Rattle.karma_rule.proofs.FirstBest.{step_skips, step_first, step_better, step_keeps, found_all}
use Rattle.karma_rule.proofs.RowsOfUsers.{rows_by_fewer, no_row}
use Rattle.karma_rule.proofs.plain.next_donor.Goals as goal
use Rattle.karma_rule.proofs.plain.next_donor.Goals.{then-row+in-None, then-row+in-Some+then-row-rows, then-row+in-Some+else-row-rows, else-row}

pub loop-i-preserved : goal.loop-i-preserved
loop-i-preserved c =
    elim c.if-row.branch [
      | then-row+in-None w ↦
          step_first row_lends has_fewer rows_by_fewer _ _ _ _ no_row c.loop-i-test.true c.loop-i.invariant w.in-None.is
          (let l = w.if-row.true in grind (arith, nat_tests)) w.poorest-is
      | then-row+in-Some+then-row-rows w ↦
          step_better row_lends has_fewer rows_by_fewer _ _ _ _ _ no_row c.loop-i-test.true c.loop-i.invariant w.in-Some.is
          (let l = w.if-row.true in grind (arith, nat_tests)) (let l = w.if-row-rows.true in grind (arith, nat_tests)) w.poorest-is
      | then-row+in-Some+else-row-rows w ↦
          step_keeps row_lends has_fewer _ _ _ _ _ no_row c.loop-i-test.true c.loop-i.invariant w.in-Some.is
          (let l = w.if-row-rows.false in grind (arith, nat_tests)) w.poorest-is
      | else-row w ↦
          step_skips row_lends has_fewer _ _ _ _ no_row c.loop-i-test.true c.loop-i.invariant
          (let l = w.if-row.false in grind (arith, nat_tests)) w.poorest-is
    ]

pub returns : goal.returns
returns c = found_all row_lends has_fewer _ _ _ (omega arith) c.loop-i.invariant
