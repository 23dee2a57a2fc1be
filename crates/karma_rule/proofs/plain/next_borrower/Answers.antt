use Rattle.std.proofs.Common.{get_or, arith}
use Rattle.std.proofs.lemmas.Bool.Decides.{nat_tests}
use Rattle.karma_rule.specs.OpenRow.{row_borrows, has_more}
use Rattle.karma_rule.proofs.FirstBest.{step_skips, step_first, step_better, step_keeps, found_all}
use Rattle.karma_rule.proofs.RowsOfUsers.{rows_by_more, row_borrows_yes, row_borrows_met, row_borrows_poor, no_row}
use Rattle.karma_rule.proofs.plain.next_borrower.Goals as goal
use Rattle.karma_rule.proofs.plain.next_borrower.Goals.{then-row+then-row-gt0+in-None, then-row+then-row-gt0+in-Some+then-rows-found, then-row+then-row-gt0+in-Some+else-rows-found, else-row, else-row-via-then-row+else-row-gt0, else-row-via-else-row}

pub loop-i-preserved : goal.loop-i-preserved
loop-i-preserved c =
    elim c.if-row.branch [
      | then-row+then-row-gt0+in-None w ↦
          step_first row_borrows has_more rows_by_more _ _ _ _ no_row c.loop-i-test.true c.loop-i.invariant w.in-None.is
          (row_borrows_yes (get_or c.args.rows.now c.loop-i.i no_row) w.if-row.true w.if-row-gt0.true) w.richest-is
      | then-row+then-row-gt0+in-Some+then-rows-found w ↦
          step_better row_borrows has_more rows_by_more _ _ _ _ _ no_row c.loop-i-test.true c.loop-i.invariant w.in-Some.is
          (row_borrows_yes (get_or c.args.rows.now c.loop-i.i no_row) w.if-row.true w.if-row-gt0.true) (let l = w.if-rows-found.true in grind (arith, nat_tests)) w.richest-is
      | then-row+then-row-gt0+in-Some+else-rows-found w ↦
          step_keeps row_borrows has_more _ _ _ _ _ no_row c.loop-i-test.true c.loop-i.invariant w.in-Some.is
          (let l = w.if-rows-found.false in grind (arith, nat_tests)) w.richest-is
      | else-row w ↦
          step_skips row_borrows has_more _ _ _ _ no_row c.loop-i-test.true c.loop-i.invariant
          (elim w.else-row.branch [
            | else-row-via-then-row+else-row-gt0 v ↦ row_borrows_poor (get_or c.args.rows.now c.loop-i.i no_row) v.if-row-gt0.false
            | else-row-via-else-row v ↦ row_borrows_met (get_or c.args.rows.now c.loop-i.i no_row) v.if-row.false
          ])
          w.richest-is
    ]

pub returns : goal.returns
returns c = found_all row_borrows has_more c.args.rows.now c.loop-i.i _ (omega arith) c.loop-i.invariant
