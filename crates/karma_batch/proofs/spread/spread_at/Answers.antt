use Rattle.std.proofs.Common.{◌≡◌, ◌<◌, length, get_or, arith}
use Rattle.karma_rule.proofs.Walks.{rest_more}
use Rattle.karma_rule.proofs.RowsOfUsers.{no_row}
use Rattle.karma_batch.proofs.spread.spread_at.Goals as goal

pub move_part-rest-requires : goal.move_part-rest-requires
move_part-rest-requires c =
    let l : c.loop-row.row-index < length c.loop-row.rows = omega arith in
    let here : get_or c.loop-row.rows c.loop-row.row-index no_row ≡ get_or c.args.rows.now c.loop-row.row-index no_row = (rest_more c.loop-row.rows c.args.rows.now c.loop-row.row-index no_row l c.loop-row-test.true c.loop-row.invariant.untouched).0 in
    rw here (c.requires.rows_open c.loop-row.row-index no_row c.loop-row-test.true)
