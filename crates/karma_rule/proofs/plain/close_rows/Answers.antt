use Rattle.std.proofs.Common.{◌≡◌, ◌<◌, length, get_or, arith}
use Rattle.karma_rule.specs.OpenRow.{closed}
use Rattle.karma_rule.proofs.Walks.{rest_more, rest_set, write_step}
use Rattle.karma_rule.proofs.RowsOfUsers.{no_row, row_closed}
use Rattle.karma_rule.proofs.plain.close_rows.Goals as goal

pub loop-row-preserved : goal.loop-row-preserved
loop-row-preserved c =
    let l : c.loop-row.row-index < length c.loop-row.rows = omega arith in
    let m : c.loop-row.row-index < length c.args.rows.now = omega arith in
    let here : get_or c.loop-row.rows c.loop-row.row-index no_row ≡ get_or c.args.rows.now c.loop-row.row-index no_row = (rest_more c.loop-row.rows c.args.rows.now c.loop-row.row-index no_row l m c.loop-row.invariant.rest).0 in
    record {
      closed = write_step closed c.loop-row.rows c.args.rows.now c.loop-row.row-index _ no_row l m c.loop-row.invariant.closed (row_closed c.min-row.result (get_or c.loop-row.rows c.loop-row.row-index no_row) _ here c.min-row.ensures);
      rest = rest_set c.loop-row.rows c.args.rows.now c.loop-row.row-index _ no_row l m c.loop-row.invariant.rest;
    }
