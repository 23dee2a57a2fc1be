use Rattle.std.proofs.Common.{◌≡◌, ◌*◌, ◌≤◌, map, take, drop}
use Rattle.std.specs.List.{sum_by, All}
use Rattle.karma_rule.specs.declared.limits.TheConstants.{MOST_FAIR}
use Rattle.karma_rule.specs.Karma.{if_present, opened, surplus}
use Rattle.karma_rule.specs.OpenRow.{user_of, IsOpenRow}
use Rattle.karma_rule.proofs.plain.open_rows.Given as goal

abbrev pub invariant-loop-row : goal.invariant-loop-row
invariant-loop-row l = record {
  users : map user_of (take l.row-index l.rows) ≡ map opened (take l.row-index l.fn.rows);
  rows_open : All IsOpenRow (take l.row-index l.rows);
  rest : drop l.row-index l.rows ≡ drop l.row-index l.fn.rows;
  shared : l.shared ≡ sum_by (if_present surplus) (take l.row-index l.fn.rows);
  small : l.shared ≤ l.row-index * MOST_FAIR;
}
