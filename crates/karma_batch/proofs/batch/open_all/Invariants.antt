use Rattle.std.proofs.Common.{◌≡◌, ◌*◌, ◌≤◌, map, take, drop}
use Rattle.std.specs.List.{sum_by, All}
use Rattle.karma_rule.specs.declared.limits.TheConstants.{MOST_FAIR, MOST_DEMAND}
use Rattle.karma_rule.specs.Karma.{if_present, opened, surplus}
use Rattle.karma_rule.specs.OpenRow.{user_of, IsOpenRow}
use Rattle.karma_batch.specs.declared.side.Side.TheVariants.{Borrowers, Donors}
use Rattle.karma_batch.specs.Levels.{movable_of}
use Rattle.karma_batch.proofs.batch.open_all.Given as goal

abbrev pub invariant-loop-row : goal.invariant-loop-row
invariant-loop-row l = record {
  users : map user_of (take l.row-index l.rows) ≡ map opened (take l.row-index l.fn.rows);
  rows_open : All IsOpenRow (take l.row-index l.rows);
  rest : drop l.row-index l.rows ≡ drop l.row-index l.fn.rows;
  shared : l.shared ≡ sum_by (if_present surplus) (take l.row-index l.fn.rows);
  few_shared : l.shared ≤ l.row-index * MOST_FAIR;
  wanted : l.wanted ≡ sum_by (movable_of Borrowers) (take l.row-index l.rows);
  few_wanted : l.wanted ≤ l.row-index * MOST_DEMAND;
  donated : l.donated ≡ sum_by (movable_of Donors) (take l.row-index l.rows);
  few_donated : l.donated ≤ l.row-index * MOST_DEMAND;
}
