use Rattle.std.proofs.Common.{◌≡◌, ◌++◌, take, drop}
use Rattle.karma_batch.specs.Levels.{all_moved, amounts}
use Rattle.karma_batch.proofs.spread.spread_at.Given as goal

abbrev pub invariant-loop-row : goal.invariant-loop-row
invariant-loop-row l = record {
  so_far : take l.row-index l.rows ++ all_moved l.side (drop l.row-index l.rows) (amounts l.side l.level l.rest (drop l.row-index l.rows)) ≡ all_moved l.side l.fn.rows (amounts l.side l.level l.fn.rest l.fn.rows);
  untouched : drop l.row-index l.rows ≡ drop l.row-index l.fn.rows;
}
