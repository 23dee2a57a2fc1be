use Rattle.std.proofs.Common.{◌≡◌, map, take, drop}
use Rattle.karma_rule.specs.OpenRow.{closed}
use Rattle.karma_rule.proofs.plain.close_rows.Given as goal

abbrev pub invariant-loop-row : goal.invariant-loop-row
invariant-loop-row l = record {
  closed : take l.row-index l.rows ≡ map closed (take l.row-index l.fn.rows);
  rest : drop l.row-index l.rows ≡ drop l.row-index l.fn.rows;
}
