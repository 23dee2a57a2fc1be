use Rattle.std.proofs.Common.{sym}
use Rattle.karma_rule.proofs.RowsOfUsers.{row_opened, surplus_is}
use Rattle.karma_rule.proofs.plain.open_row.Goals as goal

pub returns-clause-user : goal.returns-clause-user
returns-clause-user c = row_opened c.min-row.result c.args.row.now c.min-row.ensures c.requires

pub returns-clause-shared : goal.returns-clause-shared
returns-clause-shared c = sym (surplus_is c.args.row.now c.requires.away)
