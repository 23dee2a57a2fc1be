use Rattle.std.proofs.Common.{◌≡◌, ◌*◌, ◌≤◌}
use Rattle.karma_rule.specs.declared.limits.TheConstants.{CREDITS_BOUND}
use Rattle.demand_book.proofs.RosterRows.{so_far}
use Rattle.demand_book.proofs.roster.newcomers.Given as goal

abbrev pub invariant-loop-user : goal.invariant-loop-user
invariant-loop-user l = record {
  total : l.total ≡ so_far l.rows l.roster (λ row. row.credits) l.user;
  count : l.count ≡ so_far l.rows l.roster (λ row. 1) l.user;
  many : l.count ≤ l.user;
  small : l.total ≤ l.count * CREDITS_BOUND;
}
