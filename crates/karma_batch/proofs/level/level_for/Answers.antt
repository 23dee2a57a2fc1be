use Rattle.std.proofs.Common.{◌≡◌, ◌≤◌, sum_by, sym, ◌∙◌, arith}
use Rattle.karma_rule.specs.declared.limits.TheConstants.{CREDITS_TOP}
use Rattle.karma_batch.specs.declared.ramp.TheConstants.{MOST_MOVED}
use Rattle.karma_batch.specs.Levels.{movable_of, above}
use Rattle.karma_batch.proofs.LevelRows.{sum_bound}
use Rattle.karma_batch.proofs.RampRows.{sum_top, whole}
use Rattle.karma_batch.proofs.level.level_for.Goals as goal

pub search-requires-clause-small : goal.search-requires-clause-small
search-requires-clause-small c level =
    let bound : sum_by (above c.args.side level) c.args.rows.now ≤ MOST_MOVED = sum_bound c.args.side level c.args.rows.now c.requires.users c.requires.rows_open in
    omega (arith, c.gather-first.ensures.moved level)

pub search-requires-clause-top : goal.search-requires-clause-top
search-requires-clause-top c = c.gather-first.ensures.moved CREDITS_TOP ∙ sum_top c.args.side c.args.rows.now c.requires.rows_open

pub returns-then-total-count-clause-moved : goal.returns-then-total-count-clause-moved
returns-then-total-count-clause-moved c = c.requires.total ∙ sym (whole c.args.side c.args.rows.now c.requires.rows_open)

pub search-requires-clause-some : goal.search-requires-clause-some
search-requires-clause-some c =
    let all : sum_by (above c.args.side 0) c.args.rows.now ≡ sum_by (movable_of c.args.side) c.args.rows.now = whole c.args.side c.args.rows.now c.requires.rows_open in
    omega (arith, c.gather-first.ensures.moved 0, c.requires.total, c.if-total-count.false)
