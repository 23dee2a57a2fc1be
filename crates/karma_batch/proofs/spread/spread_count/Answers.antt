use Rattle.std.proofs.Common.{◌-◌, ◌≤◌, sum_by, get_or, ap, ◌∙◌, arith}
use Rattle.karma_batch.specs.Levels.{movable_of, above, amounts, all_moved}
use Rattle.karma_batch.proofs.LevelRows.{key_bound}
use Rattle.karma_batch.proofs.SpreadInOrder.{spread_is}
use Rattle.karma_batch.proofs.spread.spread_count.Goals as goal

pub returns : goal.returns
returns c =
    let enough : c.args.count ≤ sum_by (movable_of c.args.side) c.args.rows.now = omega (arith, c.requires.count, c.requires.total) in
    let fits : sum_by (above c.args.side c.level_for-found.result.level) c.args.rows.now ≤ c.args.count = omega (arith, c.level_for-found.ensures.moved, c.level_for-found.ensures.fits) in
    record {
      moved = amounts c.args.side c.level_for-found.result.level (c.args.count - sum_by (above c.args.side c.level_for-found.result.level) c.args.rows.now) c.args.rows.now;
      spread = spread_is c.args.side c.level_for-found.result.level c.args.count c.args.rows.now
          (λ k d l. (key_bound c.args.side (get_or c.args.rows.now k d) (c.requires.rows_open k d l)).1)
          enough fits c.level_for-found.ensures.tight;
      new_is = c.spread_at.ensures ∙ ap (λ s. all_moved c.args.side c.args.rows.now (amounts c.args.side c.level_for-found.result.level (c.args.count - s) c.args.rows.now)) c.level_for-found.ensures.moved;
    }
