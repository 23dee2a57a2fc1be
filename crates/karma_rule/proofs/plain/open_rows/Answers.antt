use Rattle.std.proofs.Common.{◌≡◌, ◌+◌, ◌<◌, length, get_or, take, sym, ap, ◌∙◌, subst, arith}
use Rattle.std.specs.List.{sum_by}
use Rattle.std.proofs.lemmas.List.Sums.{sum_by_more}
use Rattle.karma_rule.specs.Karma.{if_present, surplus, opened}
use Rattle.karma_rule.specs.OpenRow.{user_of, IsOpenRow}
use Rattle.karma_rule.specs.Quanta.{IsReady}
use Rattle.karma_rule.proofs.Walks.{rest_more, rest_set, map_step, all_step}
use Rattle.karma_rule.proofs.RowsOfUsers.{no_row}
use Rattle.karma_rule.proofs.plain.open_rows.Goals as goal

pub open_row-shared-requires : goal.open_row-shared-requires
open_row-shared-requires c =
    let inside : c.loop-row.row-index < length c.loop-row.rows = omega arith in
    let same : get_or c.loop-row.rows c.loop-row.row-index no_row ≡ get_or c.args.rows.now c.loop-row.row-index no_row = (rest_more c.loop-row.rows c.args.rows.now c.loop-row.row-index no_row inside (omega arith) c.loop-row.invariant.rest).0 in
    subst (λ row. IsReady row) (sym same) (c.requires.ready c.loop-row.row-index no_row (omega arith))

pub loop-row-preserved : goal.loop-row-preserved
loop-row-preserved c =
    let place = c.loop-row.row-index in
    let old = c.args.rows.now in
    let inside : place < length c.loop-row.rows = omega arith in
    let in_old : place < length old = omega arith in
    let same : get_or c.loop-row.rows place no_row ≡ get_or old place no_row = (rest_more c.loop-row.rows old place no_row inside in_old c.loop-row.invariant.rest).0 in
    record {
      users = map_step user_of opened c.loop-row.rows old place c.open_row-shared.new.row no_row inside in_old c.loop-row.invariant.users (c.open_row-shared.ensures.user ∙ ap opened same);
      rows_open = all_step IsOpenRow c.loop-row.rows place c.open_row-shared.new.row inside c.loop-row.invariant.rows_open c.open_row-shared.ensures.row_open;
      rest = rest_set c.loop-row.rows old place c.open_row-shared.new.row no_row inside in_old c.loop-row.invariant.rest;
      shared = ap (λ sum. sum + c.open_row-shared.result) c.loop-row.invariant.shared
          ∙ ap (λ part. sum_by (if_present surplus) (take place old) + part) (c.open_row-shared.ensures.shared ∙ ap (if_present surplus) same)
          ∙ sym (sum_by_more (if_present surplus) old place no_row in_old);
      small = omega (arith, c.loop-row.invariant.small, c.open_row-shared.ensures.few);
    }
