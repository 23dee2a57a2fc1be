use Rattle.std.proofs.Common.{◌≡◌, ◌+◌, ◌<◌, ◌≤◌, length, get_or, take, sym, ap, ◌∙◌, subst, arith}
use Rattle.std.specs.List.{sum_by}
use Rattle.std.proofs.lemmas.List.Sums.{sum_by_more}
use Rattle.karma_rule.specs.declared.limits.TheConstants.{MOST_DEMAND}
use Rattle.karma_rule.specs.Karma.{if_present, surplus, opened}
use Rattle.karma_rule.specs.OpenRow.{user_of, IsOpenRow}
use Rattle.karma_rule.specs.Quanta.{IsReady}
use Rattle.karma_rule.proofs.Walks.{rest_more, rest_set, map_step, all_step}
use Rattle.karma_rule.proofs.RowsOfUsers.{no_row}
use Rattle.karma_batch.specs.declared.side.Side.TheVariants.{Borrowers, Donors}
use Rattle.karma_batch.specs.Levels.{movable_of}
use Rattle.karma_batch.proofs.LevelRows.{room_bound, total_more}
use Rattle.karma_batch.proofs.batch.open_all.Goals as goal

pub open_row-shared-requires : goal.open_row-shared-requires
open_row-shared-requires c =
    let inside : c.loop-row.row-index < length c.loop-row.rows = omega arith in
    let same : get_or c.loop-row.rows c.loop-row.row-index no_row ≡ get_or c.args.rows.now c.loop-row.row-index no_row = (rest_more c.loop-row.rows c.args.rows.now c.loop-row.row-index no_row inside (omega arith) c.loop-row.invariant.rest).0 in
    subst (λ row. IsReady row) (sym same) (c.requires.ready c.loop-row.row-index no_row (omega arith))

pub overflow_add-wanted : goal.overflow_add-wanted
overflow_add-wanted c =
    let one : movable_of Borrowers c.open_row-shared.new.row ≤ MOST_DEMAND = room_bound Borrowers c.open_row-shared.new.row c.open_row-shared.ensures.row_open in
    omega (arith, c.room-wanted.ensures, c.loop-row.invariant.few_wanted, c.requires.users)

pub overflow_add-donated : goal.overflow_add-donated
overflow_add-donated c =
    let one : movable_of Donors c.open_row-shared.new.row ≤ MOST_DEMAND = room_bound Donors c.open_row-shared.new.row c.open_row-shared.ensures.row_open in
    omega (arith, c.room-donated.ensures, c.loop-row.invariant.few_donated, c.requires.users)

pub loop-row-preserved : goal.loop-row-preserved
loop-row-preserved c =
    let place = c.loop-row.row-index in
    let old = c.args.rows.now in
    let inside : place < length c.loop-row.rows = omega arith in
    let in_old : place < length old = omega arith in
    let same : get_or c.loop-row.rows place no_row ≡ get_or old place no_row = (rest_more c.loop-row.rows old place no_row inside in_old c.loop-row.invariant.rest).0 in
    let wants : movable_of Borrowers c.open_row-shared.new.row ≤ MOST_DEMAND = room_bound Borrowers c.open_row-shared.new.row c.open_row-shared.ensures.row_open in
    let donates : movable_of Donors c.open_row-shared.new.row ≤ MOST_DEMAND = room_bound Donors c.open_row-shared.new.row c.open_row-shared.ensures.row_open in
    record {
      users = map_step user_of opened c.loop-row.rows old place c.open_row-shared.new.row no_row inside in_old c.loop-row.invariant.users (c.open_row-shared.ensures.user ∙ ap opened same);
      rows_open = all_step IsOpenRow c.loop-row.rows place c.open_row-shared.new.row inside c.loop-row.invariant.rows_open c.open_row-shared.ensures.row_open;
      rest = rest_set c.loop-row.rows old place c.open_row-shared.new.row no_row inside in_old c.loop-row.invariant.rest;
      shared = ap (λ sum. sum + c.open_row-shared.result) c.loop-row.invariant.shared
          ∙ ap (λ part. sum_by (if_present surplus) (take place old) + part) (c.open_row-shared.ensures.shared ∙ ap (if_present surplus) same)
          ∙ sym (sum_by_more (if_present surplus) old place no_row in_old);
      few_shared = omega (arith, c.loop-row.invariant.few_shared, c.open_row-shared.ensures.few);
      wanted = ap (λ part. c.loop-row.wanted + part) c.room-wanted.ensures ∙ total_more Borrowers c.loop-row.rows place c.loop-row.wanted c.open_row-shared.new.row inside c.loop-row.invariant.wanted;
      few_wanted = omega (arith, c.room-wanted.ensures, c.loop-row.invariant.few_wanted);
      donated = ap (λ part. c.loop-row.donated + part) c.room-donated.ensures ∙ total_more Donors c.loop-row.rows place c.loop-row.donated c.open_row-shared.new.row inside c.loop-row.invariant.donated;
      few_donated = omega (arith, c.room-donated.ensures, c.loop-row.invariant.few_donated);
    }
