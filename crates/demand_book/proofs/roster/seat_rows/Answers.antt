use Rattle.std.proofs.Common.{◌≡◌, ◌<◌, length, get_or, map, sym, ap, ◌∙◌, arith}
use Rattle.std.specs.List.{zip}
use Rattle.std.proofs.lemmas.List.{take_all}
use Rattle.karma_rule.proofs.Walks.{rest_more, rest_set, write_step}
use Rattle.demand_book.specs.Book.{blank_row}
use Rattle.demand_book.specs.Roster.{seated}
use Rattle.demand_book.proofs.RosterRows.{seat_at, no_pair, pairs, pair_at}
use Rattle.demand_book.proofs.roster.seat_rows.Goals as goal

pub loop-user-preserved : goal.loop-user-preserved
loop-user-preserved c =
    let old = c.args.rows.now in
    let roster = c.args.roster.now in
    let user = c.loop-user.user in
    let inside : user < length c.loop-user.rows = omega arith in
    let in_old : user < length old = omega arith in
    let same : get_or c.loop-user.rows user blank_row ≡ get_or old user blank_row = (rest_more c.loop-user.rows old user blank_row inside in_old c.loop-user.invariant.rest).0 in
    record {
      seated = write_step (λ pair. seated c.newcomers-newcomer.result pair.0 pair.1) c.loop-user.rows (zip old roster) user c.seat_row.result no_pair inside (omega (arith, pairs old roster c.requires.seats)) c.loop-user.invariant.seated
          (c.seat_row.ensures ∙ ap (λ row. seated c.newcomers-newcomer.result row (seat_at roster user)) same
          ∙ ap (λ pair. seated c.newcomers-newcomer.result pair.0 pair.1) (sym (pair_at old roster c.requires.seats user in_old)));
      rest = rest_set c.loop-user.rows old user c.seat_row.result blank_row inside in_old c.loop-user.invariant.rest;
    }

pub returns-clause-rows : goal.returns-clause-rows
returns-clause-rows c =
    let old = c.args.rows.now in
    let roster = c.args.roster.now in
    let user = c.loop-user.user in
    sym (take_all user c.loop-user.rows (omega arith)) ∙ c.loop-user.invariant.seated
    ∙ ap (map (λ pair. seated c.newcomers-newcomer.result pair.0 pair.1)) (take_all user (zip old roster) (omega (arith, pairs old roster c.requires.seats)))
    ∙ ap (λ newcomer. map (λ pair. seated newcomer pair.0 pair.1) (zip old roster)) c.newcomers-newcomer.ensures
