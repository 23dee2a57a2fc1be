use Rattle.std.proofs.Common.{◌≡◌, ◌+◌, ◌<◌, true, false, sym, ap, ◌∙◌, arith}
use Rattle.karma_rule.specs.declared.limits.TheConstants.{CREDITS_BOUND}
use Rattle.demand_book.specs.Book.{blank_row}
use Rattle.demand_book.specs.Roster.{stays, average_or, of_stayers}
use Rattle.demand_book.proofs.RosterRows.{seat_at, row_of_user, kept_is, goes_is, one_stays, one_goes, all_so_far}
use Rattle.demand_book.proofs.roster.newcomers.Goals as goal
use Rattle.demand_book.proofs.roster.newcomers.Goals.{in-Some, in_default}

pub overflow_add-total : goal.overflow_add-total
overflow_add-total c =
    let kept : (stays (row_of_user c.args.rows.now c.loop-user.user) (seat_at c.args.roster.now c.loop-user.user) ≡ true) × (c.in-Some.kept ≡ (row_of_user c.args.rows.now c.loop-user.user).credits) = kept_is _ _ _ (sym c.in-Some.is ∙ c.credits_kept.ensures) in
    let bound : (row_of_user c.args.rows.now c.loop-user.user).credits < CREDITS_BOUND = c.requires.credits c.loop-user.user blank_row c.loop-user-test.true in
    omega (arith, kept.1, c.from-total.ensures, c.loop-user.invariant.many, c.loop-user.invariant.small, c.requires.users)

pub loop-user-preserved : goal.loop-user-preserved
loop-user-preserved c =
    let rows = c.args.rows.now in
    let roster = c.args.roster.now in
    let user = c.loop-user.user in
    elim c.match-credits_kept.branch [
      | in-Some w ↦
          let kept : (stays (row_of_user rows user) (seat_at roster user) ≡ true) × (w.in-Some.kept ≡ (row_of_user rows user).credits) = kept_is _ _ _ (sym w.in-Some.is ∙ c.credits_kept.ensures) in
          let bound : (row_of_user rows user).credits < CREDITS_BOUND = c.requires.credits user blank_row c.loop-user-test.true in
          record {
            total = w.total-is ∙ ap (λ part. c.loop-user.total + part) (w.from-total.ensures ∙ kept.1)
                ∙ one_stays rows roster c.requires.seats (λ row. row.credits) user c.loop-user.total c.loop-user-test.true kept.0 c.loop-user.invariant.total;
            count = w.count-is ∙ one_stays rows roster c.requires.seats (λ row. 1) user c.loop-user.count c.loop-user-test.true kept.0 c.loop-user.invariant.count;
            many = omega (arith, w.count-is, c.loop-user.invariant.many);
            small = omega (arith, w.count-is, w.total-is, w.from-total.ensures, kept.1, c.loop-user.invariant.small);
          }
      | in_default w ↦
          let goes : stays (row_of_user rows user) (seat_at roster user) ≡ false = goes_is _ _ (sym w.in_default.is ∙ c.credits_kept.ensures) in
          record {
            total = w.total-is ∙ one_goes rows roster c.requires.seats (λ row. row.credits) user c.loop-user.total c.loop-user-test.true goes c.loop-user.invariant.total;
            count = w.count-is ∙ one_goes rows roster c.requires.seats (λ row. 1) user c.loop-user.count c.loop-user-test.true goes c.loop-user.invariant.count;
            many = omega (arith, w.count-is, c.loop-user.invariant.many);
            small = omega (arith, w.count-is, w.total-is, c.loop-user.invariant.small);
          }
    ]

pub returns : goal.returns
returns c =
    let rows = c.args.rows.now in
    let roster = c.args.roster.now in
    c.average.ensures
    ∙ ap (λ total. average_or c.args.credits total c.loop-user.count) (c.loop-user.invariant.total ∙ all_so_far rows roster c.requires.seats (λ row. row.credits) c.loop-user.user c.loop-user-test.false)
    ∙ ap (average_or c.args.credits (of_stayers (λ row. row.credits) rows roster)) (c.loop-user.invariant.count ∙ all_so_far rows roster c.requires.seats (λ row. 1) c.loop-user.user c.loop-user-test.false)
