use Rattle.std.proofs.Common.{◌≡◌, ◌+◌, ◌<◌, Some, sym, ap, ◌∙◌, arith}
use Rattle.karma_rule.specs.Karma.{first_best, lendable}
use Rattle.karma_rule.specs.OpenRow.{row_borrows, row_lends, has_more, has_fewer}
use Rattle.karma_rule.proofs.LoanOfRows.{Borrows, Lends, borrows_at, lends_at, all_open_borrowed, all_open_lent, rows_borrowed, no_borrower, no_slice, next_donated, next_shared, takes_donated, takes_shared}
use Rattle.karma_rule.proofs.plain.make_loan.Goals as goal

pub returns-in_default-clause-next : goal.returns-in_default-clause-next
returns-in_default-clause-next c = sym (no_borrower c.args.rows.now c.args.shared.now (sym c.next_borrower.ensures ∙ c.in_default.is))

pub overflow_sub-row : goal.overflow_sub-row
overflow_sub-row c =
    let h : Borrows c.args.rows.now c.in-Some.borrower = borrows_at _ _ c.requires (sym c.next_borrower.ensures ∙ c.in-Some.is) in
    omega (arith, h.pays)

pub overflow_add-row : goal.overflow_add-row
overflow_add-row c =
    let h : Borrows c.args.rows.now c.in-Some.borrower = borrows_at _ _ c.requires (sym c.next_borrower.ensures ∙ c.in-Some.is) in
    omega (arith, h.unmet, h.rows_open.small)

pub overflow_add-row-in-Some-next_donor-2 : goal.overflow_add-row-in-Some-next_donor-2
overflow_add-row-in-Some-next_donor-2 c =
    let eb : first_best row_borrows has_more c.args.rows.now ≡ Some c.in-Some.borrower = sym c.next_borrower.ensures ∙ c.in-Some.is in
    let ed : first_best row_lends has_fewer c.args.rows.now ≡ Some c.in-Some-next_donor.donor = sym c.next_donor.ensures ∙ c.in-Some-next_donor.is in
    let h : Borrows c.args.rows.now c.in-Some.borrower = borrows_at _ _ c.requires eb in
    let l : Lends (rows_borrowed c.args.rows.now c.in-Some.borrower) c.in-Some-next_donor.donor = lends_at _ _ _ c.requires h ed in
    omega (arith, l.has_left)

pub returns-in-Some-next_donor-clause-next : goal.returns-in-Some-next_donor-clause-next
returns-in-Some-next_donor-clause-next c =
    next_donated c.args.rows.now c.args.shared.now c.in-Some.borrower c.in-Some-next_donor.donor c.requires (sym c.next_borrower.ensures ∙ c.in-Some.is) (sym c.next_donor.ensures ∙ c.in-Some-next_donor.is)

pub returns-in-Some-next_donor-clause-made : goal.returns-in-Some-next_donor-clause-made
returns-in-Some-next_donor-clause-made c =
    takes_donated c.args.rows.now c.args.shared.now c.in-Some.borrower c.in-Some-next_donor.donor c.requires (sym c.next_borrower.ensures ∙ c.in-Some.is) (sym c.next_donor.ensures ∙ c.in-Some-next_donor.is)
    ∙ ap (λ q. lendable q + 1) (sym (returns-in-Some-next_donor-clause-next c))

pub returns-in-Some-next_donor-clause-rows_open : goal.returns-in-Some-next_donor-clause-rows_open
returns-in-Some-next_donor-clause-rows_open c =
    let eb : first_best row_borrows has_more c.args.rows.now ≡ Some c.in-Some.borrower = sym c.next_borrower.ensures ∙ c.in-Some.is in
    let ed : first_best row_lends has_fewer c.args.rows.now ≡ Some c.in-Some-next_donor.donor = sym c.next_donor.ensures ∙ c.in-Some-next_donor.is in
    let h : Borrows c.args.rows.now c.in-Some.borrower = borrows_at _ _ c.requires eb in
    all_open_lent (rows_borrowed c.args.rows.now c.in-Some.borrower) c.in-Some-next_donor.donor (all_open_borrowed c.args.rows.now c.in-Some.borrower c.requires h) (lends_at _ _ _ c.requires h ed)

pub returns-then-shared-eq0-clause-next : goal.returns-then-shared-eq0-clause-next
returns-then-shared-eq0-clause-next c =
    sym (no_slice c.args.rows.now c.args.shared.now c.in-Some.borrower (sym c.next_borrower.ensures ∙ c.in-Some.is) (sym c.next_donor.ensures ∙ c.in_default-next_donor.is) c.if-shared-eq0.true)

pub overflow_sub-row-2 : goal.overflow_sub-row-2
overflow_sub-row-2 c =
    let h : Borrows c.args.rows.now c.in-Some.borrower = borrows_at _ _ c.requires (sym c.next_borrower.ensures ∙ c.in-Some.is) in
    omega (arith, h.pays)

pub overflow_add-row-2 : goal.overflow_add-row-2
overflow_add-row-2 c =
    let h : Borrows c.args.rows.now c.in-Some.borrower = borrows_at _ _ c.requires (sym c.next_borrower.ensures ∙ c.in-Some.is) in
    omega (arith, h.unmet, h.rows_open.small)

pub returns-clause-next : goal.returns-clause-next
returns-clause-next c =
    let some : 0 < c.args.shared.now = omega arith in
    next_shared c.args.rows.now c.args.shared.now c.in-Some.borrower c.requires (sym c.next_borrower.ensures ∙ c.in-Some.is) (sym c.next_donor.ensures ∙ c.in_default-next_donor.is) some

pub returns-clause-made : goal.returns-clause-made
returns-clause-made c =
    let some : 0 < c.args.shared.now = omega arith in
    takes_shared c.args.rows.now c.args.shared.now c.in-Some.borrower (sym c.next_borrower.ensures ∙ c.in-Some.is) (sym c.next_donor.ensures ∙ c.in_default-next_donor.is) some
    ∙ ap (λ q. lendable q + 1) (sym (returns-clause-next c))

pub returns-clause-rows_open : goal.returns-clause-rows_open
returns-clause-rows_open c =
    let h : Borrows c.args.rows.now c.in-Some.borrower = borrows_at _ _ c.requires (sym c.next_borrower.ensures ∙ c.in-Some.is) in
    all_open_borrowed c.args.rows.now c.in-Some.borrower c.requires h
