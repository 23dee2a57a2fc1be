-- A loan in the rows is the rule's loan among the users that they stand for.
use Rattle.std.proofs.Common.{◌≡◌, ◌≢◌, ℕ, zero, suc, ◌+◌, ◌-◌, ◌<◌, List, length, get_or, set, map, Option, Some, None, refl, sym, ap, ◌∙◌, arith, length-set, get_or-set_other}
use Rattle.std.specs.List.{All}
use Rattle.std.proofs.lemmas.List.Elements.{All-set, All-get_or}
use Rattle.karma_rule.specs.declared.row.Row.{Row}
use Rattle.karma_rule.specs.Karma.{User, Quantum, first_best, change_at, next_donor, borrow, lend, loan, next, lendable}
use Rattle.karma_rule.specs.OpenRow.{user_of, quantum_of, IsOpenRow, row_borrows, row_lends, has_more, has_fewer}
use Rattle.karma_rule.proofs.FirstBest.{IsFirstBest, IsFirstBest-from_first_best}
use Rattle.karma_rule.proofs.Changes.{map-set-change_at}
use Rattle.karma_rule.proofs.Loans.{lendable_donated, lendable_shared}
use Rattle.karma_rule.proofs.RowsOfUsers.{borrowed, lent, no_row, rows_by_more, rows_by_fewer, row_can_borrow, row_can_lend, user_borrowed, user_lent, open_borrowed, open_lent, borrower_of_rows, donor_of_rows}

-- what is known of the row that borrows
pub record Borrows (rows : List Row) (borrower : ℕ) : Type 0 where
  pub within : borrower < length rows
  pub unmet : (get_or rows borrower no_row).given < (get_or rows borrower no_row).demand
  pub pays : 0 < (get_or rows borrower no_row).credits
  pub rows_open : IsOpenRow (get_or rows borrower no_row)

pub borrows_at : (rows : List Row) (borrower : ℕ) → All IsOpenRow rows → first_best row_borrows has_more rows ≡ Some borrower → Borrows rows borrower
borrows_at rows borrower opened found =
    let best : IsFirstBest row_borrows has_more rows (length rows) borrower = IsFirstBest-from_first_best row_borrows has_more rows_by_more rows borrower found in
    let can : ((get_or rows borrower no_row).given < (get_or rows borrower no_row).demand) × (0 < (get_or rows borrower no_row).credits) = row_can_borrow (get_or rows borrower no_row) (best.passing no_row) in
    record { within = best.within; unmet = can.0; pays = can.1; rows_open = All-get_or IsOpenRow rows borrower no_row best.within opened }

-- the rows after the borrower's part of a loan
abbrev pub rows_borrowed : List Row → ℕ → List Row
rows_borrowed rows borrower = set rows borrower (borrowed (get_or rows borrower no_row))

abbrev pub rows_lent : List Row → ℕ → List Row
rows_lent rows donor = set rows donor (lent (get_or rows donor no_row))

pub all_open_borrowed : (rows : List Row) (borrower : ℕ) → All IsOpenRow rows → Borrows rows borrower → All IsOpenRow (rows_borrowed rows borrower)
all_open_borrowed rows borrower opened borrows = All-set IsOpenRow rows borrower (borrowed (get_or rows borrower no_row)) (open_borrowed (get_or rows borrower no_row) borrows.rows_open borrows.unmet) opened

users_borrowed : (rows : List Row) (borrower : ℕ) → Borrows rows borrower → map user_of (rows_borrowed rows borrower) ≡ change_at borrow (map user_of rows) borrower
users_borrowed rows borrower borrows = map-set-change_at user_of borrow rows borrower (borrowed (get_or rows borrower no_row)) no_row borrows.within (user_borrowed (get_or rows borrower no_row) borrows.rows_open borrows.unmet)

-- what is known of the row that lends, after the borrower's part
pub record Lends (rows : List Row) (donor : ℕ) : Type 0 where
  pub within : donor < length rows
  pub has_left : (get_or rows donor no_row).given < (get_or rows donor no_row).floor
  pub rows_open : IsOpenRow (get_or rows donor no_row)

-- borrower and donor are two users
others : (rows : List Row) (borrower donor : ℕ) → Borrows rows borrower → (get_or rows donor no_row).given < (get_or rows donor no_row).floor → donor ≢ borrower
others rows borrower donor borrows has_left same_place =
    let same : (get_or rows donor no_row).given ≡ (get_or rows borrower no_row).given = ap (λ place. (get_or rows place no_row).given) same_place in
    let floor : (get_or rows donor no_row).floor ≡ (get_or rows borrower no_row).floor = ap (λ place. (get_or rows place no_row).floor) same_place in
    omega (arith, borrows.unmet, borrows.rows_open.filled)

pub lends_at : (rows : List Row) (borrower donor : ℕ) → All IsOpenRow rows → Borrows rows borrower → first_best row_lends has_fewer rows ≡ Some donor → Lends (rows_borrowed rows borrower) donor
lends_at rows borrower donor opened borrows donor_is =
    let best : IsFirstBest row_lends has_fewer rows (length rows) donor = IsFirstBest-from_first_best row_lends has_fewer rows_by_fewer rows donor donor_is in
    let left : (get_or rows donor no_row).given < (get_or rows donor no_row).floor = row_can_lend (get_or rows donor no_row) (best.passing no_row) in
    let other : donor ≢ borrower = others rows borrower donor borrows left in
    let in_list : donor < length (rows_borrowed rows borrower) = rw (length-set rows borrower (borrowed (get_or rows borrower no_row))) best.within in
    let same : get_or (rows_borrowed rows borrower) donor no_row ≡ get_or rows donor no_row = get_or-set_other rows borrower donor (borrowed (get_or rows borrower no_row)) no_row other in
    record {
      within = in_list;
      has_left = rw same left;
      rows_open = All-get_or IsOpenRow (rows_borrowed rows borrower) donor no_row in_list (all_open_borrowed rows borrower opened borrows);
    }

pub all_open_lent : (rows : List Row) (donor : ℕ) → All IsOpenRow rows → Lends rows donor → All IsOpenRow (rows_lent rows donor)
all_open_lent rows donor opened lends = All-set IsOpenRow rows donor (lent (get_or rows donor no_row)) (open_lent (get_or rows donor no_row) lends.rows_open lends.has_left) opened

users_lent : (rows : List Row) (donor : ℕ) → Lends rows donor → map user_of (rows_lent rows donor) ≡ change_at lend (map user_of rows) donor
users_lent rows donor lends = map-set-change_at user_of lend rows donor (lent (get_or rows donor no_row)) no_row lends.within (user_lent (get_or rows donor no_row) lends.rows_open lends.has_left)

abbrev quantum : List User → ℕ → Quantum
quantum users shared = record { users = users; shared = shared }

-- the rule's next loan, by what the searches in the rows have found
next_by : (rows : List Row) (shared : ℕ) (borrower donor : Option ℕ) → first_best row_borrows has_more rows ≡ borrower → first_best row_lends has_fewer rows ≡ donor → next (quantum_of rows shared) ≡ loan borrower donor (map user_of rows) shared
next_by rows shared borrower donor borrower_is donor_is =
    let users : List User = map user_of rows in
    ap (λ choice. loan choice (next_donor users) users shared) (borrower_of_rows rows ∙ borrower_is) ∙ ap (λ choice. loan borrower choice users shared) (donor_of_rows rows ∙ donor_is)

pub no_borrower : (rows : List Row) (shared : ℕ) → first_best row_borrows has_more rows ≡ None → next (quantum_of rows shared) ≡ quantum_of rows shared
no_borrower rows shared borrower_is = next_by rows shared None _ borrower_is refl

pub no_slice : (rows : List Row) (shared borrower : ℕ) → first_best row_borrows has_more rows ≡ Some borrower → first_best row_lends has_fewer rows ≡ None → shared ≡ 0 → next (quantum_of rows shared) ≡ quantum_of rows shared
no_slice rows shared borrower borrower_is donor_is none_shared =
    next_by rows shared (Some borrower) None borrower_is donor_is
    ∙ ap (λ left. loan (Some borrower) None (map user_of rows) left) none_shared
    ∙ ap (λ left. quantum_of rows left) (sym none_shared)

pub next_donated : (rows : List Row) (shared borrower donor : ℕ) → All IsOpenRow rows → first_best row_borrows has_more rows ≡ Some borrower → first_best row_lends has_fewer rows ≡ Some donor → quantum_of (rows_lent (rows_borrowed rows borrower) donor) shared ≡ next (quantum_of rows shared)
next_donated rows shared borrower donor opened borrower_is donor_is =
    let borrows : Borrows rows borrower = borrows_at rows borrower opened borrower_is in
    let users : map user_of (rows_lent (rows_borrowed rows borrower) donor) ≡ change_at lend (change_at borrow (map user_of rows) borrower) donor =
    users_lent (rows_borrowed rows borrower) donor (lends_at rows borrower donor opened borrows donor_is) ∙ ap (λ changed. change_at lend changed donor) (users_borrowed rows borrower borrows) in
    ap (λ changed. quantum changed shared) users ∙ sym (next_by rows shared (Some borrower) (Some donor) borrower_is donor_is)

pub next_shared : (rows : List Row) (shared borrower : ℕ) → All IsOpenRow rows → first_best row_borrows has_more rows ≡ Some borrower → first_best row_lends has_fewer rows ≡ None → 0 < shared → quantum_of (rows_borrowed rows borrower) (shared - 1) ≡ next (quantum_of rows shared)
next_shared rows zero borrower opened borrower_is donor_is some = absurd (omega arith)
next_shared rows (suc shared) borrower opened borrower_is donor_is some =
    let borrows : Borrows rows borrower = borrows_at rows borrower opened borrower_is in
    let less : suc shared - 1 ≡ shared = omega arith in
    ap (λ left. quantum_of (rows_borrowed rows borrower) left) less
    ∙ ap (λ changed. quantum changed shared) (users_borrowed rows borrower borrows) ∙ sym (next_by rows (suc shared) (Some borrower) None borrower_is donor_is)

pub takes_donated : (rows : List Row) (shared borrower donor : ℕ) → All IsOpenRow rows → first_best row_borrows has_more rows ≡ Some borrower → first_best row_lends has_fewer rows ≡ Some donor → lendable (quantum_of rows shared) ≡ lendable (next (quantum_of rows shared)) + 1
takes_donated rows shared borrower donor opened borrower_is donor_is =
    lendable_donated (map user_of rows) shared borrower donor (donor_of_rows rows ∙ donor_is) ∙ ap (λ state. lendable state + 1) (sym (next_by rows shared (Some borrower) (Some donor) borrower_is donor_is))

pub takes_shared : (rows : List Row) (shared borrower : ℕ) → first_best row_borrows has_more rows ≡ Some borrower → first_best row_lends has_fewer rows ≡ None → 0 < shared → lendable (quantum_of rows shared) ≡ lendable (next (quantum_of rows shared)) + 1
takes_shared rows zero borrower borrower_is donor_is some = absurd (omega arith)
takes_shared rows (suc shared) borrower borrower_is donor_is some =
    lendable_shared (map user_of rows) shared borrower ∙ ap (λ state. lendable state + 1) (sym (next_by rows (suc shared) (Some borrower) None borrower_is donor_is))
