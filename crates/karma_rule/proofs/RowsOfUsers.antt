-- The rows of the plain body as the users that they stand for.
use Rattle.std.proofs.Common.{◌≡◌, ℕ, ◌+◌, ◌-◌, ◌<◌, ◌≤◌, min, Bool, nat_lt, true, false, ◌&&◌, if◌then◌else◌, List, map, refl, sym, ap, ◌∙◌, arith}
use Rattle.std.specs.Bool.{OnFalse}
use Rattle.std.proofs.lemmas.Bool.{OnFalse_at}
use Rattle.std.proofs.lemmas.Bool.Decides.{nat_tests}
use Rattle.std.specs.Cmp.{IsStrictWeakOrder}
use Rattle.std.proofs.lemmas.List.MinMax.{IsStrictWeakOrder-by_number, IsStrictWeakOrder-flip}
use Rattle.karma_rule.specs.declared.row.Row.{Row}
use Rattle.karma_rule.specs.Karma.{opened, surplus, if_present, User, first_best, can_borrow, can_lend, is_richer, is_poorer, next_borrower, next_donor, borrow, lend}
use Rattle.karma_rule.specs.OpenRow.{user_of, closed, IsOpenRow, row_borrows, row_lends, has_more, has_fewer}
use Rattle.karma_rule.specs.Quanta.{IsReady}
use Rattle.karma_rule.proofs.Changes.{first_best-map, first_best_agrees}

borrows_alike : (row : Row) → can_borrow (user_of row) ≡ row_borrows row
borrows_alike row = grind (arith, nat_tests)

lends_alike : (row : Row) → can_lend (user_of row) ≡ row_lends row
lends_alike row = grind (arith, nat_tests)

pub borrower_of_rows : (rows : List Row) → next_borrower (map user_of rows) ≡ first_best row_borrows has_more rows
borrower_of_rows rows =
    first_best-map can_borrow is_richer user_of rows
    ∙ first_best_agrees (λ row. can_borrow (user_of row)) row_borrows _ has_more borrows_alike (λ x y. refl) rows

pub donor_of_rows : (rows : List Row) → next_donor (map user_of rows) ≡ first_best row_lends has_fewer rows
donor_of_rows rows =
    first_best-map can_lend is_poorer user_of rows
    ∙ first_best_agrees (λ row. can_lend (user_of row)) row_lends _ has_fewer lends_alike (λ x y. refl) rows

-- a row that has borrowed a slice, and one that has lent one
abbrev pub borrowed : Row → Row
borrowed row = record row { credits = row.credits - 1; given = row.given + 1 }

abbrev pub lent : Row → Row
lent row = record row { credits = row.credits + 1; given = row.given + 1 }

pub row_can_borrow : (row : Row) → row_borrows row ≡ true → (row.given < row.demand) × (0 < row.credits)
row_can_borrow row test = (grind (arith, nat_tests), grind (arith, nat_tests))

pub row_can_lend : (row : Row) → row_lends row ≡ true → row.given < row.floor
row_can_lend row test = grind (arith, nat_tests)

abbrev user_with : Row → ℕ → ℕ → ℕ → User
user_with row credits given left = record { row = record row { credits = credits; given = given }; left = left }

same_user : (row : Row) (credits given left credits' given' left' : ℕ) → credits ≡ credits' → given ≡ given' → left ≡ left' → user_with row credits given left ≡ user_with row credits' given' left'
same_user row credits given left credits' given' left' same_credits same_given same_left = cc

pub user_borrowed : (row : Row) → IsOpenRow row → row.given < row.demand → user_of (borrowed row) ≡ borrow (user_of row)
user_borrowed row is_open less =
    let filled : min row.floor row.demand ≤ row.given = is_open.filled in
    same_user row _ _ _ _ _ _ refl (omega arith) (omega arith)

pub user_lent : (row : Row) → IsOpenRow row → row.given < row.floor → user_of (lent row) ≡ lend (user_of row)
user_lent row is_open less =
    let filled : min row.floor row.demand ≤ row.given = is_open.filled in
    same_user row _ _ _ _ _ _ refl (omega arith) (omega arith)

pub open_borrowed : (row : Row) → IsOpenRow row → row.given < row.demand → IsOpenRow (borrowed row)
open_borrowed row is_open less = record { filled = omega (arith, is_open.filled); wanted = omega (arith, is_open.wanted); small = is_open.small; low = is_open.low; room = omega (arith, is_open.room) }

pub open_lent : (row : Row) → IsOpenRow row → row.given < row.floor → IsOpenRow (lent row)
open_lent row is_open less = record { filled = omega (arith, is_open.filled); wanted = omega (arith, is_open.wanted); small = is_open.small; low = is_open.low; room = omega (arith, is_open.room) }

pub rows_by_more : IsStrictWeakOrder has_more
rows_by_more = IsStrictWeakOrder-flip _ (IsStrictWeakOrder-by_number (λ (row : Row). row.credits))

pub rows_by_fewer : IsStrictWeakOrder has_fewer
rows_by_fewer = IsStrictWeakOrder-by_number (λ (row : Row). row.credits)

pub row_borrows_yes : (row : Row) → row.given < row.demand → 0 < row.credits → row_borrows row ≡ true
row_borrows_yes row unmet pays = grind (arith, nat_tests)

pub row_borrows_met : (row : Row) → row.demand ≤ row.given → row_borrows row ≡ false
row_borrows_met row met = grind (arith, nat_tests)

pub row_borrows_poor : (row : Row) → row.credits ≤ 0 → row_borrows row ≡ false
row_borrows_poor row out = poor (nat_lt row.given row.demand) (nat_lt 0 row.credits) (grind (arith, nat_tests))
  where
    poor : (wants pays : Bool) → pays ≡ false → (wants && pays) ≡ false
    poor true pays fails = fails
    poor false pays fails = refl

-- what a read of a row gives
abbrev pub no_row : Row
no_row = record { demand = 0; credits = 0; given = 0; fair = 0; floor = 0; present = false }

-- ---- the first and the last walk over the rows
-- who is away has no share and no credits
abbrev pub IsIdle : Row → Type 0
IsIdle row = OnFalse row.present ((row.fair ≡ 0) × (row.credits ≡ 0))

-- a row at the opening, whoever is present
abbrev pub opened_any : Row → User
opened_any row = record { row = record row { credits = row.credits + surplus row; given = min row.demand row.floor }; left = row.floor - row.demand }

-- a number that is 0 of who is away needs no look at who is present
if_present_is : (number : Row → ℕ) (row : Row) → (row.present ≡ false → number row ≡ 0) → if_present number row ≡ number row
if_present_is number row none = is_by row.present refl
  where
    is_by : (present : Bool) → row.present ≡ present → (if present then number row else 0) ≡ number row
    is_by true here = refl
    is_by false here = sym (none here)

pub surplus_is : (row : Row) → IsIdle row → if_present surplus row ≡ surplus row
surplus_is row idle = if_present_is surplus row (λ is_away. let none : (row.fair ≡ 0) × (row.credits ≡ 0) = OnFalse_at is_away idle in omega (arith, none.0))

pub opened_is : (row : Row) → row.floor ≤ row.fair → IsIdle row → opened row ≡ opened_any row
opened_is row low idle =
    same_user row _ _ _ _ _ _
    (if_present_is (λ row. row.credits + surplus row) row (λ is_away. let none : (row.fair ≡ 0) × (row.credits ≡ 0) = OnFalse_at is_away idle in omega (arith, none.0, none.1)))
    (if_present_is (λ row. min row.demand row.floor) row (λ is_away. let none : (row.fair ≡ 0) × (row.credits ≡ 0) = OnFalse_at is_away idle in omega (arith, none.0)))
    (if_present_is (λ row. row.floor - row.demand) row (λ is_away. let none : (row.fair ≡ 0) × (row.credits ≡ 0) = OnFalse_at is_away idle in omega (arith, none.0)))

pub row_opened : (given : ℕ) (row : Row) → given ≡ min row.demand row.floor → IsReady row → user_of (record row { credits = row.credits + surplus row; given = given }) ≡ opened row
row_opened given row given_is ready =
    let floor : row.floor ≤ row.fair = ready.floor in
    same_user row _ _ _ _ _ _ refl (omega arith) (omega arith) ∙ sym (opened_is row floor ready.away)

pub row_closed : (given : ℕ) (row old : Row) → row ≡ old → given ≡ min row.given row.demand → record row { given = given } ≡ closed old
row_closed given row old same given_is = ap (λ count. record row { given = count }) given_is ∙ ap closed same
