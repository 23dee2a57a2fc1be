-- Two spreads in order, of the borrowers and of the donors, are the rule's closing.
use Rattle.std.proofs.Common.{◌≡◌, ℕ, zero, suc, ◌+◌, ◌-◌, ◌*◌, ◌<◌, ◌≤◌, min, ◌⊎◌, inl, inr, List, [], ◌∷◌, length, get_or, map, sum, refl, sym, ap, ◌∙◌, subst, arith}
use Rattle.std.specs.List.{sum_by, All}
use Rattle.std.proofs.lemmas.List.{get_or-map, length-map}
use Rattle.std.proofs.lemmas.List.Sums.{sum_by-cons, sum_by-le}
use Rattle.std.proofs.lemmas.List.Elements.{All-from_get_or, All-get_or}
use Rattle.std.proofs.lemmas.Bool.{cases_lt}
use Rattle.karma_rule.specs.declared.limits.TheConstants.{MOST_USERS, MOST_FAIR, MOST_DEMAND, CREDITS_TOP}
use Rattle.karma_rule.specs.declared.row.Row.{Row}
use Rattle.karma_batch.specs.declared.side.Side.{Side}
use Rattle.karma_batch.specs.declared.side.Side.TheVariants.{Borrowers, Donors}
use Rattle.karma_rule.specs.Karma.{User, if_present, surplus, opened, closing}
use Rattle.karma_rule.specs.Laws.{row_at}
use Rattle.karma_rule.specs.Quanta.{IsReady, CanMakeQuantum}
use Rattle.karma_rule.specs.OpenRow.{user_of, quantum_of, IsOpenRow}
use Rattle.karma_batch.specs.Levels.{key_of, movable_of, moved_by, above, all_moved, IsSpread, Spreads}
use Rattle.karma_rule.proofs.Loans.{nobody}
use Rattle.karma_rule.proofs.OneLoan.{at, NeedsOne}
use Rattle.karma_rule.proofs.InOrder.{Apart, Since, InOrder}
use Rattle.karma_rule.proofs.Ends.{given_sum}
use Rattle.karma_rule.proofs.RowsOfUsers.{no_row, IsIdle, opened_any, opened_is, surplus_is}
use Rattle.karma_rule.proofs.Counts.{left_sum, can_take, takable, ending_is}

abbrev pub num_at : List ℕ → ℕ → ℕ
num_at numbers place = get_or numbers place 0

-- ---- sums of lists that go together
pub sum_by-more : {X Y : Type 0} (f : X → ℕ) (g : Y → ℕ) (xs : List X) (ys : List Y) (numbers : List ℕ) (no_x : X) (no_y : Y) → length xs ≡ length ys → length numbers ≡ length xs → ((place : ℕ) → place < length xs → g (get_or ys place no_y) ≡ f (get_or xs place no_x) + num_at numbers place) → sum_by g ys ≡ sum_by f xs + sum numbers
sum_by-more f g [] [] [] no_x no_y same_length same_count each = omega arith
sum_by-more f g [] [] (number ∷ numbers) no_x no_y same_length same_count each = absurd (omega arith)
sum_by-more f g [] (y ∷ ys) numbers no_x no_y same_length same_count each = absurd (omega arith)
sum_by-more f g (x ∷ xs) [] numbers no_x no_y same_length same_count each = absurd (omega arith)
sum_by-more f g (x ∷ xs) (y ∷ ys) [] no_x no_y same_length same_count each = absurd (omega arith)
sum_by-more f g (x ∷ xs) (y ∷ ys) (number ∷ numbers) no_x no_y same_length same_count each =
    let head : g y ≡ f x + number = each 0 (omega arith) in
    let tail : sum_by g ys ≡ sum_by f xs + sum numbers = sum_by-more f g xs ys numbers no_x no_y (omega arith) (omega arith) (λ place item. each (suc place) (omega arith)) in
    omega (arith, sum_by-cons f x xs, sum_by-cons g y ys, sum_by-cons (λ (item : ℕ). item) number numbers)

pub sum_by-same : {X Y : Type 0} (f : X → ℕ) (g : Y → ℕ) (xs : List X) (ys : List Y) (no_x : X) (no_y : Y) → length xs ≡ length ys → ((place : ℕ) → place < length xs → g (get_or ys place no_y) ≡ f (get_or xs place no_x)) → sum_by g ys ≡ sum_by f xs
sum_by-same f g [] [] no_x no_y same_length each = refl
sum_by-same f g [] (y ∷ ys) no_x no_y same_length each = absurd (omega arith)
sum_by-same f g (x ∷ xs) [] no_x no_y same_length each = absurd (omega arith)
sum_by-same f g (x ∷ xs) (y ∷ ys) no_x no_y same_length each =
    let head : g y ≡ f x = each 0 (omega arith) in
    let tail : sum_by g ys ≡ sum_by f xs = sum_by-same f g xs ys no_x no_y (omega arith) (λ place inside. each (suc place) (omega arith)) in
    omega (arith, sum_by-cons f x xs, sum_by-cons g y ys)

-- ---- rows moved
length-all_moved : (side : Side) (rows : List Row) (numbers : List ℕ) → length (all_moved side rows numbers) ≡ length rows
length-all_moved side [] numbers = refl
length-all_moved side (x ∷ xs) [] = refl
length-all_moved side (x ∷ xs) (number ∷ numbers) = ap suc (length-all_moved side xs numbers)

at-all_moved : (side : Side) (rows : List Row) (numbers : List ℕ) (place : ℕ) → length numbers ≡ length rows → place < length rows → row_at (all_moved side rows numbers) place ≡ moved_by side (row_at rows place) (num_at numbers place)
at-all_moved side [] numbers place same_length inside = absurd (omega arith)
at-all_moved side (x ∷ xs) [] place same_length inside = absurd (omega arith)
at-all_moved side (x ∷ xs) (number ∷ numbers) zero same_length inside = refl
at-all_moved side (x ∷ xs) (number ∷ numbers) (suc place) same_length inside = at-all_moved side xs numbers place (omega arith) (omega arith)

-- ---- one row, from its opening: b borrowed, l lent
pub record IsOpened (row : Row) : Type 0 where
  pub filled : row.given ≡ min row.demand row.floor
  pub small : row.demand ≤ MOST_DEMAND
  pub low : row.floor ≤ MOST_FAIR
  pub room : row.credits + (row.floor - row.given) < CREDITS_TOP

pub record Both (row : Row) (borrowed lent : ℕ) : Type 0 where
  pub start : IsOpened row
  pub borrows : borrowed ≤ movable_of Borrowers row
  pub lends : lent ≤ movable_of Donors (moved_by Borrowers row borrowed)

abbrev pub done : Row → ℕ → ℕ → Row
done row borrowed lent = moved_by Donors (moved_by Borrowers row borrowed) lent

-- who borrows lends nothing
one_part : (row : Row) (borrowed lent : ℕ) → Both row borrowed lent → (borrowed ≡ 0) ⊎ ((lent ≡ 0) × (0 < borrowed) × (row.given ≡ row.floor))
one_part row borrowed lent both = one_part_by (cases_lt 0 borrowed)
  where
    one_part_by : (0 < borrowed) ⊎ (borrowed ≤ 0) → (borrowed ≡ 0) ⊎ ((lent ≡ 0) × (0 < borrowed) × (row.given ≡ row.floor))
    one_part_by (inr some) = inl (omega arith)
    one_part_by (inl some) = inr (omega (arith, both.start.filled, both.borrows, both.lends), some, omega (arith, both.start.filled, both.borrows))

since_both : (row : Row) (borrowed lent : ℕ) → Both row borrowed lent → Since (user_of row) (user_of (done row borrowed lent))
since_both row borrowed lent both = since_by (one_part row borrowed lent both)
  where
    since_by : (borrowed ≡ 0) ⊎ ((lent ≡ 0) × (0 < borrowed) × (row.given ≡ row.floor)) → Since (user_of row) (user_of (done row borrowed lent))
    since_by (inl idle) = record {
      same_standing = refl;
      total = omega (arith, both.start.filled, both.lends);
      gained = omega arith;
      lent = omega arith;
      capped = λ _. omega arith;
    }
    since_by (inr known) =
        let none : lent ≡ 0 = known.0 in
        let full : row.given ≡ row.floor = known.2 in
        record {
          same_standing = refl;
          total = omega (arith, both.start.filled, both.borrows);
          gained = omega arith;
          lent = omega arith;
          capped = λ _. omega arith;
        }

has_borrowed : (row : Row) (borrowed lent : ℕ) → Both row borrowed lent → (user_of row).row.given < (user_of (done row borrowed lent)).row.given → (0 < borrowed) × (lent ≡ 0)
has_borrowed row borrowed lent both gained = has_by (one_part row borrowed lent both)
  where
    has_by : (borrowed ≡ 0) ⊎ ((lent ≡ 0) × (0 < borrowed) × (row.given ≡ row.floor)) → (0 < borrowed) × (lent ≡ 0)
    has_by (inl idle) = absurd (omega (arith, both.start.filled, both.lends))
    has_by (inr known) = (known.1, known.0)

needs_more : (row : Row) (borrowed lent : ℕ) → Both row borrowed lent → NeedsOne (user_of (done row borrowed lent)) → (borrowed < movable_of Borrowers row) × (lent ≡ 0)
needs_more row borrowed lent both needs =
    let unmet : min (row.given + borrowed + lent) row.demand < row.demand = needs.0 in
    let pays : 0 < (row.credits - borrowed) + lent = needs.1 in
    let none : lent ≡ 0 = omega (arith, both.start.filled, both.lends) in
    (omega arith, none)

has_lent : (row : Row) (borrowed lent : ℕ) → Both row borrowed lent → (user_of (done row borrowed lent)).left < (user_of row).left → 0 < lent
has_lent row borrowed lent both gave = has_by (one_part row borrowed lent both)
  where
    has_by : (borrowed ≡ 0) ⊎ ((lent ≡ 0) × (0 < borrowed) × (row.given ≡ row.floor)) → 0 < lent
    has_by (inl idle) = omega arith
    has_by (inr known) = let full : row.given ≡ row.floor = known.2 in absurd (omega arith)

more_left : (row : Row) (borrowed lent : ℕ) → 0 < (user_of (done row borrowed lent)).left → lent < movable_of Donors (moved_by Borrowers row borrowed)
more_left row borrowed lent some = omega arith

given_both : (row : Row) (borrowed lent : ℕ) → Both row borrowed lent → (user_of (done row borrowed lent)).row.given ≡ (user_of row).row.given + borrowed
given_both row borrowed lent both = given_by (one_part row borrowed lent both)
  where
    given_by : (borrowed ≡ 0) ⊎ ((lent ≡ 0) × (0 < borrowed) × (row.given ≡ row.floor)) → (user_of (done row borrowed lent)).row.given ≡ (user_of row).row.given + borrowed
    given_by (inl idle) = omega (arith, both.start.filled, both.lends)
    given_by (inr known) = let none : lent ≡ 0 = known.0 in omega (arith, both.start.filled, both.borrows)

left_both : (row : Row) (borrowed lent : ℕ) → Both row borrowed lent → (user_of row).left ≡ (user_of (done row borrowed lent)).left + lent
left_both row borrowed lent both = left_by (one_part row borrowed lent both)
  where
    left_by : (borrowed ≡ 0) ⊎ ((lent ≡ 0) × (0 < borrowed) × (row.given ≡ row.floor)) → (user_of row).left ≡ (user_of (done row borrowed lent)).left + lent
    left_by (inl idle) = omega (arith, both.lends)
    left_by (inr known) = let none : lent ≡ 0 = known.0 in let full : row.given ≡ row.floor = known.2 in omega arith

-- a donor's key is what its credits lack
lender_order : (credits1 lent1 credits2 lent2 slack : ℕ) → credits1 + lent1 ≤ CREDITS_TOP → ((CREDITS_TOP - credits2) - lent2) ≤ ((CREDITS_TOP - credits1) - lent1) + slack → credits1 + lent1 ≤ (credits2 + lent2) + slack
lender_order credits1 lent1 credits2 lent2 slack bound less = omega arith

-- ---- the opened rows
opened_row : (row old : Row) → old.floor ≤ old.fair → IsIdle old → user_of row ≡ opened old → IsOpenRow row → IsOpened row
opened_row row old low idle same is_open =
    let users : user_of row ≡ opened_any old = same ∙ opened_is old low idle in
    let given : min row.given row.demand ≡ min old.demand old.floor = ap (λ user. user.row.given) users in
    let demand : row.demand ≡ old.demand = ap (λ user. user.row.demand) users in
    let floor : row.floor ≡ old.floor = ap (λ user. user.row.floor) users in
    let left : row.floor - row.given ≡ old.floor - old.demand = ap (λ user. user.left) users in
    record { filled = omega (arith, is_open.wanted, is_open.filled); small = is_open.small; low = is_open.low; room = is_open.room }

pub opened_rows : (rows0 rows : List Row) → CanMakeQuantum rows → map user_of rows0 ≡ map opened rows → All IsOpenRow rows0 → (place : ℕ) → place < length rows0 → IsOpened (row_at rows0 place)
opened_rows rows0 rows ready users_are are_open place inside =
    let lengths : length rows0 ≡ length rows = sym (length-map rows0 user_of) ∙ ap length users_are ∙ length-map rows opened in
    let in_rows : place < length rows = omega arith in
    let same : user_of (row_at rows0 place) ≡ opened (row_at rows place) =
    sym (get_or-map user_of rows0 place no_row nobody inside) ∙ ap (λ users. at users place) users_are ∙ get_or-map opened rows place no_row nobody in_rows in
    let is_ready : IsReady (row_at rows place) = ready place no_row in_rows in
    opened_row (row_at rows0 place) (row_at rows place) is_ready.floor is_ready.away same (All-get_or IsOpenRow rows0 place _ inside are_open)

-- at the level 0 a part is the whole room
pub sum_whole : (side : Side) (rows : List Row) → ((place : ℕ) → place < length rows → movable_of side (row_at rows place) ≤ key_of side (row_at rows place)) → sum_by (above side 0) rows ≡ sum_by (movable_of side) rows
sum_whole side rows fits = sum_by-same (movable_of side) (above side 0) rows rows no_row no_row refl (λ place inside. let fit : movable_of side (row_at rows place) ≤ key_of side (row_at rows place) = fits place inside in omega arith)

module _ (rows0 : List Row) (start : (place : ℕ) → place < length rows0 → IsOpened (row_at rows0 place)) (loans : ℕ) (borrows : List ℕ) (borrowers_spread : IsSpread Borrowers loans rows0 borrows) where
  abbrev rows1 : List Row
  rows1 = all_moved Borrowers rows0 borrows

  len1 : length rows1 ≡ length rows0
  len1 = length-all_moved Borrowers rows0 borrows

  row1_at : (place : ℕ) → place < length rows0 → row_at rows1 place ≡ moved_by Borrowers (row_at rows0 place) (num_at borrows place)
  row1_at place inside = at-all_moved Borrowers rows0 borrows place borrowers_spread.same_length inside

  moved_open : (row : Row) (slices : ℕ) → IsOpened row → slices ≤ movable_of Borrowers row → IsOpenRow (moved_by Borrowers row slices)
  moved_open row slices is_opened fits = record { filled = omega (arith, is_opened.filled); wanted = omega (arith, is_opened.filled, fits); small = is_opened.small; low = is_opened.low; room = omega (arith, is_opened.room, fits) }

  pub open1 : All IsOpenRow rows1
  open1 = All-from_get_or IsOpenRow rows1 _ (λ place inside.
      let in_rows : place < length rows0 = omega (arith, len1) in
      subst (λ (row : Row). IsOpenRow row) (sym (row1_at place in_rows)) (moved_open (row_at rows0 place) (num_at borrows place) (start place in_rows) (borrowers_spread.within place in_rows)))

  room_kept : (row : Row) (slices : ℕ) → IsOpened row → slices ≤ movable_of Borrowers row → movable_of Donors (moved_by Borrowers row slices) ≡ movable_of Donors row
  room_kept row slices is_opened fits = omega (arith, is_opened.filled, fits)

  pub lender_room : sum_by (movable_of Donors) rows1 ≡ sum_by (movable_of Donors) rows0
  lender_room = sum_by-same (movable_of Donors) (movable_of Donors) rows0 rows1 _ _ (sym len1) (λ place inside.
      ap (movable_of Donors) (row1_at place inside) ∙ room_kept (row_at rows0 place) (num_at borrows place) (start place inside) (borrowers_spread.within place inside))

  module _ (lent : ℕ) (lends : List ℕ) (donors_spread : IsSpread Donors lent rows1 lends) where
    abbrev rows2 : List Row
    rows2 = all_moved Donors rows1 lends

    len2 : length rows2 ≡ length rows0
    len2 = length-all_moved Donors rows1 lends ∙ len1

    in1 : (place : ℕ) → place < length rows0 → place < length rows1
    in1 place here_in = omega (arith, len1)

    row2_at : (place : ℕ) → place < length rows0 → row_at rows2 place ≡ done (row_at rows0 place) (num_at borrows place) (num_at lends place)
    row2_at place here_in = at-all_moved Donors rows1 lends place donors_spread.same_length (in1 place here_in) ∙ ap (λ row. moved_by Donors row (num_at lends place)) (row1_at place here_in)

    both : (place : ℕ) → place < length rows0 → Both (row_at rows0 place) (num_at borrows place) (num_at lends place)
    both place here_in = record {
      start = start place here_in;
      borrows = borrowers_spread.within place here_in;
      lends = subst (λ (row : Row). num_at lends place ≤ movable_of Donors row) (row1_at place here_in) (donors_spread.within place (in1 place here_in));
    }

    abbrev first_users : List User
    first_users = map user_of rows0

    abbrev last_users : List User
    last_users = map user_of rows2

    abbrev first : ℕ → User
    first place = user_of (row_at rows0 place)

    abbrev last : ℕ → User
    last place = user_of (done (row_at rows0 place) (num_at borrows place) (num_at lends place))

    first_users_at : (place : ℕ) → place < length rows0 → at first_users place ≡ first place
    first_users_at place here_in = get_or-map user_of rows0 place _ nobody here_in

    last_users_at : (place : ℕ) → place < length rows0 → at last_users place ≡ last place
    last_users_at place here_in = get_or-map user_of rows2 place _ nobody (omega (arith, len2)) ∙ ap user_of (row2_at place here_in)

    len_us : length last_users ≡ length first_users
    len_us = length-map rows2 user_of ∙ len2 ∙ sym (length-map rows0 user_of)

    inside : (place : ℕ) → place < length last_users → place < length rows0
    inside place here_in = omega (arith, length-map rows2 user_of, len2)

    borrow_level : (mover other : ℕ) → mover < length rows0 → other < length rows0 → (at first_users mover).row.given < (at last_users mover).row.given → NeedsOne (at last_users other) → ((at last_users other).row.credits ≤ (at last_users mover).row.credits + 1) × (other < mover → (at last_users other).row.credits ≤ (at last_users mover).row.credits)
    borrow_level mover other mover_in other_in moved needs =
        let mover_moved : (first mover).row.given < (last mover).row.given = subst (λ (user : User). (first mover).row.given < user.row.given) (last_users_at mover mover_in) (subst (λ (user : User). user.row.given < (at last_users mover).row.given) (first_users_at mover mover_in) moved) in
        let mover_borrowed : (0 < num_at borrows mover) × (num_at lends mover ≡ 0) = has_borrowed (row_at rows0 mover) (num_at borrows mover) (num_at lends mover) (both mover mover_in) mover_moved in
        let other_needs : (num_at borrows other < movable_of Borrowers (row_at rows0 other)) × (num_at lends other ≡ 0) = needs_more (row_at rows0 other) (num_at borrows other) (num_at lends other) (both other other_in) (subst (λ (user : User). NeedsOne user) (last_users_at other other_in) needs) in
        let mover_credits : (at last_users mover).row.credits ≡ ((row_at rows0 mover).credits - num_at borrows mover) + num_at lends mover = ap (λ user. user.row.credits) (last_users_at mover mover_in) in
        let other_credits : (at last_users other).row.credits ≡ ((row_at rows0 other).credits - num_at borrows other) + num_at lends other = ap (λ user. user.row.credits) (last_users_at other other_in) in
        let mover_none : num_at lends mover ≡ 0 = mover_borrowed.1 in
        let other_none : num_at lends other ≡ 0 = other_needs.1 in
        let near : (row_at rows0 other).credits - num_at borrows other ≤ ((row_at rows0 mover).credits - num_at borrows mover) + 1 = borrowers_spread.order mover other mover_in other_in mover_borrowed.0 other_needs.0 in (
          omega arith,
          λ before.
              let tied : (row_at rows0 other).credits - num_at borrows other ≤ (row_at rows0 mover).credits - num_at borrows mover = borrowers_spread.tied mover other mover_in before mover_borrowed.0 other_needs.0 in
              omega arith,
        )

    lend_level : (mover other : ℕ) → mover < length rows0 → other < length rows0 → (at last_users mover).left < (at first_users mover).left → 0 < (at last_users other).left → ((at last_users mover).row.credits ≤ (at last_users other).row.credits + 1) × (other < mover → (at last_users mover).row.credits ≤ (at last_users other).row.credits)
    lend_level mover other mover_in other_in moved needs =
        let mover_moved : (last mover).left < (first mover).left = subst (λ (user : User). (last mover).left < user.left) (first_users_at mover mover_in) (subst (λ (user : User). user.left < (at first_users mover).left) (last_users_at mover mover_in) moved) in
        let lent_i : 0 < num_at lends mover = has_lent (row_at rows0 mover) (num_at borrows mover) (num_at lends mover) (both mover mover_in) mover_moved in
        let left_j : num_at lends other < movable_of Donors (row_at rows1 other) = subst (λ (row : Row). num_at lends other < movable_of Donors row) (sym (row1_at other other_in)) (more_left (row_at rows0 other) (num_at borrows other) (num_at lends other) (subst (λ (user : User). 0 < user.left) (last_users_at other other_in) needs)) in
        let mover_key : key_of Donors (row_at rows1 mover) ≡ CREDITS_TOP - ((row_at rows0 mover).credits - num_at borrows mover) = ap (key_of Donors) (row1_at mover mover_in) in
        let other_key : key_of Donors (row_at rows1 other) ≡ CREDITS_TOP - ((row_at rows0 other).credits - num_at borrows other) = ap (key_of Donors) (row1_at other other_in) in
        let mover_credits : (at last_users mover).row.credits ≡ ((row_at rows0 mover).credits - num_at borrows mover) + num_at lends mover = ap (λ user. user.row.credits) (last_users_at mover mover_in) in
        let other_credits : (at last_users other).row.credits ≡ ((row_at rows0 other).credits - num_at borrows other) + num_at lends other = ap (λ user. user.row.credits) (last_users_at other other_in) in
        let bound : ((row_at rows0 mover).credits - num_at borrows mover) + num_at lends mover ≤ CREDITS_TOP = omega (arith, (both mover mover_in).lends, (start mover mover_in).room) in
        let near : key_of Donors (row_at rows1 other) - num_at lends other ≤ (key_of Donors (row_at rows1 mover) - num_at lends mover) + 1 = donors_spread.order mover other (in1 mover mover_in) (in1 other other_in) lent_i left_j in (
          omega arith,
          λ before.
              let tied : key_of Donors (row_at rows1 other) - num_at lends other ≤ key_of Donors (row_at rows1 mover) - num_at lends mover = donors_spread.tied mover other (in1 mover mover_in) before lent_i left_j in
              omega arith,
        )

    in_order : InOrder first_users last_users
    in_order = record {
      same_length = len_us;
      each = λ place here_in. subst (λ (user : User). Since (at first_users place) user) (sym (last_users_at place (inside place here_in))) (subst (λ (user : User). Since user (last place)) (sym (first_users_at place (inside place here_in))) (since_both (row_at rows0 place) (num_at borrows place) (num_at lends place) (both place (inside place here_in))));
      borrowers = λ mover other mover_in other_in moved needs. (borrow_level mover other (inside mover mover_in) (inside other other_in) moved needs).0;
      borrowers_tied = λ mover other mover_in before moved needs. (borrow_level mover other (inside mover mover_in) (inside other (omega arith)) moved needs).1 before;
      donors = λ mover other mover_in other_in moved needs. (lend_level mover other (inside mover mover_in) (inside other other_in) moved needs).0;
      donors_tied = λ mover other mover_in before moved needs. (lend_level mover other (inside mover mover_in) (inside other (omega arith)) moved needs).1 before;
    }

    apart : Apart first_users
    apart place here_in left =
        let in_rows : place < length rows0 = omega (arith, length-map rows0 user_of) in
        subst (λ (user : User). 0 < user.left → user.row.demand ≤ user.row.given) (sym (first_users_at place in_rows)) (λ some. omega (arith, (start place in_rows).filled)) left

    given_more : given_sum last_users ≡ given_sum first_users + loans
    given_more = sum_by-more (λ user. user.row.given) (λ user. user.row.given) first_users last_users borrows nobody nobody (sym len_us) (borrowers_spread.same_length ∙ sym (length-map rows0 user_of))
        (λ place here_in. let in_rows : place < length rows0 = omega (arith, length-map rows0 user_of) in
        ap (λ user. user.row.given) (last_users_at place in_rows) ∙ given_both (row_at rows0 place) (num_at borrows place) (num_at lends place) (both place in_rows) ∙ ap (λ user. user.row.given + num_at borrows place) (sym (first_users_at place in_rows)))
        ∙ ap (λ slices. given_sum first_users + slices) borrowers_spread.total

    left_more : left_sum first_users ≡ left_sum last_users + lent
    left_more = sum_by-more (λ user. user.left) (λ user. user.left) last_users first_users lends nobody nobody len_us (donors_spread.same_length ∙ len1 ∙ sym (length-map rows0 user_of) ∙ sym len_us)
        (λ place here_in. let in_rows : place < length rows0 = inside place here_in in
        ap (λ user. user.left) (first_users_at place in_rows) ∙ left_both (row_at rows0 place) (num_at borrows place) (num_at lends place) (both place in_rows) ∙ ap (λ user. user.left + num_at lends place) (sym (last_users_at place in_rows)))
        ∙ ap (λ slices. left_sum last_users + slices) donors_spread.total

    takable_is : takable first_users ≡ sum_by (movable_of Borrowers) rows0
    takable_is = sum_by-same (movable_of Borrowers) can_take rows0 first_users _ nobody (sym (length-map rows0 user_of))
        (λ place here_in. ap can_take (first_users_at place here_in) ∙ room_is (row_at rows0 place))
      where
        room_is : (row : Row) → can_take (user_of row) ≡ movable_of Borrowers row
        room_is row = omega arith

    left_is : left_sum first_users ≡ sum_by (movable_of Donors) rows0
    left_is = sum_by-same (movable_of Donors) (λ user. user.left) rows0 first_users _ nobody (sym (length-map rows0 user_of)) (λ place here_in. ap (λ user. user.left) (first_users_at place here_in))

    pub batch_is : (shared : ℕ) → loans ≡ min (sum_by (movable_of Borrowers) rows0) (sum_by (movable_of Donors) rows0 + shared) → lent ≡ min loans (sum_by (movable_of Donors) rows0) → last_users ≡ (closing (quantum_of rows0 shared)).users
    batch_is shared loans_are lent_is =
        ending_is (quantum_of rows0 shared) apart last_users in_order
        (omega (arith, given_more, takable_is, left_is))
        (omega (arith, left_more, takable_is, left_is))

-- ---- the same, from what `spread` ensures
module _ (rows0 new1 : List Row) (start : (place : ℕ) → place < length rows0 → IsOpened (row_at rows0 place)) (loans : ℕ) (first_spread : Spreads Borrowers loans rows0 new1) where
  pub spread_open : All IsOpenRow new1
  spread_open = subst (λ (rows : List Row). All IsOpenRow rows) (sym first_spread.new_is) (open1 rows0 start loans first_spread.moved first_spread.spread)

  pub room_spread : sum_by (movable_of Donors) new1 ≡ sum_by (movable_of Donors) rows0
  room_spread = ap (sum_by (movable_of Donors)) first_spread.new_is ∙ lender_room rows0 start loans first_spread.moved first_spread.spread

  pub batch_ends : (lent : ℕ) (new2 : List Row) → Spreads Donors lent new1 new2 → (shared : ℕ) → loans ≡ min (sum_by (movable_of Borrowers) rows0) (sum_by (movable_of Donors) rows0 + shared) → lent ≡ min loans (sum_by (movable_of Donors) rows0) → map user_of new2 ≡ (closing (quantum_of rows0 shared)).users
  batch_ends lent new2 second_spread shared loans_are lent_is =
      let donors : IsSpread Donors lent (all_moved Borrowers rows0 first_spread.moved) second_spread.moved = subst (λ (rows : List Row). IsSpread Donors lent rows second_spread.moved) first_spread.new_is second_spread.spread in
      ap (map user_of) (second_spread.new_is ∙ ap (λ rows. all_moved Donors rows second_spread.moved) first_spread.new_is)
      ∙ batch_is rows0 start loans first_spread.moved first_spread.spread lent second_spread.moved donors shared loans_are lent_is

pub shared_bound : (rows : List Row) → length rows ≤ MOST_USERS → CanMakeQuantum rows → sum_by (if_present surplus) rows ≤ MOST_DEMAND
shared_bound rows few ready =
    let at_most : sum_by (if_present surplus) rows ≤ length rows * MOST_FAIR = sum_by-le (if_present surplus) MOST_FAIR rows
    (λ place default inside. let is_ready : IsReady (get_or rows place default) = ready place default inside in
    rw (surplus_is (get_or rows place default) is_ready.away) (omega (arith, is_ready.fair))) in
    omega arith
