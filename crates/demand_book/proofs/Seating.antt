-- The users of a roster take their seats.
use Rattle.std.proofs.Common.{◌≡◌, ℕ, ◌+◌, ◌*◌, ◌<◌, ◌≤◌, ◌==◌, if◌then◌else◌, Bool, true, false, IfSome, List, [], ◌∷◌, length, map, Option, Some, None, refl, sym, ap, ◌∙◌, subst, arith}
use Rattle.std.specs.List.{zip, All}
use Rattle.std.proofs.Math.Nat.{div-le_of_le-mul}
use Rattle.std.proofs.lemmas.Bool.{OnFalse_at}
use Rattle.std.proofs.lemmas.List.{length-map, get_or-map, get_or_default, same_lists}
use Rattle.std.proofs.lemmas.List.Sums.{sum_by-cons}
use Rattle.std.proofs.lemmas.List.Elements.{All-from_get_or, All-head, All-tail}
use Rattle.karma_rule.specs.declared.row.Row.{Row}
use Rattle.karma_rule.specs.declared.row.Share.{Share}
use Rattle.karma_rule.specs.declared.shape.Shape.{Shape}
use Rattle.karma_rule.specs.declared.limits.TheConstants.{MOST_FAIR}
use Rattle.demand_book.specs.Book.{BookView, blank_row, seated_book}
use Rattle.demand_book.specs.Inside.{IsRow, IsShare, IsBook}
use Rattle.demand_book.specs.Roster.{seat_of, stays, of_stayers, average_or, newcomer_credits, seated, seated_rows}
use Rattle.demand_book.proofs.RosterRows.{seat_at, row_of_user, no_pair, pairs, pair_at}

-- ---- what who comes begins with
-- a sum over those who stay is as many times the bound as there are, at most
stayers_bound : (bound : ℕ) (rows : List Row) (roster : List (Option Share)) → All (λ row. row.credits ≤ bound) rows → of_stayers (λ row. row.credits) rows roster ≤ of_stayers (λ row. 1) rows roster * bound
stayers_bound bound [] roster small = omega arith
stayers_bound bound (row ∷ rows) [] small = omega arith
stayers_bound bound (row ∷ rows) (seat ∷ roster) small =
    let first : row.credits ≤ bound = All-head (λ row. row.credits ≤ bound) row rows small in
    let rest : of_stayers (λ row. row.credits) rows roster ≤ of_stayers (λ row. 1) rows roster * bound = stayers_bound bound rows roster (All-tail (λ row. row.credits ≤ bound) row rows small) in
    bound_by row.credits _ _ _ _ (stays row seat) first rest
    (sum_by-cons (λ pair. if stays pair.0 pair.1 then pair.0.credits else 0) (row, seat) (zip rows roster)) (sum_by-cons (λ pair. if stays pair.0 pair.1 then 1 else 0) (row, seat) (zip rows roster))
  where
    bound_by : (credits total count all many : ℕ) (on : Bool) → credits ≤ bound → total ≤ count * bound → all ≡ (if on then credits else 0) + total → many ≡ (if on then 1 else 0) + count → all ≤ many * bound
    bound_by credits total count all many true first rest all_is many_is = rw many_is (omega arith)
    bound_by credits total count all many false first rest all_is many_is = rw many_is (omega arith)

pub newcomer_bound : (bound credits : ℕ) (rows : List Row) (roster : List (Option Share)) → credits ≤ bound → All (λ row. row.credits ≤ bound) rows → newcomer_credits credits rows roster ≤ bound
newcomer_bound bound credits rows roster few small = average_bound _ (of_stayers (λ row. 1) rows roster) (stayers_bound bound rows roster small) (of_stayers (λ row. 1) rows roster == 0) refl
  where
    average_bound : (total count : ℕ) → total ≤ count * bound → (none : Bool) → (count == 0) ≡ none → average_or credits total count ≤ bound
    average_bound total count at_most true test = rw test few
    average_bound total count at_most false test = rw test (div-le_of_le-mul count at_most)

-- ---- one row
pub seated_row : (shape : Shape) (made newcomer : ℕ) (row : Row) (seat : Option Share) → newcomer ≤ shape.credits + made * MOST_FAIR → IsRow shape made row → IfSome seat IsShare → IsRow shape made (seated newcomer row seat)
seated_row shape made newcomer row None few is_row is_share = record { fair = omega arith; floor = omega arith; demand = is_row.demand; credits = omega arith; away = (refl, refl) }
seated_row shape made newcomer row (Some share) few is_row is_share = record { fair = is_share.fair; floor = is_share.floor; demand = is_row.demand; credits = credits_by row.present; away = tt }
  where
    credits_by : (on : Bool) → (if on then row.credits else newcomer) ≤ shape.credits + made * MOST_FAIR
    credits_by true = is_row.credits
    credits_by false = few

seat_is : (newcomer : ℕ) (row : Row) (seat : Option Share) → seat_of (seated newcomer row seat) ≡ seat
seat_is newcomer row None = refl
seat_is newcomer row (Some share) = refl

-- who has its seat keeps its row
abbrev with_seat : Row → ℕ → ℕ → ℕ → Bool → Row
with_seat row credits fair floor present = record row { credits = credits; fair = fair; floor = floor; present = present }

same_seat : (shape : Shape) (made newcomer : ℕ) (row : Row) → IsRow shape made row → seated newcomer row (seat_of row) ≡ row
same_seat shape made newcomer row is_row = same_by row.present refl
  where
    same_by : (on : Bool) → row.present ≡ on → seated newcomer row (if on then Some (record { fair = row.fair; floor = row.floor }) else None) ≡ row
    same_by true here = ap (λ on. with_seat row (if on then row.credits else newcomer) row.fair row.floor true) here ∙ ap (with_seat row row.credits row.fair row.floor) (sym here)
    same_by false here =
        let none : (row.fair ≡ 0) × (row.credits ≡ 0) = OnFalse_at here is_row.away in
        let low : row.floor ≡ 0 = omega (arith, is_row.floor, none.0) in
        ap (λ credits. with_seat row credits 0 0 false) (sym none.1) ∙ ap (λ fair. with_seat row row.credits fair 0 false) (sym none.0)
        ∙ ap (λ floor. with_seat row row.credits row.fair floor false) (sym low) ∙ ap (with_seat row row.credits row.fair row.floor) (sym here)

-- ---- all rows
module _ (shape : Shape) (made : ℕ) (rows : List Row) (roster : List (Option Share)) (same_length : length rows ≡ length roster) (are_rows : All (IsRow shape made) rows) where
  newcomer : ℕ
  newcomer = newcomer_credits shape.credits rows roster

  small : All (λ row. row.credits ≤ shape.credits + made * MOST_FAIR) rows
  small user default inside = (are_rows user default inside).credits

  few : newcomer_credits shape.credits rows roster ≤ shape.credits + made * MOST_FAIR
  few = newcomer_bound (shape.credits + made * MOST_FAIR) shape.credits rows roster (omega arith) small

  pub seated_length : length (seated_rows shape.credits rows roster) ≡ length rows
  seated_length = length-map (zip rows roster) _ ∙ pairs rows roster same_length

  seated_at : (user : ℕ) → user < length rows → row_of_user (seated_rows shape.credits rows roster) user ≡ seated (newcomer_credits shape.credits rows roster) (row_of_user rows user) (seat_at roster user)
  seated_at user inside =
      get_or-map (λ pair. seated (newcomer_credits shape.credits rows roster) pair.0 pair.1) (zip rows roster) user no_pair blank_row (omega (arith, pairs rows roster same_length))
      ∙ ap (λ pair. seated (newcomer_credits shape.credits rows roster) pair.0 pair.1) (pair_at rows roster same_length user inside)

  pub rows_seated : All (λ seat. IfSome seat IsShare) roster → All (IsRow shape made) (seated_rows shape.credits rows roster)
  rows_seated shares = All-from_get_or (IsRow shape made) (seated_rows shape.credits rows roster) blank_row (λ user inside.
      let in_rows : user < length rows = omega (arith, seated_length) in
      subst (λ row. IsRow shape made row) (sym (seated_at user in_rows))
      (seated_row shape made _ (row_of_user rows user) (seat_at roster user) few (are_rows user blank_row in_rows) (shares user None (omega arith))))

  pub seats_taken : map seat_of (seated_rows shape.credits rows roster) ≡ roster
  seats_taken = same_lists _ roster (length-map (seated_rows shape.credits rows roster) seat_of ∙ seated_length ∙ same_length) (λ user default inside.
      let in_seated : user < length (seated_rows shape.credits rows roster) = omega (arith, length-map (seated_rows shape.credits rows roster) seat_of) in
      let in_rows : user < length rows = omega (arith, seated_length) in
      get_or-map seat_of (seated_rows shape.credits rows roster) user blank_row default in_seated
      ∙ ap seat_of (seated_at user in_rows) ∙ seat_is _ (row_of_user rows user) (seat_at roster user)
      ∙ get_or_default roster user None default (omega arith))

  -- where the roster is that of the rows, they stay as they are
  pub rows_stay : map seat_of rows ≡ roster → seated_rows shape.credits rows roster ≡ rows
  rows_stay same = same_lists _ rows seated_length (λ user default inside.
      let in_rows : user < length rows = omega (arith, seated_length) in
      let seat : seat_of (row_of_user rows user) ≡ seat_at roster user = sym (get_or-map seat_of rows user blank_row None in_rows) ∙ ap (λ seats. seat_at seats user) same in
      get_or_default (seated_rows shape.credits rows roster) user default blank_row inside
      ∙ seated_at user in_rows ∙ ap (seated _ (row_of_user rows user)) (sym seat) ∙ same_seat shape made _ (row_of_user rows user) (are_rows user blank_row in_rows)
      ∙ get_or_default rows user blank_row default in_rows)

-- ---- the book
module _ (book : BookView) (promised : ℕ) (changes : Bool) (is_book : IsBook book promised changes) where
  same_length : length book.rows ≡ length book.roster
  same_length = is_book.users ∙ sym is_book.roster.users

  pub book_seated : IsBook (seated_book book) promised false
  book_seated = record {
    plan = is_book.plan;
    users = seated_length book.shape book.quanta book.rows book.roster same_length is_book.rows ∙ is_book.users;
    quanta = is_book.quanta;
    rows = rows_seated book.shape book.quanta book.rows book.roster same_length is_book.rows is_book.roster.shares;
    roster = record {
      users = is_book.roster.users;
      shares = is_book.roster.shares;
      all = is_book.roster.all;
      within = is_book.roster.within;
      same = seats_taken book.shape book.quanta book.rows book.roster same_length is_book.rows;
    };
  }

  pub book_stays : map seat_of book.rows ≡ book.roster → seated_book book ≡ book
  book_stays same = ap (λ rows. record book { rows = rows }) (rows_stay book.shape book.quanta book.rows book.roster same_length is_book.rows same)
