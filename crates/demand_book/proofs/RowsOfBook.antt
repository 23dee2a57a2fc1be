-- The rows of a book over its calls.
use Rattle.std.proofs.Common.{◌≡◌, ℕ, zero, suc, ◌+◌, ◌*◌, ◌≤◌, ◌<◌, Bool, true, false, IfSome, List, ◌∷◌, ◌++◌, length, map, take, drop, get_or, set, replicate, Some, refl, sym, ap, ◌∙◌, subst, arith}
use Rattle.std.specs.Bool.{OnFalse}
use Rattle.std.specs.List.{refill, sum_by, All}
use Rattle.std.proofs.Math.Seq.{take-append_seam, map-set_same}
use Rattle.std.proofs.lemmas.Bool.{OnFalse_at, OnFalse_from}
use Rattle.std.proofs.lemmas.List.{length-map, length-set, length-replicate, get_or-map}
use Rattle.std.proofs.lemmas.List.Folds.{sum_by-replicate}
use Rattle.std.proofs.lemmas.List.Elements.{All-from_get_or, All-replicate, All-set}
use Rattle.karma_rule.specs.declared.row.Row.{Row}
use Rattle.karma_rule.specs.declared.shape.Shape.{Shape}
use Rattle.karma_rule.specs.declared.limits.TheConstants.{MOST_DEMAND}
use Rattle.karma_rule.specs.Limits.{IsPlan}
use Rattle.karma_rule.specs.Laws.{standing, row_at}
use Rattle.karma_rule.specs.Quanta.{IsReady, CanMakeQuantum, MakesQuantum}
use Rattle.karma_rule.proofs.Walks.{map-map}
use Rattle.demand_book.specs.declared.book.TheConstants.{QUANTA}
use Rattle.demand_book.specs.Book.{BookView, blank_row, opening_row, opening_book, demanding, with_roster}
use Rattle.demand_book.specs.Inside.{IsRow, IsShare, IsBook}
use Rattle.demand_book.specs.Roster.{seat_of, fair_of_seat}

pub overwritten_whole : {X : Type 0} (items written : List X) → length written ≡ length items → refill (length items) items written ≡ written
overwritten_whole items written same =
    subst (λ count. take count (written ++ drop (length written) items) ≡ written) same (take-append_seam written (drop (length written) items))

-- ---- the opening
map-replicate : {X Y : Type 0} (f : X → Y) (x : X) (count : ℕ) → map f (replicate count x) ≡ replicate count (f x)
map-replicate f x zero = refl
map-replicate f x (suc count) = ap (λ xs. f x ∷ xs) (map-replicate f x count)

pub opens : (shape : Shape) → IsPlan shape → IsBook (opening_book shape) (shape.users * shape.share.fair) false
opens shape plan = record {
  plan = plan;
  users = length-replicate shape.users (opening_row shape);
  quanta = omega arith;
  rows = All-replicate (IsRow shape 0) shape.users (opening_row shape) (record { fair = plan.fair.1; floor = plan.floor; demand = omega arith; credits = omega arith; away = tt });
  roster = record {
    users = length-replicate shape.users (Some shape.share);
    shares = All-replicate (λ seat. IfSome seat IsShare) shape.users (Some shape.share) (record { fair = plan.fair.1; floor = plan.floor });
    all = sym (sum_by-replicate fair_of_seat shape.users (Some shape.share));
    within = omega arith;
    same = map-replicate seat_of (opening_row shape) shape.users;
  };
}

-- ---- a report
row_reported : (shape : Shape) (made demand : ℕ) (row : Row) → demand ≤ MOST_DEMAND → IsRow shape made row → IsRow shape made (demanding demand row)
row_reported shape made demand row small is_row = record { fair = is_row.fair; floor = is_row.floor; demand = small; credits = is_row.credits; away = is_row.away }

pub book_reported : (book : BookView) (promised : ℕ) (changes : Bool) (user demand : ℕ) → IsBook book promised changes → user < book.shape.users → demand ≤ MOST_DEMAND
    → IsBook (record book { rows = set book.rows user (demanding demand (get_or book.rows user blank_row)) }) promised changes
book_reported book promised changes user demand is_book inside small =
    let in_rows : user < length book.rows = omega (arith, is_book.users) in
    record {
      plan = is_book.plan;
      users = length-set book.rows user (demanding demand (get_or book.rows user blank_row)) ∙ is_book.users;
      quanta = is_book.quanta;
      rows = All-set (IsRow book.shape book.quanta) book.rows user (demanding demand (get_or book.rows user blank_row)) (row_reported book.shape book.quanta demand (get_or book.rows user blank_row) small (is_book.rows user blank_row in_rows)) is_book.rows;
      roster = record {
        users = is_book.roster.users;
        shares = is_book.roster.shares;
        all = is_book.roster.all;
        within = is_book.roster.within;
        same = OnFalse_from _ _ (λ unchanged. map-set_same seat_of book.rows user (demanding demand (get_or book.rows user blank_row)) blank_row refl ∙ OnFalse_at unchanged is_book.roster.same);
      };
    }

-- ---- a roster
pub book_rostered : (book : BookView) (promised : ℕ) (changes : Bool) (rows : List Row) → IsBook book promised changes → length rows ≡ book.shape.users → All (λ seat. IfSome seat IsShare) (map seat_of rows)
    → sum_by fair_of_seat (map seat_of rows) ≤ book.shape.users * book.shape.share.fair → IsBook (with_roster book rows) (sum_by fair_of_seat (map seat_of rows)) true
book_rostered book promised changes rows is_book same_users shares together = record {
  plan = is_book.plan;
  users = is_book.users;
  quanta = is_book.quanta;
  rows = is_book.rows;
  roster = record { users = length-map rows seat_of ∙ same_users; shares = shares; all = refl; within = together; same = tt };
}

-- ---- a quantum
-- every row of a book can begin a quantum
pub ready_row : (shape : Shape) (made : ℕ) (row : Row) → IsPlan shape → made ≤ QUANTA → IsRow shape made row → IsReady row
ready_row shape made row plan few is_row = record {
  fair = is_row.fair;
  floor = is_row.floor;
  demand = is_row.demand;
  credits = omega (arith, is_row.credits, plan.credits);
  away = is_row.away;
}

-- a row after a quantum, by what stands of it and what it could be paid
next_row : (shape : Shape) (made : ℕ) (before after : Row) → IsRow shape made before → standing after ≡ standing before → after.credits + after.given ≤ before.credits + before.fair
    → OnFalse after.present ((after.given ≡ 0) × (after.credits ≡ 0)) → IsRow shape (made + 1) after
next_row shape made before after is_row stands paid away =
    let fair : after.fair ≡ before.fair = ap (λ row. row.fair) stands in
    let floor : after.floor ≡ before.floor = ap (λ row. row.floor) stands in
    let demand : after.demand ≡ before.demand = ap (λ row. row.demand) stands in
    record {
      fair = omega (arith, is_row.fair);
      floor = omega (arith, is_row.floor);
      demand = omega (arith, is_row.demand);
      credits = omega (arith, is_row.credits, is_row.fair);
      away = OnFalse_from _ _ (λ is_away.
          let was_away : before.present ≡ false = sym (ap (λ row. row.present) stands) ∙ is_away in
          (fair ∙ (OnFalse_at was_away is_row.away).0, (OnFalse_at is_away away).1));
    }

module _ (shape : Shape) (made : ℕ) (before after : List Row) (is_made : MakesQuantum before after) where
  pub users : length after ≡ length before
  users = sym (length-map after standing) ∙ ap length is_made.stands ∙ length-map before standing

  stands_at : (user : ℕ) → user < length after → standing (row_at after user) ≡ standing (row_at before user)
  stands_at user inside =
      sym (get_or-map standing after user blank_row (standing blank_row) inside) ∙ ap (λ rows. get_or rows user (standing blank_row)) is_made.stands
      ∙ get_or-map standing before user blank_row (standing blank_row) (omega (arith, users))

  pub next_rows : All (IsRow shape made) before → All (IsRow shape (made + 1)) after
  next_rows are_rows = All-from_get_or (IsRow shape (made + 1)) after blank_row (λ user inside.
      let in_before : user < length before = omega (arith, users) in
      next_row shape made (row_at before user) (row_at after user) (are_rows user blank_row in_before) (stands_at user inside) (is_made.paid user in_before) (is_made.away user blank_row inside))

  -- presence and shares stand
  pub seats_stand : map seat_of after ≡ map seat_of before
  seats_stand = sym (map-map seat_of standing after) ∙ ap (map seat_of) is_made.stands ∙ map-map seat_of standing before

-- the book after a quantum
pub one_more : (book : BookView) (promised : ℕ) (changes : Bool) (after : List Row) → IsBook book promised changes → book.quanta < QUANTA → MakesQuantum book.rows after → IsBook (record book { quanta = book.quanta + 1; rows = after }) promised changes
one_more book promised changes after is_book more made = record {
  plan = is_book.plan;
  users = users book.shape book.quanta book.rows after made ∙ is_book.users;
  quanta = omega arith;
  rows = next_rows book.shape book.quanta book.rows after made is_book.rows;
  roster = record {
    users = is_book.roster.users;
    shares = is_book.roster.shares;
    all = is_book.roster.all;
    within = is_book.roster.within;
    same = OnFalse_from _ _ (λ unchanged. seats_stand book.shape book.quanta book.rows after made ∙ OnFalse_at unchanged is_book.roster.same);
  };
}

-- every book can make a quantum
pub ready_rows : (book : BookView) (promised : ℕ) (changes : Bool) → IsBook book promised changes → CanMakeQuantum book.rows
ready_rows book promised changes is_book user default inside = ready_row book.shape book.quanta (get_or book.rows user default) is_book.plan is_book.quanta (is_book.rows user default inside)
