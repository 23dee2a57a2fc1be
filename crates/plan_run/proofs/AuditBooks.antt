-- The book of an audit over its quanta.
use Rattle.std.proofs.Common.{◌≡◌, ℕ, suc, ◌+◌, ◌-◌, ◌*◌, ◌<◌, ◌≤◌, ◌^◌, Bool, true, false, IfSome, List, [], ◌∷◌, length, map, get_or, Option, Some, None, refl, sym, ◌∙◌, ap, subst, arith}
use Rattle.std.specs.List.{All, sum_by}
use Rattle.std.proofs.lemmas.Bool.{OnFalse_at, OnFalse_from}
use Rattle.std.proofs.lemmas.List.Elements.{All-nil, All-cons, All-head, All-tail, All-map, All-weaker}
use Rattle.std.proofs.lemmas.List.Folds.{sum_by-replicate}
use Rattle.karma_rule.specs.declared.row.Row.{Row}
use Rattle.karma_rule.specs.declared.row.Share.{Share}
use Rattle.karma_rule.specs.declared.shape.Shape.{Shape}
use Rattle.karma_rule.specs.Karma.{karma}
use Rattle.karma_rule.specs.Limits.{IsPlan}
use Rattle.karma_rule.proofs.Laws.{karma_keeps}
use Rattle.karma_rule.specs.Quanta.{MakesQuantum}
use Rattle.karma_rule.specs.Laws.{standing}
use Rattle.karma_rule.proofs.Walks.{map-map}
use Rattle.demand_book.specs.Book.{BookView, opening_book, demanding, seated_book}
use Rattle.demand_book.specs.Inside.{IsRow, IsBook, IsShare}
use Rattle.demand_book.specs.Roster.{seat_of, fair_of_seat}
use Rattle.demand_book.proofs.RowsOfBook.{one_more, ready_rows, opens as book_opens}
use Rattle.demand_book.proofs.Seating.{book_seated, book_stays}
use Rattle.quantum_text.specs.Shares.{IsSeat}
use Rattle.plan_run.specs.SharesLine.{is_roster}
use Rattle.plan_run.specs.AuditText.{with_demands, with_seats, after_demands}
use Rattle.plan_run.specs.Auditing.{IsLeft}
use Rattle.plan_run.proofs.SharesLines.{roster_parts}

-- the rows with their demands
pub demands_long : (demands : List ℕ) (rows : List Row) → length (with_demands demands rows) ≡ length rows
demands_long [] rows = refl
demands_long (d ∷ ds) [] = refl
demands_long (d ∷ ds) (row ∷ rows) = ap suc (demands_long ds rows)

rows_asked : (shape : Shape) (made : ℕ) (demands : List ℕ) (rows : List Row) → All (λ demand. demand ≤ 2 ^ 42) demands → All (IsRow shape made) rows → All (IsRow shape made) (with_demands demands rows)
rows_asked shape made [] rows low before = before
rows_asked shape made (d ∷ ds) [] low before = before
rows_asked shape made (d ∷ ds) (row ∷ rows) low before =
    let is_row : IsRow shape made row = All-head (IsRow shape made) row rows before in
    All-cons (IsRow shape made) (demanding d row) (with_demands ds rows)
    (record { fair = is_row.fair; floor = is_row.floor; demand = All-head (λ demand. demand ≤ 2 ^ 42) d ds low; credits = is_row.credits; away = is_row.away })
    (rows_asked shape made ds rows (All-tail (λ demand. demand ≤ 2 ^ 42) d ds low) (All-tail (IsRow shape made) row rows before))

seats_asked : (demands : List ℕ) (rows : List Row) → map seat_of (with_demands demands rows) ≡ map seat_of rows
seats_asked [] rows = refl
seats_asked (d ∷ ds) [] = refl
seats_asked (d ∷ ds) (row ∷ rows) = ap (λ seats. seat_of row ∷ seats) (seats_asked ds rows)

module _ (book : BookView) (demands : List ℕ) (changes : Bool) (inside : IsLeft book changes) (low : All (λ demand. demand ≤ 2 ^ 42) demands) (more : book.quanta < 2 ^ 28) where
  abbrev asked : BookView
  asked = record book { rows = with_demands demands book.rows }

  abbrev promised : ℕ
  promised = sum_by fair_of_seat book.roster

  demanded : IsLeft asked changes
  demanded = record {
    plan = inside.plan;
    users = demands_long demands book.rows ∙ inside.users;
    quanta = inside.quanta;
    rows = rows_asked book.shape book.quanta demands book.rows low inside.rows;
    roster = record {
      users = inside.roster.users;
      shares = inside.roster.shares;
      all = inside.roster.all;
      within = inside.roster.within;
      same = OnFalse_from _ _ (λ unchanged. seats_asked demands book.rows ∙ OnFalse_at unchanged inside.roster.same);
    };
  }

  pub its_laws : MakesQuantum (seated_book asked).rows (after_demands book demands).rows
  its_laws = karma_keeps (seated_book asked).rows (karma (seated_book asked).rows) (ready_rows (seated_book asked) promised false (book_seated asked promised changes demanded)) refl

  pub inside_next : IsLeft (after_demands book demands) false
  inside_next = one_more (seated_book asked) promised false (after_demands book demands).rows (book_seated asked promised changes demanded) more its_laws

-- where the roster is that of the rows
pub steady_laws : (book : BookView) (demands : List ℕ) → IsLeft book false → All (λ demand. demand ≤ 2 ^ 42) demands → book.quanta < 2 ^ 28 → MakesQuantum (with_demands demands book.rows) (after_demands book demands).rows
steady_laws book demands inside low more =
    let asked : BookView = record book { rows = with_demands demands book.rows } in
    let stay : seated_book asked ≡ asked = book_stays asked (sum_by fair_of_seat book.roster) false (demanded book demands false inside low more) (seats_asked demands book.rows ∙ inside.roster.same) in
    subst (λ (seated_then : BookView). MakesQuantum seated_then.rows (karma (seated_book asked).rows)) stay (its_laws book demands false inside low more)

-- a roster that was told
seat_within : (seat : Option Share) → IsSeat seat → IfSome seat IsShare
seat_within None is = tt
seat_within (Some share) is = record { fair = is.fair; floor = is.floor }

pub inside_told : (book : BookView) (changes : Bool) (roster : List (Option Share)) → IsLeft book changes → is_roster book.shape roster ≡ true → IsLeft (with_seats book roster) true
inside_told book changes roster inside is =
    let parts = roster_parts book.shape roster is in
    record {
      plan = inside.plan;
      users = inside.users;
      quanta = inside.quanta;
      rows = inside.rows;
      roster = record { users = parts.many; shares = All-weaker IsSeat (λ seat. IfSome seat IsShare) seat_within roster parts.within; all = refl; within = parts.together; same = tt };
    }

pub its_demands : (book : BookView) (changes : Bool) → IsLeft book changes → All (λ (row : Row). row.demand ≤ 2 ^ 42) book.rows
its_demands book changes inside user default here = (inside.rows user default here).demand

pub demands_stand : (before after : List Row) → MakesQuantum before after → map (λ (row : Row). row.demand) after ≡ map (λ (row : Row). row.demand) before
demands_stand before after made = sym (map-map (λ (row : Row). row.demand) standing after) ∙ ap (map (λ (row : Row). row.demand)) made.stands ∙ map-map (λ (row : Row). row.demand) standing before

pub slices_within : (rows : List Row) → All (λ row. row.demand ≤ 2 ^ 42) rows → All (λ row. row.given ≤ row.demand) rows → All (λ n. n ≤ 2 ^ 64 - 1) (map (λ (row : Row). row.given) rows)
slices_within [] low given = All-nil (λ n. n ≤ 2 ^ 64 - 1)
slices_within (row ∷ rows) low given =
    let demand : row.demand ≤ 2 ^ 42 = All-head (λ (r : Row). r.demand ≤ 2 ^ 42) row rows low in
    let slices : row.given ≤ row.demand = All-head (λ (r : Row). r.given ≤ r.demand) row rows given in
    All-cons (λ n. n ≤ 2 ^ 64 - 1) row.given (map (λ (r : Row). r.given) rows) (omega arith)
    (slices_within rows (All-tail (λ (r : Row). r.demand ≤ 2 ^ 42) row rows low) (All-tail (λ (r : Row). r.given ≤ r.demand) row rows given))

pub its_credits : (book : BookView) (changes : Bool) → IsLeft book changes → All (λ n. n ≤ 2 ^ 64 - 1) (map (λ (row : Row). row.credits) book.rows)
its_credits book changes inside = All-map (λ n. n ≤ 2 ^ 64 - 1) (λ (row : Row). row.credits) book.rows
    (λ user default here. let low : (get_or book.rows user default).credits ≤ book.shape.credits + book.quanta * 2 ^ 32 = (inside.rows user default here).credits in omega (arith, inside.plan.credits, inside.quanta))

-- what a quantum gives fits a line
pub its_slices : (book : BookView) (demands : List ℕ) (changes : Bool) → IsLeft book changes → All (λ demand. demand ≤ 2 ^ 42) demands → book.quanta < 2 ^ 28 → All (λ n. n ≤ 2 ^ 64 - 1) (map (λ (row : Row). row.given) (after_demands book demands).rows)
its_slices book demands changes inside low more =
    slices_within (after_demands book demands).rows (its_demands (after_demands book demands) false (inside_next book demands changes inside low more)) (its_laws book demands changes inside low more).wanted

-- the opening
pub opens : (shape : Shape) → IsPlan shape → IsLeft (opening_book shape) false
opens shape plan = subst (λ promised. IsBook (opening_book shape) promised false) (sym (sum_by-replicate fair_of_seat shape.users (Some shape.share))) (book_opens shape plan)
