-- The laws of the rule.
use Rattle.std.proofs.Common.{◌≡◌, ℕ, ◌+◌, ◌-◌, ◌<◌, ◌≤◌, min, Bool, true, false, ◌⊎◌, inl, inr, List, [], ◌∷◌, length, get_or, map, refl, sym, ap, ◌∙◌, subst, arith}
use Rattle.std.specs.Bool.{OnTrue, OnFalse}
use Rattle.std.specs.List.{sum_by, All}
use Rattle.std.proofs.lemmas.List.{length-map, get_or-map, get_or_default, same_lists}
use Rattle.std.proofs.lemmas.List.Sums.{sum_by-cons}
use Rattle.std.proofs.lemmas.List.Elements.{All-from_get_or, All-head, All-tail}
use Rattle.std.proofs.lemmas.Bool.{cases_lt, OnTrue_at, OnFalse_at, OnFalse_from}
use Rattle.karma_rule.specs.declared.row.Row.{Row}
use Rattle.karma_rule.specs.Karma.{User, if_present, surplus, opened, opening, closing, lendable, row_of, karma}
use Rattle.karma_rule.specs.Laws.{standing, row_at, usable, total_given, HasBorrowed, CouldBorrow, earned, IsLevelled}
use Rattle.karma_rule.specs.Quanta.{IsReady, CanMakeQuantum, MakesQuantum}
use Rattle.karma_rule.proofs.Loans.{nobody}
use Rattle.karma_rule.proofs.OneLoan.{at, NeedsOne}
use Rattle.karma_rule.proofs.RowsOfUsers.{no_row, IsIdle, opened_any, opened_is}
use Rattle.karma_rule.proofs.InOrder.{Apart, Since, same_demand, InOrder, within_demand, never_borrowed}
use Rattle.karma_rule.proofs.Ends.{Ended, closing_ended, closing_in_order, given_sum, closing_slices, sum_by-le-all, sum_by-map}

abbrev demand_of : Row → ℕ
demand_of row = row.demand

abbrev fair_of : Row → ℕ
fair_of row = row.fair

-- the parts of a fair share: what is given of the floor, what is donated, and what is shared
parts_of : (row : Row) → row.floor ≤ row.fair → (opened row).row.given + (opened row).left + if_present surplus row ≡ if_present fair_of row
parts_of row low = parts_by row.present refl
  where
    parts_by : (present : Bool) → row.present ≡ present → (opened row).row.given + (opened row).left + if_present surplus row ≡ if_present fair_of row
    parts_by true here = rw here (omega arith)
    parts_by false here = rw here refl

slices_opened : (rows : List Row) → All IsReady rows → given_sum (map opened rows) + sum_by (λ (user : User). user.left) (map opened rows) + sum_by (if_present surplus) rows ≡ sum_by (if_present fair_of) rows
slices_opened [] low = refl
slices_opened (row ∷ rows) low =
    let rest : given_sum (map opened rows) + sum_by (λ (user : User). user.left) (map opened rows) + sum_by (if_present surplus) rows ≡ sum_by (if_present fair_of) rows = slices_opened rows (All-tail IsReady row rows low) in
    let first : (opened row).row.given + (opened row).left + if_present surplus row ≡ if_present fair_of row = parts_of row (All-head IsReady row rows low).floor in
    omega (arith, sum_by-cons (λ (user : User). user.row.given) (opened row) (map opened rows), sum_by-cons (λ (user : User). user.left) (opened row) (map opened rows), sum_by-cons (if_present surplus) row rows, sum_by-cons (if_present fair_of) row rows)

module _ (rows : List Row) (ready : CanMakeQuantum rows) where
  abbrev start : List User
  start = (opening rows).users

  abbrev end : List User
  end = (closing (opening rows)).users

  low_at : (place : ℕ) → place < length rows → (row_at rows place).floor ≤ (row_at rows place).fair
  low_at place here_in = (ready place no_row here_in).floor

  idle_at : (place : ℕ) → place < length rows → IsIdle (row_at rows place)
  idle_at place here_in = (ready place no_row here_in).away

  start_at : (place : ℕ) → place < length rows → at start place ≡ opened_any (row_at rows place)
  start_at place here_in = get_or-map opened rows place no_row nobody here_in ∙ opened_is (row_at rows place) (low_at place here_in) (idle_at place here_in)

  start_length : length start ≡ length rows
  start_length = length-map rows opened

  start_apart : Apart start
  start_apart place here_in =
      let in_list : place < length rows = omega (arith, start_length) in
      subst (λ (user : User). 0 < user.left → user.row.demand ≤ user.row.given) (sym (start_at place in_list)) (λ left. omega arith)

  order : InOrder start end
  order = closing_in_order (opening rows) start_apart

  after_at : (place : ℕ) → place < length end → row_at (karma rows) place ≡ row_of (at end place)
  after_at place here_in = get_or-map row_of end place nobody _ here_in

  after_length : length (karma rows) ≡ length end
  after_length = length-map end row_of

  -- ---- row by row
  inside : (place : ℕ) → place < length (karma rows) → place < length end
  inside place here_in = omega (arith, after_length)

  in_rows : (place : ℕ) → place < length end → place < length rows
  in_rows place here_in = omega (arith, order.same_length, start_length)

  length_kept : length (karma rows) ≡ length rows
  length_kept = after_length ∙ order.same_length ∙ start_length

  since_at : (place : ℕ) → place < length end → Since (opened_any (row_at rows place)) (at end place)
  since_at place here_in = subst (λ user. Since user (at end place)) (start_at place (in_rows place here_in)) (order.each place here_in)

  pub stands : map standing (karma rows) ≡ map standing rows
  stands =
      same_lists _ _ (length-map (karma rows) standing ∙ length_kept ∙ sym (length-map rows standing)) (λ place default here_in.
      let in_after : place < length (karma rows) = omega (arith, length-map (karma rows) standing) in
      let in_end : place < length end = inside place in_after in
      get_or-map standing (karma rows) place no_row default in_after
      ∙ ap standing (after_at place in_end) ∙ (since_at place in_end).same_standing
      ∙ sym (get_or-map standing rows place no_row default (in_rows place in_end)))

  given_within : (place : ℕ) → place < length end → (at end place).row.given ≤ (at end place).row.demand
  given_within place here_in =
      let since : Since (opened_any (row_at rows place)) (at end place) = since_at place here_in in
      let demand : (at end place).row.demand ≡ (row_at rows place).demand = same_demand since in
      let opened_within : min (row_at rows place).demand (row_at rows place).floor ≤ (at end place).row.demand = omega arith in
      within_demand (opened_any (row_at rows place)) (at end place) since opened_within

  pub wanted : All (λ row. row.given ≤ row.demand) (karma rows)
  wanted = All-from_get_or (λ row. row.given ≤ row.demand) (karma rows) no_row (λ place here_in.
      subst (λ (row : Row). row.given ≤ row.demand) (sym (after_at place (inside place here_in))) (given_within place (inside place here_in)))

  -- who is away has nothing from the opening on
  away_at : (place : ℕ) → place < length end → OnFalse (at end place).row.present (((at end place).row.given ≡ 0) × ((at end place).row.credits ≡ 0))
  away_at place here_in = OnFalse_from _ _ (λ is_away.
      let since : Since (opened_any (row_at rows place)) (at end place) = since_at place here_in in
      let was_away : (row_at rows place).present ≡ false = sym (ap (λ row. row.present) since.same_standing) ∙ is_away in
      let none : ((row_at rows place).fair ≡ 0) × ((row_at rows place).credits ≡ 0) = OnFalse_at was_away (idle_at place (in_rows place here_in)) in
      let total : (at end place).row.credits + (at end place).row.given + (at end place).left ≡ ((row_at rows place).credits + ((row_at rows place).fair - (row_at rows place).floor)) + min (row_at rows place).demand (row_at rows place).floor + ((row_at rows place).floor - (row_at rows place).demand) = since.total in
      (omega (arith, none.0, none.1, low_at place (in_rows place here_in)), omega (arith, none.0, none.1, low_at place (in_rows place here_in))))

  pub away : All (λ row. OnFalse row.present ((row.given ≡ 0) × (row.credits ≡ 0))) (karma rows)
  away = All-from_get_or (λ row. OnFalse row.present ((row.given ≡ 0) × (row.credits ≡ 0))) (karma rows) no_row (λ place here_in.
      subst (λ (row : Row). OnFalse row.present ((row.given ≡ 0) × (row.credits ≡ 0))) (sym (after_at place (inside place here_in))) (away_at place (inside place here_in)))

  -- what a user holds and what it was given come from its credits before and its fair share
  pub paid : (place : ℕ) → place < length rows → (row_at (karma rows) place).credits + (row_at (karma rows) place).given ≤ (row_at rows place).credits + (row_at rows place).fair
  paid place here_in =
      let in_end : place < length end = omega (arith, order.same_length, start_length) in
      let credits : (row_at (karma rows) place).credits ≡ (at end place).row.credits = ap (λ row. row.credits) (after_at place in_end) in
      let given : (row_at (karma rows) place).given ≡ (at end place).row.given = ap (λ row. row.given) (after_at place in_end) in
      let total : (at end place).row.credits + (at end place).row.given + (at end place).left ≡ ((row_at rows place).credits + ((row_at rows place).fair - (row_at rows place).floor)) + min (row_at rows place).demand (row_at rows place).floor + ((row_at rows place).floor - (row_at rows place).demand) = (since_at place in_end).total in
      omega (arith, low_at place here_in)

  -- ---- sums
  slices_closed : given_sum end + lendable (closing (opening rows)) ≡ sum_by (if_present fair_of) rows
  slices_closed =
      let all : given_sum end + lendable (closing (opening rows)) ≡ given_sum start + (sum_by (λ (user : User). user.left) start + sum_by (if_present surplus) rows) = closing_slices (opening rows) in
      let parts : given_sum start + sum_by (λ (user : User). user.left) start + sum_by (if_present surplus) rows ≡ sum_by (if_present fair_of) rows = slices_opened rows ready in
      omega arith

  given_is : total_given (karma rows) ≡ given_sum end
  given_is = sum_by-map (λ (row : Row). row.given) row_of end

  demands_stand : sum_by (if_present demand_of) (karma rows) ≡ sum_by (if_present demand_of) rows
  demands_stand = sym (sum_by-map (if_present demand_of) standing (karma rows)) ∙ ap (sum_by (if_present demand_of)) stands ∙ sum_by-map (if_present demand_of) standing rows

  of_present : (row : Row) → row.given ≤ row.demand → OnFalse row.present ((row.given ≡ 0) × (row.credits ≡ 0)) → row.given ≤ if_present demand_of row
  of_present row within none = present_by row.present refl
    where
      present_by : (present : Bool) → row.present ≡ present → row.given ≤ if_present demand_of row
      present_by true here = rw here within
      present_by false here = let nothing : row.given ≡ 0 = (OnFalse_at here none).0 in rw here (omega arith)

  given_wanted : total_given (karma rows) ≤ sum_by (if_present demand_of) rows
  given_wanted =
      let each : total_given (karma rows) ≤ sum_by (if_present demand_of) (karma rows) = sum_by-le-all (λ row. row.given) (if_present demand_of) (karma rows)
      (λ place default here_in. of_present (get_or (karma rows) place default) (wanted place default here_in) (away place default here_in)) in
      omega (arith, demands_stand)

  pub given_usable : total_given (karma rows) ≤ usable rows
  given_usable = omega (arith, given_is, given_wanted, slices_closed)

  -- one who wants more and isn't out of credits could still borrow
  met_at : ((place : ℕ) → place < length end → NeedsOne (at end place) → ⊥) → (row : Row) (place : ℕ) → place < length end → row ≡ row_of (at end place) → OnTrue row.present (row.given < row.demand → 0 < row.credits) → if_present demand_of row ≤ row.given
  met_at none row place here_in same has = met_by row.present refl (cases_lt row.given row.demand)
    where
      met_by : (present : Bool) → row.present ≡ present → (row.given < row.demand) ⊎ (row.demand ≤ row.given) → if_present demand_of row ≤ row.given
      met_by false here compared = rw here (omega arith)
      met_by true here (inr met) = rw here met
      met_by true here (inl unmet) =
          absurd (none place here_in (subst (λ (row : Row). (row.given < row.demand) × (0 < row.credits)) same (unmet, OnTrue_at here has unmet)))

  pub all_used : All (λ row. OnTrue row.present (row.given < row.demand → 0 < row.credits)) (karma rows) → total_given (karma rows) ≡ usable rows
  all_used paid = used_by (closing_ended (opening rows))
    where
      used_by : Ended (closing (opening rows)) → total_given (karma rows) ≡ usable rows
      used_by (inl none) =
          let each : sum_by (if_present demand_of) (karma rows) ≤ total_given (karma rows) = sum_by-le-all (if_present demand_of) (λ row. row.given) (karma rows)
          (λ place default here_in. met_at none (get_or (karma rows) place default) place (inside place here_in) (get_or_default (karma rows) place default no_row here_in ∙ after_at place (inside place here_in)) (paid place default here_in)) in
          omega (arith, given_is, given_wanted, slices_closed, demands_stand)
      used_by (inr none) = omega (arith, given_is, given_wanted, slices_closed)

  -- ---- the order
  earned_is : (place : ℕ) → place < length end → Since (opened_any (row_at rows place)) (at end place) → (0 < earned (row_at rows place) (row_of (at end place)) → (at end place).left < (row_at rows place).floor - (row_at rows place).demand) × (earned (row_at rows place) (row_of (at end place)) < (row_at rows place).floor - (row_at rows place).demand → 0 < (at end place).left)
  earned_is place here_in since =
      let total : (at end place).row.credits + (at end place).row.given + (at end place).left ≡ ((row_at rows place).credits + ((row_at rows place).fair - (row_at rows place).floor)) + min (row_at rows place).demand (row_at rows place).floor + ((row_at rows place).floor - (row_at rows place).demand) = since.total in
      let gained : min (row_at rows place).demand (row_at rows place).floor ≤ (at end place).row.given = since.gained in
      let demand : (at end place).row.demand ≡ (row_at rows place).demand = same_demand since in (
        λ lent. omega arith,
        λ less.
            let met : (row_at rows place).demand ≤ min (row_at rows place).demand (row_at rows place).floor = omega arith in
            let same : (at end place).row.given ≡ min (row_at rows place).demand (row_at rows place).floor = never_borrowed (opened_any (row_at rows place)) (at end place) since met in
            omega arith,
      )

  first_given : (place : ℕ) → place < length end → (at start place).row.given ≡ min (row_at rows place).demand (row_at rows place).floor
  first_given place here_in = ap (λ user. user.row.given) (start_at place (in_rows place here_in))

  first_left : (place : ℕ) → place < length end → (at start place).left ≡ (row_at rows place).floor - (row_at rows place).demand
  first_left place here_in = ap (λ user. user.left) (start_at place (in_rows place here_in))

  pub levelled : IsLevelled rows (karma rows)
  levelled = record {
    borrowers = λ borrower other borrower_in other_in has could. borrowers_level borrower other (inside borrower borrower_in) (inside other other_in)
        (subst (λ (row : Row). HasBorrowed row) (after_at borrower (inside borrower borrower_in)) has) (subst (λ (row : Row). CouldBorrow row) (after_at other (inside other other_in)) could);
    donors = λ donor lender donor_in lender_in has could. donors_level donor lender (inside donor donor_in) (inside lender lender_in)
        (subst (λ (row : Row). 0 < earned (row_at rows donor) row) (after_at donor (inside donor donor_in)) has) (subst (λ (row : Row). earned (row_at rows lender) row < (row_at rows lender).floor - (row_at rows lender).demand) (after_at lender (inside lender lender_in)) could);
  }
    where
      borrowers_level : (borrower other : ℕ) → borrower < length end → other < length end → HasBorrowed (row_of (at end borrower)) → CouldBorrow (row_of (at end other)) → (row_at (karma rows) other).credits ≤ (row_at (karma rows) borrower).credits + 1
      borrowers_level borrower other borrower_in other_in has could =
          let since : Since (opened_any (row_at rows borrower)) (at end borrower) = since_at borrower borrower_in in
          let demand : (at end borrower).row.demand ≡ (row_at rows borrower).demand = same_demand since in
          let floor : (at end borrower).row.floor ≡ (row_at rows borrower).floor = ap (λ row. row.floor) since.same_standing in
          let has_more : min (at end borrower).row.demand (at end borrower).row.floor < (at end borrower).row.given = has in
          let borrowed : (at start borrower).row.given < (at end borrower).row.given = omega (arith, first_given borrower borrower_in) in
          let level : (at end other).row.credits ≤ (at end borrower).row.credits + 1 = order.borrowers borrower other borrower_in other_in borrowed could in
          rw (after_at other other_in, after_at borrower borrower_in) level

      donors_level : (donor lender : ℕ) → donor < length end → lender < length end → 0 < earned (row_at rows donor) (row_of (at end donor)) → earned (row_at rows lender) (row_of (at end lender)) < (row_at rows lender).floor - (row_at rows lender).demand → (row_at (karma rows) donor).credits ≤ (row_at (karma rows) lender).credits + 1
      donors_level donor lender donor_in lender_in has could =
          let lent : (at end donor).left < (row_at rows donor).floor - (row_at rows donor).demand = (earned_is donor donor_in (since_at donor donor_in)).0 has in
          let left : 0 < (at end lender).left = (earned_is lender lender_in (since_at lender lender_in)).1 could in
          let level : (at end donor).row.credits ≤ (at end lender).row.credits + 1 = order.donors donor lender donor_in lender_in (omega (arith, first_left donor donor_in)) left in
          rw (after_at donor donor_in, after_at lender lender_in) level

-- rows that are Karma's are a quantum's
pub karma_keeps : (before after : List Row) → CanMakeQuantum before → after ≡ karma before → MakesQuantum before after
karma_keeps before after ready is_karma = subst (λ (rows : List Row). MakesQuantum before rows) (sym is_karma) (record {
  rows = refl;
  stands = stands before ready;
  wanted = wanted before ready;
  away = away before ready;
  paid = paid before ready;
  within = given_usable before ready;
  used = all_used before ready;
  levelled = levelled before ready;
})
