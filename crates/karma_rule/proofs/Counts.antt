-- How many loans a quantum makes, and how many of them are of donated slices: the lesser of what can be taken and what can be lent.
use Rattle.std.proofs.Common.{◌≡◌, ℕ, zero, suc, ◌+◌, ◌-◌, ◌<◌, ◌≤◌, min, ◌⊎◌, inl, inr, List, length, Option, Some, None, refl, sym, ◌∙◌, subst, arith}
use Rattle.std.specs.List.{sum_by}
use Rattle.std.proofs.lemmas.Bool.{cases_lt}
use Rattle.karma_rule.specs.Karma.{User, Quantum, change_at, borrow, next_borrower, next_donor, can_lend, is_poorer, loan, next, after_loans, lendable, closing}
use Rattle.karma_rule.proofs.FirstBest.{IsFirstBest-none}
use Rattle.karma_rule.proofs.Changes.{sum_by-change_at_same}
use Rattle.karma_rule.proofs.Loans.{fewer_credits, lendable_donated}
use Rattle.karma_rule.proofs.OneLoan.{at, NeedsOne, quantum, nothing_left, step_by}
use Rattle.karma_rule.proofs.InOrder.{Apart, Since, same_demand, InOrder}
use Rattle.karma_rule.proofs.Ends.{Ended, closing_ended, closing_in_order, given_sum, closing_slices}
use Rattle.karma_rule.proofs.Unique.{sum_by-le-two, sum_by-add, same_ending}

abbrev pub left_sum : List User → ℕ
left_sum users = sum_by (λ (user : User). user.left) users

-- how many slices a user can take
abbrev pub can_take : User → ℕ
can_take user = min (user.row.demand - user.row.given) user.row.credits

abbrev pub takable : List User → ℕ
takable users = sum_by can_take users

-- ---- donated slices go first
-- from q on, what r is
pub record Later (before now : Quantum) : Type 0 where
  pub left_less : left_sum now.users ≤ left_sum before.users
  pub shared_less : now.shared ≤ before.shared
  pub donated_first : (now.shared ≡ before.shared) ⊎ (left_sum now.users ≡ 0)

later_by : (users : List User) (shared : ℕ) (borrower donor : Option ℕ) → next_borrower users ≡ borrower → next_donor users ≡ donor → Later (quantum users shared) (loan borrower donor users shared)
later_by users shared None donor borrower_is donor_is = record { left_less = omega arith; shared_less = omega arith; donated_first = inl refl }
later_by users shared (Some borrower) (Some donor) borrower_is donor_is =
    let one : lendable (quantum users shared) ≡ lendable (loan (Some borrower) (Some donor) users shared) + 1 = lendable_donated users shared borrower donor donor_is in
    record { left_less = omega arith; shared_less = omega arith; donated_first = inl refl }
later_by users zero (Some borrower) None borrower_is donor_is = record { left_less = omega arith; shared_less = omega arith; donated_first = inl refl }
later_by users (suc shared) (Some borrower) None borrower_is donor_is =
    let none : left_sum users ≡ 0 = nothing_left users (IsFirstBest-none can_lend is_poorer fewer_credits users donor_is) in
    let same : left_sum (change_at borrow users borrower) ≡ left_sum users = sum_by-change_at_same (λ user. user.left) borrow (λ user. refl) users borrower in
    record { left_less = omega arith; shared_less = omega arith; donated_first = inr (same ∙ none) }

later_next : (before : Quantum) → Later before (next before)
later_next before = subst (λ (now : Quantum). Later before now) (sym (step_by before.users before.shared (next_borrower before.users) (next_donor before.users) refl refl)) (later_by before.users before.shared (next_borrower before.users) (next_donor before.users) refl refl)

later_trans : (before middle last : Quantum) → Later before middle → Later middle last → Later before last
later_trans before middle last first second =
    let left_first : left_sum middle.users ≤ left_sum before.users = first.left_less in
    let left_second : left_sum last.users ≤ left_sum middle.users = second.left_less in
    let shared_first : middle.shared ≤ before.shared = first.shared_less in
    let shared_second : last.shared ≤ middle.shared = second.shared_less in
    record { left_less = omega arith; shared_less = omega arith; donated_first = first_by left_second first.donated_first second.donated_first }
  where
    first_by : left_sum last.users ≤ left_sum middle.users → (middle.shared ≡ before.shared) ⊎ (left_sum middle.users ≡ 0) → (last.shared ≡ middle.shared) ⊎ (left_sum last.users ≡ 0) → (last.shared ≡ before.shared) ⊎ (left_sum last.users ≡ 0)
    first_by less either (inr same) = inr same
    first_by less (inl same) (inl also) = inl (also ∙ same)
    first_by less (inr same) (inl also) = inr (omega arith)

later_after : (loans : ℕ) (start : Quantum) → Later start (after_loans loans start)
later_after zero start = record { left_less = omega arith; shared_less = omega arith; donated_first = inl refl }
later_after (suc loans) start = later_trans start (next start) (after_loans loans (next start)) (later_next start) (later_after loans (next start))

closing_later : (start : Quantum) → Later start (closing start)
unfolding closing
closing_later start = later_after (lendable start) start

-- ---- the counts
takes_at_most : (first user : User) → (0 < first.left → first.row.demand ≤ first.row.given) → Since first user → user.row.given ≤ first.row.given + can_take first
takes_at_most first user apart since = takes_by (cases_lt first.row.given user.row.given) (cases_lt 0 first.left)
  where
    total : user.row.credits + user.row.given + user.left ≡ first.row.credits + first.row.given + first.left
    total = since.total

    takes_by : (first.row.given < user.row.given) ⊎ (user.row.given ≤ first.row.given) → (0 < first.left) ⊎ (first.left ≤ 0) → user.row.given ≤ first.row.given + can_take first
    takes_by (inr more) any = omega arith
    takes_by (inl more) (inl some) =
        let met : first.row.demand ≤ first.row.given = apart some in
        let capped : user.row.given ≤ user.row.demand = since.capped more in
        omega (arith, same_demand since)
    takes_by (inl more) (inr some) =
        let capped : user.row.given ≤ user.row.demand = since.capped more in
        omega (arith, same_demand since, total)

takes_all : (first user : User) → (0 < first.left → first.row.demand ≤ first.row.given) → Since first user → (NeedsOne user → ⊥) → first.row.given + can_take first ≤ user.row.given
takes_all first user apart since none = takes_by (cases_lt user.row.given user.row.demand) (cases_lt 0 user.row.credits) (cases_lt 0 first.left)
  where
    takes_by : (user.row.given < user.row.demand) ⊎ (user.row.demand ≤ user.row.given) → (0 < user.row.credits) ⊎ (user.row.credits ≤ 0) → (0 < first.left) ⊎ (first.left ≤ 0) → first.row.given + can_take first ≤ user.row.given
    takes_by (inr compared) purse left = omega (arith, same_demand since, since.gained)
    takes_by (inl compared) (inl purse) left = absurd (none (compared, purse))
    takes_by (inl compared) (inr purse) (inl left) =
        let met : first.row.demand ≤ first.row.given = apart left in
        omega (arith, same_demand since, since.gained)
    takes_by (inl compared) (inr purse) (inr left) = omega (arith, since.total, since.lent, since.gained)

pub loans_made : Quantum → ℕ
loans_made start = min (takable start.users) (lendable start)

module _ (start : Quantum) (apart : Apart start.users) where
  abbrev end : Quantum
  end = closing start

  order : InOrder start.users end.users
  order = closing_in_order start apart

  apart_at : (place : ℕ) → place < length end.users → 0 < (at start.users place).left → (at start.users place).row.demand ≤ (at start.users place).row.given
  apart_at place inside = apart place (omega (arith, order.same_length))

  at_most : given_sum end.users ≤ given_sum start.users + takable start.users
  at_most =
      let sum_most : given_sum end.users ≤ sum_by (λ (user : User). user.row.given + can_take user) start.users =
      sum_by-le-two (λ user. user.row.given) (λ user. user.row.given + can_take user) end.users start.users order.same_length
      (λ place inside. takes_at_most (at start.users place) (at end.users place) (apart_at place inside) (order.each place inside)) in
      omega (arith, sum_by-add (λ user. user.row.given) can_take start.users)

  at_least : ((place : ℕ) → place < length end.users → NeedsOne (at end.users place) → ⊥) → given_sum start.users + takable start.users ≤ given_sum end.users
  at_least none =
      let sum_least : sum_by (λ (user : User). user.row.given + can_take user) start.users ≤ given_sum end.users =
      sum_by-le-two (λ user. user.row.given + can_take user) (λ user. user.row.given) start.users end.users (sym order.same_length)
      (λ place inside. let in_end : place < length end.users = omega (arith, order.same_length) in takes_all (at start.users place) (at end.users place) (apart_at place in_end) (order.each place in_end) (none place in_end)) in
      omega (arith, sum_by-add (λ user. user.row.given) can_take start.users)

  pub given_count : given_sum end.users ≡ given_sum start.users + min (takable start.users) (lendable start)
  given_count = given_by (closing_ended start)
    where
      given_by : Ended end → given_sum end.users ≡ given_sum start.users + min (takable start.users) (lendable start)
      given_by (inl none) = omega (arith, at_most, at_least none, closing_slices start)
      given_by (inr none) = omega (arith, at_most, closing_slices start)

  pub left_count : left_sum end.users + min (min (takable start.users) (lendable start)) (left_sum start.users) ≡ left_sum start.users
  left_count = left_by later.donated_first
    where
      later : Later start end
      later = closing_later start

      left_by : (end.shared ≡ start.shared) ⊎ (left_sum end.users ≡ 0) → left_sum end.users + min (min (takable start.users) (lendable start)) (left_sum start.users) ≡ left_sum start.users
      left_by (inl same) = omega (arith, given_count, closing_slices start, later.left_less)
      left_by (inr same) = omega (arith, given_count, closing_slices start, later.shared_less)

  -- who has as many loans made, in the order of the rule, has what the rule gives
  pub ending_is : (users : List User) → InOrder start.users users → given_sum users ≡ given_sum start.users + min (takable start.users) (lendable start) → left_sum users + min (min (takable start.users) (lendable start)) (left_sum start.users) ≡ left_sum start.users → users ≡ end.users
  ending_is users in_order given left =
      same_ending start.users users end.users apart in_order order (given ∙ sym given_count) (omega (arith, left_count))
