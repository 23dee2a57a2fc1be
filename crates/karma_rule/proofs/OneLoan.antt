-- One loan, as facts on numbers: who borrows, who lends, and what each user has afterwards.
use Rattle.std.proofs.Common.{◌≡◌, ℕ, zero, suc, ◌+◌, ◌*◌, ◌<◌, ◌≤◌, Bool, true, false, List, length, get_or, Option, Some, None, refl, sym, ap, ◌∙◌, subst, arith}
use Rattle.std.specs.List.{sum_by}
use Rattle.std.proofs.lemmas.List.{set_past}
use Rattle.std.proofs.lemmas.List.Sums.{sum_by-le}
use Rattle.std.proofs.lemmas.Bool.Decides.{nat_tests}
use Rattle.karma_rule.specs.Karma.{User, Quantum, change_at, can_borrow, can_lend, is_richer, is_poorer, next_borrower, next_donor, borrow, lend, loan, next, lendable}
use Rattle.karma_rule.proofs.FirstBest.{IsFirstBest, IsFirstBest-from_first_best, IsFirstBest-none}
use Rattle.karma_rule.proofs.Changes.{length-change_at, change_at-set}
use Rattle.karma_rule.proofs.Loans.{more_credits, fewer_credits, nobody, lendable_donated, lendable_shared}

abbrev pub at : List User → ℕ → User
at users place = get_or users place nobody

abbrev pub NeedsOne : User → Type 0
NeedsOne user = (user.row.given < user.row.demand) × (0 < user.row.credits)

-- a loan to b, from d or, where d is past the end, of a shared slice
pub record IsLoan (users after : List User) (borrower donor : ℕ) : Type 0 where
  pub same_length : length after ≡ length users
  pub borrower_within : borrower < length users
  pub borrower_needs : NeedsOne (at users borrower)
  pub borrower_richest : (place : ℕ) → place < length users → NeedsOne (at users place) → (at users place).row.credits ≤ (at users borrower).row.credits
  pub borrower_first : (place : ℕ) → place < borrower → NeedsOne (at users place) → (at users place).row.credits < (at users borrower).row.credits
  pub donor_left : donor < length users → 0 < (at users donor).left
  pub donor_poorest : donor < length users → (place : ℕ) → place < length users → 0 < (at users place).left → (at users donor).row.credits ≤ (at users place).row.credits
  pub donor_first : donor < length users → (place : ℕ) → place < donor → 0 < (at users place).left → (at users donor).row.credits < (at users place).row.credits
  pub after_is : after ≡ change_at lend (change_at borrow users borrower) donor

needs_from_test : (user : User) → can_borrow user ≡ true → NeedsOne user
needs_from_test user test = (grind (arith, nat_tests), grind (arith, nat_tests))

test_from_needs : (user : User) → NeedsOne user → can_borrow user ≡ true
test_from_needs user needs = let unmet : user.row.given < user.row.demand = needs.0 in let pays : 0 < user.row.credits = needs.1 in grind (arith, nat_tests)

left_from_test : (user : User) → can_lend user ≡ true → 0 < user.left
left_from_test user test = grind (arith, nat_tests)

test_from_left : (user : User) → 0 < user.left → can_lend user ≡ true
test_from_left user left = grind (arith, nat_tests)

not_richer : (user other : User) → is_richer user other ≡ false → user.row.credits ≤ other.row.credits
not_richer user other test = grind (arith, nat_tests)

richer : (user other : User) → is_richer user other ≡ true → other.row.credits < user.row.credits
richer user other test = grind (arith, nat_tests)

not_poorer : (user other : User) → is_poorer user other ≡ false → other.row.credits ≤ user.row.credits
not_poorer user other test = grind (arith, nat_tests)

poorer : (user other : User) → is_poorer user other ≡ true → user.row.credits < other.row.credits
poorer user other test = grind (arith, nat_tests)

pub loan_donated : (users : List User) (borrower donor : ℕ) → next_borrower users ≡ Some borrower → next_donor users ≡ Some donor → IsLoan users (change_at lend (change_at borrow users borrower) donor) borrower donor
loan_donated users borrower donor borrower_is donor_is =
    let best_borrower : IsFirstBest can_borrow is_richer users (length users) borrower = IsFirstBest-from_first_best can_borrow is_richer more_credits users borrower borrower_is in
    let best_donor : IsFirstBest can_lend is_poorer users (length users) donor = IsFirstBest-from_first_best can_lend is_poorer fewer_credits users donor donor_is in
    record {
      same_length = length-change_at lend (change_at borrow users borrower) donor ∙ length-change_at borrow users borrower;
      borrower_within = best_borrower.within;
      borrower_needs = needs_from_test (at users borrower) (best_borrower.passing nobody);
      borrower_richest = λ place inside needs. not_richer (at users place) (at users borrower) (best_borrower.none_better place nobody inside (test_from_needs (at users place) needs));
      borrower_first = λ place inside needs. richer (at users borrower) (at users place) (best_borrower.better_than_before place nobody inside (test_from_needs (at users place) needs));
      donor_left = λ _. left_from_test (at users donor) (best_donor.passing nobody);
      donor_poorest = λ _ place inside needs. not_poorer (at users place) (at users donor) (best_donor.none_better place nobody inside (test_from_left (at users place) needs));
      donor_first = λ _ place inside needs. poorer (at users donor) (at users place) (best_donor.better_than_before place nobody inside (test_from_left (at users place) needs));
      after_is = refl;
    }

change_past : (change : User → User) (xs : List User) → change_at change xs (length xs) ≡ xs
change_past change xs = change_at-set change xs (length xs) nobody ∙ set_past xs (length xs) (change (at xs (length xs))) (omega arith)

pub loan_shared : (users : List User) (borrower : ℕ) → next_borrower users ≡ Some borrower → IsLoan users (change_at borrow users borrower) borrower (length users)
loan_shared users borrower borrower_is =
    let best_borrower : IsFirstBest can_borrow is_richer users (length users) borrower = IsFirstBest-from_first_best can_borrow is_richer more_credits users borrower borrower_is in
    let same : length (change_at borrow users borrower) ≡ length users = length-change_at borrow users borrower in
    record {
      same_length = same;
      borrower_within = best_borrower.within;
      borrower_needs = needs_from_test (at users borrower) (best_borrower.passing nobody);
      borrower_richest = λ place inside needs. not_richer (at users place) (at users borrower) (best_borrower.none_better place nobody inside (test_from_needs (at users place) needs));
      borrower_first = λ place inside needs. richer (at users borrower) (at users place) (best_borrower.better_than_before place nobody inside (test_from_needs (at users place) needs));
      donor_left = λ inside. absurd (omega arith);
      donor_poorest = λ inside place there needs. absurd (omega arith);
      donor_first = λ inside place there needs. absurd (omega arith);
      after_is = sym (ap (change_at lend (change_at borrow users borrower)) (sym same) ∙ change_past lend (change_at borrow users borrower));
    }

-- What the next step does: nothing, since nobody can borrow or no slice is left, or a loan that takes a slice.
pub data NextStep (state : Quantum) : Type 0 where
  nobody_borrows : next state ≡ state → ((place : ℕ) → place < length state.users → NeedsOne (at state.users place) → ⊥) → NextStep state
  none_left : next state ≡ state → lendable state ≡ 0 → NextStep state
  loaned : (borrower donor : ℕ) → IsLoan state.users (next state).users borrower donor → lendable state ≡ lendable (next state) + 1 → NextStep state

clash : (test : Bool) → test ≡ true → test ≡ false → ⊥
clash test holds fails = cc

no_left : (user : User) → can_lend user ≡ false → user.left ≤ 0
no_left user test = grind (arith, nat_tests)

abbrev pub quantum : List User → ℕ → Quantum
quantum users shared = record { users = users; shared = shared }

pub nothing_left : (users : List User) → ((place : ℕ) (default : User) → place < length users → can_lend (get_or users place default) ≡ false) → sum_by (λ (user : User). user.left) users ≡ 0
nothing_left users none =
    let at_most : sum_by (λ (user : User). user.left) users ≤ length users * 0 = sum_by-le (λ (user : User). user.left) 0 users (λ place default inside. no_left (get_or users place default) (none place default inside)) in
    omega (arith, at_most)

pub step_by : (users : List User) (shared : ℕ) (borrower donor : Option ℕ) → next_borrower users ≡ borrower → next_donor users ≡ donor → next (quantum users shared) ≡ loan borrower donor users shared
step_by users shared borrower donor borrower_is donor_is = ap (λ choice. loan choice (next_donor users) users shared) borrower_is ∙ ap (λ choice. loan borrower choice users shared) donor_is

step_cases : (users : List User) (shared : ℕ) (borrower donor : Option ℕ) → next_borrower users ≡ borrower → next_donor users ≡ donor → NextStep (quantum users shared)
step_cases users shared None donor borrower_is donor_is =
    nobody_borrows (step_by users shared None donor borrower_is donor_is)
    (λ place inside needs. clash (can_borrow (at users place)) (test_from_needs (at users place) needs) (IsFirstBest-none can_borrow is_richer more_credits users borrower_is place nobody inside))
step_cases users shared (Some borrower) (Some donor) borrower_is donor_is =
    let stepped : next (quantum users shared) ≡ loan (Some borrower) (Some donor) users shared = step_by users shared (Some borrower) (Some donor) borrower_is donor_is in
    loaned borrower donor
    (subst (λ (after : List User). IsLoan users after borrower donor) (sym (ap (λ state. state.users) stepped)) (loan_donated users borrower donor borrower_is donor_is))
    (lendable_donated users shared borrower donor donor_is ∙ ap (λ state. lendable state + 1) (sym stepped))
step_cases users zero (Some borrower) None borrower_is donor_is =
    let none : sum_by (λ (user : User). user.left) users ≡ 0 = nothing_left users (IsFirstBest-none can_lend is_poorer fewer_credits users donor_is) in
    none_left (step_by users zero (Some borrower) None borrower_is donor_is) (omega arith)
step_cases users (suc shared) (Some borrower) None borrower_is donor_is =
    let stepped : next (quantum users (suc shared)) ≡ loan (Some borrower) None users (suc shared) = step_by users (suc shared) (Some borrower) None borrower_is donor_is in
    loaned borrower (length users)
    (subst (λ (after : List User). IsLoan users after borrower (length users)) (sym (ap (λ state. state.users) stepped)) (loan_shared users borrower borrower_is))
    (lendable_shared users shared borrower ∙ ap (λ state. lendable state + 1) (sym stepped))

pub next_step : (state : Quantum) → NextStep state
next_step state = step_cases state.users state.shared (next_borrower state.users) (next_donor state.users) refl refl
