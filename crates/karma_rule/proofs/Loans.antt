-- What a loan does.
use Rattle.std.proofs.Common.{◌≡◌, ℕ, zero, suc, ◌+◌, ◌-◌, ◌<◌, true, false, List, length, get_or, Some, None, refl, sym, ap, ◌∙◌, arith}
use Rattle.std.specs.List.{sum_by}
use Rattle.std.specs.Cmp.{IsStrictWeakOrder}
use Rattle.std.proofs.lemmas.List.MinMax.{IsStrictWeakOrder-by_number, IsStrictWeakOrder-flip}
use Rattle.std.proofs.lemmas.Bool.Decides.{nat_tests}
use Rattle.karma_rule.specs.Karma.{User, Quantum, change_at, can_borrow, can_lend, is_richer, is_poorer, next_borrower, next_donor, borrow, lend, loan, next, after_loans, lendable, closing}
use Rattle.karma_rule.proofs.FirstBest.{IsFirstBest, IsFirstBest-from_first_best}
use Rattle.karma_rule.proofs.Changes.{length-change_at, kept-change_at, sum_by-change_at, sum_by-change_at_same}

pub more_credits : IsStrictWeakOrder is_richer
more_credits = IsStrictWeakOrder-flip _ (IsStrictWeakOrder-by_number (λ (user : User). user.row.credits))

pub fewer_credits : IsStrictWeakOrder is_poorer
fewer_credits = IsStrictWeakOrder-by_number (λ (user : User). user.row.credits)

-- nobody
pub nobody : User
nobody = record { row = record { demand = 0; credits = 0; given = 0; fair = 0; floor = 0; present = false }; left = 0 }

pub donor_left : (users : List User) (donor : ℕ) → next_donor users ≡ Some donor → (donor < length users) × (0 < (get_or users donor nobody).left)
donor_left users donor found =
    let best : IsFirstBest can_lend is_poorer users (length users) donor = IsFirstBest-from_first_best can_lend is_poorer fewer_credits users donor found in
    let lends : can_lend (get_or users donor nobody) ≡ true = best.passing nobody in
    (best.within, grind (arith, nat_tests))

pub borrower_can : (users : List User) (borrower : ℕ) → next_borrower users ≡ Some borrower → (borrower < length users) × (can_borrow (get_or users borrower nobody) ≡ true)
borrower_can users borrower found =
    let best : IsFirstBest can_borrow is_richer users (length users) borrower = IsFirstBest-from_first_best can_borrow is_richer more_credits users borrower found in
    (best.within, best.passing nobody)

-- a donated slice is one slice less
pub lendable_donated : (users : List User) (shared borrower donor : ℕ) → next_donor users ≡ Some donor → lendable (record { users = users; shared = shared }) ≡ lendable (loan (Some borrower) (Some donor) users shared) + 1
lendable_donated users shared borrower donor found =
    let has_left : (donor < length users) × (0 < (get_or users donor nobody).left) = donor_left users donor found in
    let lent : List User = change_at borrow users borrower in
    let in_list : donor < length lent = rw (length-change_at borrow users borrower) has_left.0 in
    let left_there : (get_or lent donor nobody).left ≡ (get_or users donor nobody).left = kept-change_at (λ user. user.left) borrow (λ user. refl) users borrower donor nobody in
    let one : sum_by (λ (user : User). user.left) lent ≡ sum_by (λ (user : User). user.left) users = sum_by-change_at_same (λ user. user.left) borrow (λ user. refl) users borrower in
    let two : sum_by (λ (user : User). user.left) (change_at lend lent donor) + (get_or lent donor nobody).left ≡ sum_by (λ (user : User). user.left) lent + ((get_or lent donor nobody).left - 1) = sum_by-change_at (λ user. user.left) lend lent donor nobody in_list in
    omega arith

pub lendable_shared : (users : List User) (shared borrower : ℕ) → lendable (record { users = users; shared = suc shared }) ≡ lendable (loan (Some borrower) None users (suc shared)) + 1
lendable_shared users shared borrower =
    let one : sum_by (λ (user : User). user.left) (change_at borrow users borrower) ≡ sum_by (λ (user : User). user.left) users = sum_by-change_at_same (λ user. user.left) borrow (λ user. refl) users borrower in
    omega arith

-- where nothing changes, nothing changes any more
pub after-fixed : (loans : ℕ) (quantum : Quantum) → next quantum ≡ quantum → after_loans loans quantum ≡ quantum
after-fixed zero quantum fixed = refl
after-fixed (suc loans) quantum fixed = ap (after_loans loans) fixed ∙ after-fixed loans quantum fixed

pub closing-fixed : (quantum : Quantum) → next quantum ≡ quantum → closing quantum ≡ quantum
unfolding closing
closing-fixed quantum fixed = after-fixed (lendable quantum) quantum fixed

suc_there : (number : ℕ) → number + 1 ≡ suc number
suc_there number = omega arith

-- a loan leaves the close as it is
pub closing-next : (quantum : Quantum) → lendable quantum ≡ lendable (next quantum) + 1 → closing (next quantum) ≡ closing quantum
unfolding closing
closing-next quantum one_less = sym (ap (λ loans. after_loans loans quantum) (one_less ∙ suc_there (lendable (next quantum))))
