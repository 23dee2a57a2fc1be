-- The next name, and the next one whose lease has ended.
use Rattle.std.proofs.Common.{◌≡◌, ℕ, ◌^◌, ◌-◌, ◌<◌, nat_lt, not, Bool, true, false, ◌&&◌, cond, List, refl, sym, ap, ◌∙◌, arith, Some, None}
use Rattle.std.specs.declared.option.Option.{Option}
use Rattle.std.proofs.lemmas.Bool.{le-ltb}
use Rattle.lease_tree.specs.Under.{is_past}
use Rattle.lease_tree.specs.Leases.{Ends, is_wanted, first_wanted, due_of}
use Rattle.lease_tree.specs.Names.{Names, Leased, lease_of}
use Rattle.lease_tree.specs.Trees.{has_ended, next_after, next_ended}
use Rattle.lease_tree.proofs.Found.{and_false}
use Rattle.lease_tree.proofs.Joins.{Are, first-ends_of}

and_true : (b : Bool) → (b && true) ≡ b
and_true true = refl
and_true false = refl

module _ {B : Type 0} (names : Names B) (bodies : List (List ℕ × B)) (ends : Ends) (a : Are names bodies ends) where
  pub next_is : (after : Option (List ℕ)) → first_wanted after None ends ≡ next_after after names
  next_is after =
      ap (first_wanted after None) a.ends_are
      ∙ first-ends_of (is_wanted after None) (λ e. is_past after e.0) (λ e. and_true (is_past after e.0)) names

  -- a settled lease is due at no moment
  due : (now : ℕ) → now < 2 ^ 64 → (name : Leased B) → nat_lt (due_of (lease_of name)) now ≡ has_ended now name
  due now fits name =
      elim name.settled as (λ s. nat_lt (cond s (2 ^ 64 - 1) name.end) now ≡ (nat_lt name.end now && not s)) [
        | true ↦ le-ltb (2 ^ 64 - 1) now (omega arith) ∙ sym (and_false (nat_lt name.end now))
        | false ↦ sym (and_true (nat_lt name.end now))
      ]

  pub ended_is : (now : ℕ) → now < 2 ^ 64 → (after : Option (List ℕ)) → first_wanted after (Some now) ends ≡ next_ended now after names
  ended_is now fits after =
      ap (first_wanted after (Some now)) a.ends_are
      ∙ first-ends_of (is_wanted after (Some now)) (λ e. is_past after e.0 && has_ended now e.1) (λ e. ap (λ b. is_past after e.0 && b) (due now fits e.1)) names
