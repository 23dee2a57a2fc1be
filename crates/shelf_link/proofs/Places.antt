-- Laws of lists of calls that are to fail.
use Rattle.std.proofs.Common.{◌≡◌, ℕ, ◌≤◌, nat_lt, Bool, true, false, cond, List, length, suc, refl, ◌∙◌, ap, ◌++◌, append-nil, drop, arith, Some, None}
use Rattle.std.specs.List.{remove, position, position_or_len}
use Rattle.std.proofs.lemmas.List.{take_all, drop_all}
use Rattle.std.proofs.lemmas.Bool.Decides.{nat_tests}

-- the first place where a test passes, as a count of the elements before it
pub place_found : {X : Type 0} (p : X → Bool) (xs : List X) (at : ℕ) → position p xs ≡ Some at → at ≡ position_or_len p xs
place_found p xs at is = by (nat_lt (position_or_len p xs) (length xs)) is
  where
    by : (b : Bool) → cond b (Some (position_or_len p xs)) None ≡ Some at → at ≡ position_or_len p xs
    by true e = cc
    by false e = absurd (cc)

-- where no element passes, nothing is taken out
pub nothing_off : {X : Type 0} (p : X → Bool) (xs : List X) → position p xs ≡ None → remove xs (position_or_len p xs) ≡ xs
nothing_off p xs is = by (nat_lt (position_or_len p xs) (length xs)) refl is
  where
    by : (b : Bool) → nat_lt (position_or_len p xs) (length xs) ≡ b → cond b (Some (position_or_len p xs)) None ≡ None → remove xs (position_or_len p xs) ≡ xs
    by true t e = absurd (cc)
    by false t e =
        let past : length xs ≤ position_or_len p xs = grind (arith, nat_tests) in
        ap (λ front. front ++ drop (suc (position_or_len p xs)) xs) (take_all (position_or_len p xs) xs past)
        ∙ ap (λ rest. xs ++ rest) (drop_all (suc (position_or_len p xs)) xs (omega arith)) ∙ append-nil xs
