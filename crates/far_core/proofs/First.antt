-- The core as it is made.
use Rattle.std.proofs.Common.{◌≡◌, ◌≢◌, ℕ, zero, suc, ◌+◌, ◌==◌, ◌<◌, ◌≤◌, nat_lt, Bool, true, false, cond, List, [], map, sum_by, refl, sym, subst, ap, ◌∙◌, arith}
use Rattle.std.specs.List.{range_with_len}
use Rattle.std.proofs.lemmas.Bool.{eqb-true, eqb-false, lt-ltb, le-ltb}
use Rattle.karma_rule.specs.declared.shape.Shape.{Shape}
use Rattle.far_history.specs.Entries.{Entry}
use Rattle.far_history.specs.Histories.{Terms, past_of, first_past, count_in}
use Rattle.far_history.proofs.Slices.{count_in-cons}
use Rattle.tenant_world.specs.Views.{terms_of}
use Rattle.far_core.specs.Runs.{fresh_pool, first_core, slices_of, history_at, purse_of, users_of, count_of_all, IsConserved, IsSoundHistory, IsSoundCore}
use Rattle.far_core.proofs.Summed.{sum_nothing}
use Rattle.far_core.proofs.Fresh.{all_alike}

abbrev pool_from : ℕ → ℕ → List (ℕ × ℕ)
pool_from a n = map (λ id. (id, 0)) (range_with_len a n)

apart_count : (a id n : ℕ) (b : Bool) → (a == id) ≡ b → a ≢ id → cond {A = ℕ} (a == id) 1 0 + n ≡ n
apart_count a id n true e apart = absurd (apart (eqb-true a id e))
apart_count a id n false e apart = ap (λ c. cond {A = ℕ} c 1 0 + n) e ∙ (let same : 0 + n ≡ n = omega arith in same)

count-below : (id a n : ℕ) → id < a → count_in id (pool_from a n) ≡ 0
count-below id a zero below = refl
count-below id a (suc n) below =
    count_in-cons id (a, 0) (pool_from (a + 1) n)
    ∙ apart_count a id (count_in id (pool_from (a + 1) n)) (a == id) refl (λ same. absurd (omega arith))
    ∙ count-below id (a + 1) n (omega arith)

-- each id of a range stands once in it
count-from : (id a n : ℕ) → a ≤ id → count_in id (pool_from a n) ≡ cond (nat_lt id (a + n)) 1 0
count-from id a zero above = ap (λ b. cond {A = ℕ} b 1 0) (sym (le-ltb id (a + zero) (omega arith)))
count-from id a (suc n) above =
    elim (a == id) as (λ b. (a == id) ≡ b → count_in id (pool_from a (suc n)) ≡ cond (nat_lt id (a + suc n)) 1 0) [
      | true ↦ λ e.
          let same : a ≡ id = eqb-true a id e in
          let others = count-below id (a + 1) n (omega arith) in
          count_in-cons id (a, 0) (pool_from (a + 1) n)
          ∙ (λ i. cond {A = ℕ} (e i) 1 0 + others i)
          ∙ ap (λ b. cond {A = ℕ} b 1 0) (sym (lt-ltb id (a + suc n) (omega arith)))
      | false ↦ λ e.
          let apart : a ≢ id = eqb-false a id e in
          let later : a + 1 ≤ id = omega arith in
          count_in-cons id (a, 0) (pool_from (a + 1) n)
          ∙ apart_count a id (count_in id (pool_from (a + 1) n)) (a == id) refl apart
          ∙ count-from id (a + 1) n later
          ∙ ap (λ m. cond {A = ℕ} (nat_lt id m) 1 0) (let same : a + 1 + n ≡ a + suc n = omega arith in same)
    ] refl

-- no user has an entry yet
pub first_history : (shape : Shape) (user : ℕ) → history_at (first_core shape) user ≡ []
first_history shape user = let nothing : List Entry = [] in all_alike shape.users user nothing

first_conserved : (shape : Shape) → IsConserved shape (first_core shape)
first_conserved shape id =
    let held : ℕ → ℕ = λ user. count_in id (purse_of shape (first_core shape) user) in
    let no_purse : sum_by held (users_of shape) ≡ 0 =
    sum_nothing held (users_of shape) (λ user. ap (λ (h : List Entry). count_in id (past_of (terms_of user shape) first_past h).state.purse) (first_history shape user)) in
    let free : count_in id (fresh_pool (slices_of shape)) ≡ cond (nat_lt id (0 + slices_of shape)) 1 0 = count-from id 0 (slices_of shape) (omega arith) in
    let all : count_of_all shape (first_core shape) id ≡ count_in id (fresh_pool (slices_of shape)) = omega (arith, no_purse) in
    all ∙ free ∙ ap (λ n. cond {A = ℕ} (nat_lt id n) 1 0) (let same : 0 + slices_of shape ≡ slices_of shape = omega arith in same)

-- the empty history is sound
pub nothing_sound : (t : Terms) → IsSoundHistory t []
nothing_sound t = record {
  in_order = tt;
  moved = tt;
  counted = (0, omega arith);
  caused = λ k d below. absurd (omega arith);
  answered = λ k d below. absurd (omega arith);
}

pub first_sound : (shape : Shape) → IsSoundCore shape (first_core shape)
first_sound shape = record {
  users = λ user. subst (IsSoundHistory (terms_of user shape)) (sym (first_history shape user)) (nothing_sound (terms_of user shape));
  conserved = first_conserved shape;
}
