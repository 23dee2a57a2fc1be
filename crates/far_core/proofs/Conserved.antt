-- What each event keeps: histories in order, and each slice once.
use Rattle.std.proofs.Common.{◌≡◌, ◌≢◌, ℕ, ◌+◌, ◌==◌, ◌<◌, ◌≤◌, ◌&&◌, nat_lt, not, Bool, true, false, cond, IsTrue, List, [], ◌∷◌, ◌++◌, length, drop, sum_by, is_some, refl, sym, subst, ap, ◌∙◌, arith}
use Rattle.std.specs.declared.option.Option.{Option}
use Rattle.std.specs.Ordering.{nat_cmp}
use Rattle.std.specs.FinMap.Entries.{find}
use Rattle.std.proofs.lemmas.Bool.{eqb-true, eqb-false, le-leb}
use Rattle.std.proofs.lemmas.List.{get_or-set_other}
use Rattle.karma_rule.specs.declared.shape.Shape.{Shape}
use Rattle.slice_seq.specs.Purses.{Held}
use Rattle.far_history.specs.Entries.{Event, Ask, Grant, Entry}
use Rattle.far_history.specs.Histories.{Past, past_of, first_past, named_for, fits, is_new, is_in_order, count_in}
use Rattle.far_history.specs.Legal.{IsMovedEntry}
use Rattle.far_history.proofs.Grows.{past_of-push}
use Rattle.far_history.proofs.Slices.{count_brought, count_in-cons, find-uncounted, count_in-after, rising-past_of}
use Rattle.tenant_world.specs.Views.{terms_of}
use Rattle.far_core.specs.Runs.{CoreEntry, CoreState, Own, own_entry, after_turn, history_at, purse_of, users_of, count_of_all, slices_of, IsConserved, IsSoundHistory, IsSoundCore}
use Rattle.far_core.proofs.Summed.{sum_changed}
use Rattle.far_core.proofs.Fresh.{Each, AreFresh, IsOwnOf, named_in, count_in-head, at_most_one, held_by_one, grown_is, last_moved}

both_true : (a b : Bool) → a ≡ true → b ≡ true → (a && b) ≡ true
both_true a b p q = ap (λ c. c && b) p ∙ q

pub first_true : (a b : Bool) → (a && b) ≡ true → a ≡ true
first_true true b e = refl
first_true false b e = cc

same_true : (n : ℕ) → (n == n) ≡ true
same_true n = elim (n == n) as (λ b. (n == n) ≡ b → b ≡ true) [ true ↦ λ e. refl | false ↦ λ e. absurd (eqb-false n n e refl) ] refl

there_is : (b : Bool) (n : ℕ) → n ≡ cond b 1 0 → 1 ≤ n → b ≡ true
there_is true n e some = refl
there_is false n e some = absurd (omega arith)

-- a slice in hand is one of the shape's, and no user holds it
in_hand : (shape : Shape) (s : CoreState) (user : ℕ) (slice : ℕ × ℕ) (rest : List (ℕ × ℕ)) → s.hand ≡ slice ∷ rest → user < shape.users → IsConserved shape s
    → (nat_lt slice.0 (slices_of shape) ≡ true) × (count_in slice.0 (purse_of shape s user) ≡ 0)
in_hand shape s user slice rest has there conserved =
    let here : 1 ≤ count_in slice.0 s.hand = subst (λ l. 1 ≤ count_in slice.0 l) (sym has) (count_in-head slice rest) in
    let held = held_by_one shape s user slice.0 there in
    let once : count_of_all shape s slice.0 ≤ 1 = at_most_one (nat_lt slice.0 (slices_of shape)) (count_of_all shape s slice.0) (conserved slice.0) in
    (there_is (nat_lt slice.0 (slices_of shape)) (count_of_all shape s slice.0) (conserved slice.0) (omega arith), omega arith)

-- so a user's own event comes in order
pub own_in_order : (shape : Shape) (s : CoreState) (user : ℕ) (event : Event) → IsOwnOf shape s user event → IsSoundCore shape s → AreFresh shape s
    → IsTrue (is_in_order (terms_of user shape) (past_of (terms_of user shape) first_past (history_at s user)) event)
own_in_order shape s user (Ask moment request) own sound fresh = refl
own_in_order shape s user (Grant slice number size) own sound fresh =
    let t = terms_of user shape in
    let p = past_of t first_past (history_at s user) in
    let kept = in_hand shape s user (slice, number) (drop 1 s.hand) own.given.1 own.there sound.conserved in
    let unheld : not (is_some (find nat_cmp slice p.state.purse)) ≡ true = ap (λ (o : Option Held). not (is_some o)) (find-uncounted slice p.state.purse kept.1) in
    let sized : (size == t.size) ≡ true = ap (λ n. n == shape.slice) own.given.0 ∙ same_true shape.slice in
    let named : named_in shape user (history_at s user) slice ≤ number = (subst (λ hand. Each (λ (x : ℕ × ℕ). named_in shape user (history_at s user) x.0 ≤ x.1) hand) own.given.1 (fresh.hand user)).0 in
    both_true (fits t p.state (Grant slice number size)) (is_new p.named (Grant slice number size))
    (both_true ((size == t.size) && nat_lt slice t.slices) (not (is_some (find nat_cmp slice p.state.purse))) (both_true (size == t.size) (nat_lt slice t.slices) sized kept.0) unheld)
    (le-leb (named_for p.named slice) number named)

-- what a user's own event leaves of the histories
pub other_kept : (s : CoreState) (user : ℕ) (event : Event) (e : CoreEntry) (other : ℕ) → other ≢ user → history_at (after_turn s e (Own user event)) other ≡ history_at s other
other_kept s user event e other apart = get_or-set_other s.histories user other (history_at s user ++ own_entry event e ∷ []) [] apart

-- where its moves are ones that slices can make, it loses and doubles no slice
own_conserved : (shape : Shape) (s : CoreState) (user : ℕ) (event : Event) (e : CoreEntry) → IsOwnOf shape s user event → IsSoundCore shape s → AreFresh shape s
    → IsMovedEntry (past_of (terms_of user shape) first_past (history_at s user)).state (own_entry event e) → IsConserved shape (after_turn s e (Own user event))
own_conserved shape s user event e own sound fresh moved id =
    let t = terms_of user shape in
    let h = history_at s user in
    let last = own_entry event e in
    let p = past_of t first_past h in
    let now = after_turn s e (Own user event) in
    let held : ℕ → ℕ = λ u. count_in id (purse_of shape s u) in
    let held_now : ℕ → ℕ = λ u. count_in id (purse_of shape now u) in
    let there : user < length s.histories = omega (arith, own.there, fresh.users) in
    let fit : IsTrue (fits t p.state event) = first_true (fits t p.state event) (is_new p.named event) (own_in_order shape s user event own sound fresh) in
    let grows : held_now user ≡ count_brought id event + held user =
    ap (λ (g : List Entry). count_in id (past_of t first_past g).state.purse) (grown_is s user event e there)
    ∙ ap (λ (q : Past). count_in id q.state.purse) (past_of-push t first_past h last) ∙ count_in-after id t p.state last (rising-past_of t first_past h tt) fit moved in
    let others : (other : ℕ) → other ≢ user → held_now other ≡ held other =
    λ other apart. ap (λ (g : List Entry). count_in id (past_of (terms_of other shape) first_past g).state.purse) (other_kept s user event e other apart) in
    let sums = sum_changed held held_now user 0 shape.users others (omega arith) (omega (arith, own.there)) in
    let brought = own.brought id in
    let all : count_of_all shape now id ≡ count_of_all shape s id = omega (arith, grows, sums, brought) in
    all ∙ sound.conserved id

-- and where the user's history is sound with its entry, so is the core
pub own_sound : (shape : Shape) (s : CoreState) (user : ℕ) (event : Event) (e : CoreEntry) → IsOwnOf shape s user event → IsSoundCore shape s → AreFresh shape s
    → IsSoundHistory (terms_of user shape) (history_at s user ++ own_entry event e ∷ []) → IsSoundCore shape (after_turn s e (Own user event))
own_sound shape s user event e own sound fresh grew =
    let last = own_entry event e in
    let there : user < length s.histories = omega (arith, own.there, fresh.users) in
    record {
      users = λ other. elim (other == user) as (λ b. (other == user) ≡ b → IsSoundHistory (terms_of other shape) (history_at (after_turn s e (Own user event)) other)) [
        | true ↦ λ is. let same : other ≡ user = eqb-true other user is in
            subst (λ u. IsSoundHistory (terms_of u shape) (history_at (after_turn s e (Own user event)) u)) (sym same) (subst (IsSoundHistory (terms_of user shape)) (sym (grown_is s user event e there)) grew)
        | false ↦ λ is. subst (IsSoundHistory (terms_of other shape)) (sym (other_kept s user event e other (eqb-false other user is))) (sound.users other)
      ] refl;
      conserved = own_conserved shape s user event e own sound fresh (last_moved (terms_of user shape) (history_at s user) last grew);
    }

-- a draw moves one slice
pub drawn_sound : (shape : Shape) (s : CoreState) (slice number : ℕ) → s.pool ≡ (slice, number) ∷ drop 1 s.pool → IsSoundCore shape s
    → IsSoundCore shape (record { pool = drop 1 s.pool; hand = (slice, number) ∷ s.hand; histories = s.histories })
drawn_sound shape s slice number is sound = record {
  users = sound.users;
  conserved = λ id.
      let taken : count_in id s.pool ≡ cond (slice == id) 1 0 + count_in id (drop 1 s.pool) = ap (λ l. count_in id l) is ∙ count_in-cons id (slice, number) (drop 1 s.pool) in
      let put = count_in-cons id (slice, number) s.hand in
      let held = sum_by (λ u. count_in id (purse_of shape s u)) (users_of shape) in
      let all : count_in id (drop 1 s.pool) + count_in id ((slice, number) ∷ s.hand) + held ≡ count_of_all shape s id = omega (arith, taken, put) in
      all ∙ sound.conserved id;
}
