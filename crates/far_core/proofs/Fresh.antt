-- No user's history names a later number for a slice of the pool or the hand.
use Rattle.std.proofs.Common.{◌≡◌, ℕ, ◌+◌, ◌==◌, ◌<◌, ◌≤◌, nat_lt, Bool, true, false, cond, List, [], ◌∷◌, ◌++◌, length, drop, get_or, replicate, sum_by, append_assoc, refl, sym, subst, ap, ◌∙◌, arith}
use Rattle.std.proofs.lemmas.Bool.{eqb-true, eqb-false, ltb-true, ltb-false}
use Rattle.std.proofs.lemmas.List.{get_or-set_same, get_or-set_other, length-set, length-replicate, get_or-replicate, get_or_past, append-nil}
use Rattle.karma_rule.specs.declared.shape.Shape.{Shape}
use Rattle.far_asks.specs.declared.request.Reply.TheVariants.{AbsentUser}
use Rattle.far_asks.specs.declared.request.Outcome.TheVariants.{Reply as Replied, Slice}
use Rattle.far_history.specs.Entries.{Event, Ask, Grant, Entry}
use Rattle.far_history.specs.Histories.{Terms, Past, past_of, first_past, named_for, count_in}
use Rattle.far_history.specs.Legal.{IsMovedEntry}
use Rattle.far_history.proofs.Grows.{past_of-push, last_has}
use Rattle.far_history.proofs.Slices.{count_brought, count_in-cons, find-uncounted, named_for-after}
use Rattle.tenant_world.specs.Views.{terms_of}
use Rattle.far_core.specs.declared.service.CoreEvent.{CoreEvent}
use Rattle.far_core.specs.declared.service.CoreEvent.TheVariants.{Ask as Asking, Draw, Grant as Granting}
use Rattle.far_core.specs.Runs.{CoreEntry, CoreState, Turn, Own, Answered, draw_from, grant_from, turn_of, own_entry, with_entry, hand_after, after_turn, core_after, history_at, purse_of, users_of, count_of_all, slices_of, IsConserved, IsSoundHistory, IsSoundCore, first_core, core_of, IsCoreRun, history_of, own_entry_of, own_entries_from, own_entries}
use Rattle.far_core.proofs.Longer.{kept_by_run}
use Rattle.far_core.proofs.Summed.{within_sum}

-- p of each element
abbrev pub Each : {X : Type 0} → (X → Type 0) → List X → Type 0
Each p [] = Unit {0}
Each p (x ∷ xs) = p x × Each p xs

each_map : {X : Type 0} (P Q R : X → Type 0) → ((x : X) → P x → Q x → R x) → (xs : List X) → Each P xs → Each Q xs → Each R xs
each_map P Q R f [] ps qs = tt
each_map P Q R f (x ∷ xs) ps qs = (f x ps.0 qs.0, each_map P Q R f xs ps.1 qs.1)

count_in-tail : (id : ℕ) (x : ℕ × ℕ) (xs : List (ℕ × ℕ)) → count_in id xs ≤ count_in id (x ∷ xs)
count_in-tail id x xs = omega (arith, count_in-cons id x xs)

pub count_in-head : (x : ℕ × ℕ) (xs : List (ℕ × ℕ)) → 1 ≤ count_in x.0 (x ∷ xs)
count_in-head x xs =
    let here : (x.0 == x.0) ≡ true = nat_eq-same x.0 in
    let one : cond {A = ℕ} (x.0 == x.0) 1 0 ≡ 1 = ap (λ b. cond {A = ℕ} b 1 0) here in
    omega (arith, count_in-cons x.0 x xs, one)
  where
    nat_eq-same : (n : ℕ) → (n == n) ≡ true
    nat_eq-same n = elim (n == n) as (λ b. (n == n) ≡ b → b ≡ true) [ true ↦ λ e. refl | false ↦ λ e. absurd (eqb-false n n e refl) ] refl

-- each slice of a list stands in it
each_stands : (all xs : List (ℕ × ℕ)) → ((id : ℕ) → count_in id xs ≤ count_in id all) → Each (λ slice. 1 ≤ count_in slice.0 all) xs
each_stands all [] within = tt
each_stands all (x ∷ xs) within = (
  let here = count_in-head x xs in let more = within x.0 in omega arith,
  each_stands all xs (λ id. let less = count_in-tail id x xs in let more = within id in omega arith),
)

-- the greatest number that a history names for a slice
abbrev pub named_in : Shape → ℕ → List Entry → ℕ → ℕ
named_in shape user h id = named_for (past_of (terms_of user shape) first_past h).named id

-- there is a history for each user, and no history names a later number for a slice of the pool or the hand
pub record AreFresh (shape : Shape) (s : CoreState) : Type 0 where
  pub users : length s.histories ≡ shape.users
  pub pool : (user : ℕ) → Each (λ slice. named_in shape user (history_at s user) slice.0 ≤ slice.1) s.pool
  pub hand : (user : ℕ) → Each (λ slice. named_in shape user (history_at s user) slice.0 ≤ slice.1) s.hand

-- a grant is of the slice on top of the hand
abbrev pub IsGiven : Shape → List (ℕ × ℕ) → Event → Type 0
IsGiven shape hand (Ask moment request) = Unit {0}
IsGiven shape hand (Grant slice number size) = (size ≡ shape.slice) × (hand ≡ (slice, number) ∷ drop 1 hand)

-- a user's own event: there is the user, and what the event brings comes from the hand
pub record IsOwnOf (shape : Shape) (s : CoreState) (user : ℕ) (event : Event) : Type 0 where
  pub there : user < shape.users
  pub brought : (id : ℕ) → count_in id s.hand ≡ count_brought id event + count_in id (hand_after s.hand event)
  pub given : IsGiven shape s.hand event

-- the histories after an event of a user
abbrev pub grown : CoreState → ℕ → Event → CoreEntry → List (List Entry)
grown s user event e = with_entry s.histories user (own_entry event e)

pub grown_is : (s : CoreState) (user : ℕ) (event : Event) (e : CoreEntry) → user < length s.histories → get_or (grown s user event e) user [] ≡ history_at s user ++ own_entry event e ∷ []
grown_is s user event e there = get_or-set_same s.histories user (history_at s user ++ own_entry event e ∷ []) [] there

-- a sound history's last entry moves slices as it can
pub last_moved : (t : Terms) (h : List Entry) (e : Entry) → IsSoundHistory t (h ++ e ∷ []) → IsMovedEntry (past_of t first_past h).state e
last_moved t h e sound = last_has (λ p x. IsMovedEntry p.state x) t first_past h e sound.in_order sound.moved

-- it leaves unchanged what the history names for slices that aren't held and that it doesn't bring
named_in-push : (shape : Shape) (user : ℕ) (h : List Entry) (event : Event) (e : CoreEntry) (id : ℕ) → IsMovedEntry (past_of (terms_of user shape) first_past h).state (own_entry event e)
    → count_in id (past_of (terms_of user shape) first_past h).state.purse ≡ 0 → count_brought id event ≡ 0 → named_in shape user (h ++ own_entry event e ∷ []) id ≡ named_in shape user h id
named_in-push shape user h event e id moved unheld unbrought =
    let t = terms_of user shape in
    let p = past_of t first_past h in
    ap (λ (q : Past). named_for q.named id) (past_of-push t first_past h (own_entry event e))
    ∙ named_for-after id t p (own_entry event e) (find-uncounted id p.state.purse unheld) unbrought moved

pub at_most_one : (b : Bool) (n : ℕ) → n ≡ cond b 1 0 → n ≤ 1
at_most_one true n e = omega arith
at_most_one false n e = omega arith

-- a user holds a slice at most as often as all do
pub held_by_one : (shape : Shape) (s : CoreState) (user id : ℕ) → user < shape.users → count_in id (purse_of shape s user) ≤ sum_by (λ u. count_in id (purse_of shape s u)) (users_of shape)
held_by_one shape s user id there = within_sum (λ u. count_in id (purse_of shape s u)) user 0 shape.users (omega arith) (omega (arith, there))

-- a slice of the pool or the hand is held by no user, and once in hand it isn't there twice
free_of : (shape : Shape) (s : CoreState) (user : ℕ) (event : Event) (id : ℕ) → user < shape.users → IsConserved shape s → ((other : ℕ) → count_in other s.hand ≡ count_brought other event + count_in other (hand_after s.hand event))
    → 1 ≤ count_in id s.pool + count_in id (hand_after s.hand event) → (count_in id (purse_of shape s user) ≡ 0) × (count_brought id event ≡ 0)
free_of shape s user event id there conserved brought stands =
    let once : count_of_all shape s id ≤ 1 = at_most_one (nat_lt id (slices_of shape)) (count_of_all shape s id) (conserved id) in
    let held = held_by_one shape s user id there in
    let split = brought id in
    (omega arith, omega arith)

each_fresh : (shape : Shape) (s : CoreState) (user : ℕ) (event : Event) (e : CoreEntry) (xs : List (ℕ × ℕ)) → user < length s.histories
    → IsMovedEntry (past_of (terms_of user shape) first_past (history_at s user)).state (own_entry event e)
    → Each (λ slice. (count_in slice.0 (purse_of shape s user) ≡ 0) × (count_brought slice.0 event ≡ 0)) xs
    → ((other : ℕ) → Each (λ slice. named_in shape other (history_at s other) slice.0 ≤ slice.1) xs)
    → (other : ℕ) → Each (λ slice. named_in shape other (get_or (grown s user event e) other []) slice.0 ≤ slice.1) xs
each_fresh shape s user event e xs there moved free old other =
    let last = own_entry event e in
    elim (other == user) as (λ b. (other == user) ≡ b → Each (λ slice. named_in shape other (get_or (grown s user event e) other []) slice.0 ≤ slice.1) xs) [
      | true ↦ λ is.
          let same : other ≡ user = eqb-true other user is in
          subst (λ u. Each (λ slice. named_in shape u (get_or (grown s user event e) u []) slice.0 ≤ slice.1) xs) (sym same)
          (subst (λ (h : List Entry). Each (λ slice. named_in shape user h slice.0 ≤ slice.1) xs) (sym (grown_is s user event e there))
          (each_map _ _ _ (λ slice named f. subst (λ n. n ≤ slice.1) (sym (named_in-push shape user (history_at s user) event e slice.0 moved f.0 f.1)) named) xs (old user) free))
      | false ↦ λ is.
          subst (λ (h : List Entry). Each (λ slice. named_in shape other h slice.0 ≤ slice.1) xs) (sym (get_or-set_other s.histories user other (history_at s user ++ last ∷ []) [] (eqb-false other user is))) (old other)
    ] refl

each_left : (P : ℕ × ℕ → Type 0) (hand : List (ℕ × ℕ)) (event : Event) → Each P hand → Each P (hand_after hand event)
each_left P hand (Ask moment request) ps = ps
each_left P [] (Grant slice number size) ps = tt
each_left P (x ∷ hand) (Grant slice number size) ps = ps.1

own_fresh : (shape : Shape) (s : CoreState) (user : ℕ) (event : Event) (e : CoreEntry) → IsOwnOf shape s user event → IsSoundCore shape s → IsSoundCore shape (after_turn s e (Own user event)) → AreFresh shape s → AreFresh shape (after_turn s e (Own user event))
own_fresh shape s user event e own sound now fresh =
    let there : user < length s.histories = omega (arith, own.there, fresh.users) in
    let h = history_at s user in
    let last = own_entry event e in
    let grew : IsSoundHistory (terms_of user shape) (h ++ last ∷ []) = subst (IsSoundHistory (terms_of user shape)) (grown_is s user event e there) (now.users user) in
    let moved = last_moved (terms_of user shape) h last grew in
    let hand = hand_after s.hand event in
    let free : (xs : List (ℕ × ℕ)) → ((id : ℕ) → count_in id xs ≤ count_in id s.pool + count_in id hand) → Each (λ slice. (count_in slice.0 (purse_of shape s user) ≡ 0) × (count_brought slice.0 event ≡ 0)) xs
    = λ xs within. each_map (λ slice. 1 ≤ count_in slice.0 xs) (λ slice. Unit {0}) _
    (λ slice stands u. free_of shape s user event slice.0 own.there sound.conserved own.brought (let more = within slice.0 in omega arith)) xs (each_stands xs xs (λ id. omega arith)) (each_unit xs) in
    record {
      users = length-set s.histories user (history_at s user ++ own_entry event e ∷ []) ∙ fresh.users;
      pool = each_fresh shape s user event e s.pool there moved (free s.pool (λ id. omega arith)) fresh.pool;
      hand = each_fresh shape s user event e hand there moved (free hand (λ id. omega arith)) (λ other. each_left _ s.hand event (fresh.hand other));
    }
  where
    each_unit : (xs : List (ℕ × ℕ)) → Each (λ slice. Unit {0}) xs
    each_unit [] = tt
    each_unit (x ∷ xs) = (tt, each_unit xs)

-- what comes next, from the event
pub own_of_turn : (shape : Shape) (s : CoreState) (core_event : CoreEvent) (user : ℕ) (event : Event) → turn_of shape s core_event ≡ Own user event → IsOwnOf shape s user event
own_of_turn shape s Draw user event is = drawn s.pool is
  where
    drawn : (pool : List (ℕ × ℕ)) → draw_from pool ≡ Own user event → IsOwnOf shape s user event
    drawn [] is = cc
    drawn (slice ∷ pool) is = cc
own_of_turn shape s (Granting other) user event is = granted (nat_lt other shape.users) refl s.hand refl is
  where
    granted : (b : Bool) → nat_lt other shape.users ≡ b → (hand : List (ℕ × ℕ)) → s.hand ≡ hand → cond b (grant_from shape other hand) (Answered (Replied (AbsentUser shape.users))) ≡ Own user event → IsOwnOf shape s user event
    granted false absent hand has is = cc
    granted true there [] has is = cc
    granted true there (slice ∷ hand) has is =
        let same : other ≡ user = cc in
        let brings : Grant slice.0 slice.1 shape.slice ≡ event = cc in
        subst (IsOwnOf shape s user) brings (record {
          there = subst (λ u. u < shape.users) same (ltb-true other shape.users there);
          brought = λ id. ap (λ l. count_in id l) has ∙ count_in-cons id slice hand ∙ ap (λ l. cond (slice.0 == id) 1 0 + count_in id (hand_after l (Grant slice.0 slice.1 shape.slice))) (sym has);
          given = (refl, has ∙ ap (λ l. slice ∷ drop 1 l) (sym has));
        })
own_of_turn shape s (Asking other request) user event is = asked (nat_lt other shape.users) refl is
  where
    asked : (b : Bool) → nat_lt other shape.users ≡ b → cond b (Own other (Ask 0 request)) (Answered (Replied (AbsentUser shape.users))) ≡ Own user event → IsOwnOf shape s user event
    asked false absent is = cc
    asked true there is =
        let same : other ≡ user = cc in
        let asks : Ask 0 request ≡ event = cc in
        subst (IsOwnOf shape s user) asks (record {
          there = subst (λ u. u < shape.users) same (ltb-true other shape.users there);
          brought = λ id. omega arith;
          given = tt;
        })

-- a slice that is answered is the pool's lowest
pub drawn_of_turn : (shape : Shape) (s : CoreState) (core_event : CoreEvent) (slice number : ℕ) → turn_of shape s core_event ≡ Answered (Slice slice number) → s.pool ≡ (slice, number) ∷ drop 1 s.pool
drawn_of_turn shape s Draw slice number is = drawn s.pool is
  where
    drawn : (pool : List (ℕ × ℕ)) → draw_from pool ≡ Answered (Slice slice number) → pool ≡ (slice, number) ∷ drop 1 pool
    drawn [] is = cc
    drawn (x ∷ pool) is = let id : x.0 ≡ slice = cc in let n : x.1 ≡ number = cc in λ i. (id i, n i) ∷ pool
drawn_of_turn shape s (Granting other) slice number is = granted (nat_lt other shape.users) s.hand is
  where
    granted : (b : Bool) (hand : List (ℕ × ℕ)) → cond b (grant_from shape other hand) (Answered (Replied (AbsentUser shape.users))) ≡ Answered (Slice slice number) → s.pool ≡ (slice, number) ∷ drop 1 s.pool
    granted false hand is = cc
    granted true [] is = cc
    granted true (x ∷ hand) is = cc
drawn_of_turn shape s (Asking other request) slice number is = asked (nat_lt other shape.users) is
  where
    asked : (b : Bool) → cond b (Own other (Ask 0 request)) (Answered (Replied (AbsentUser shape.users))) ≡ Answered (Slice slice number) → s.pool ≡ (slice, number) ∷ drop 1 s.pool
    asked false is = cc
    asked true is = cc

drawn_fresh : (shape : Shape) (s : CoreState) (slice number : ℕ) → s.pool ≡ (slice, number) ∷ drop 1 s.pool → AreFresh shape s → AreFresh shape (record { pool = drop 1 s.pool; hand = (slice, number) ∷ s.hand; histories = s.histories })
drawn_fresh shape s slice number is fresh =
    let P : ℕ → ℕ × ℕ → Type 0 = λ user slice. named_in shape user (history_at s user) slice.0 ≤ slice.1 in
    record {
      users = fresh.users;
      pool = λ user. (subst (Each (P user)) is (fresh.pool user)).1;
      hand = λ user. ((subst (Each (P user)) is (fresh.pool user)).0, fresh.hand user);
    }

step_fresh : (shape : Shape) (s : CoreState) (e : CoreEntry) → IsSoundCore shape s → IsSoundCore shape (core_after shape s e) → AreFresh shape s → AreFresh shape (core_after shape s e)
step_fresh shape s e sound now fresh = by (turn_of shape s e.event) refl now
  where
    by : (turn : Turn) → turn_of shape s e.event ≡ turn → IsSoundCore shape (after_turn s e turn) → AreFresh shape (after_turn s e turn)
    by (Own user event) is now = own_fresh shape s user event e (own_of_turn shape s e.event user event is) sound now fresh
    by (Answered (Slice slice number)) is now = drawn_fresh shape s slice number (drawn_of_turn shape s e.event slice number is) fresh
    by (Answered outcome) is now = fresh

each_named_nothing : (xs : List (ℕ × ℕ)) (n : ℕ → ℕ) → ((id : ℕ) → n id ≡ 0) → Each (λ slice. n slice.0 ≤ slice.1) xs
each_named_nothing [] n none = tt
each_named_nothing (x ∷ xs) n none = (let zero = none x.0 in omega arith, each_named_nothing xs n none)

-- a user's history grows by the user's own entries
step_entries : (shape : Shape) (s : CoreState) (e : CoreEntry) (user : ℕ) → length s.histories ≡ shape.users → (length (core_after shape s e).histories ≡ shape.users) × (history_at (core_after shape s e) user ≡ history_at s user ++ own_entry_of user e (turn_of shape s e.event))
step_entries shape s e user users = by (turn_of shape s e.event) refl
  where
    by : (turn : Turn) → turn_of shape s e.event ≡ turn → (length (after_turn s e turn).histories ≡ shape.users) × (history_at (after_turn s e turn) user ≡ history_at s user ++ own_entry_of user e turn)
    by (Own owner event) is =
        let own = own_of_turn shape s e.event owner event is in
        let there : owner < length s.histories = omega (arith, own.there) in
        let last = own_entry event e in (
          length-set s.histories owner (history_at s owner ++ last ∷ []) ∙ users,
          elim (owner == user) as (λ b. (owner == user) ≡ b → get_or (grown s owner event e) user [] ≡ history_at s user ++ cond b (last ∷ []) []) [
            | true ↦ λ i. let same : owner ≡ user = eqb-true owner user i in
                ap (λ u. get_or (grown s owner event e) u []) (sym same) ∙ grown_is s owner event e there ∙ ap (λ u. history_at s u ++ last ∷ []) same
            | false ↦ λ i. get_or-set_other s.histories owner user (history_at s owner ++ last ∷ []) [] (λ same. eqb-false owner user i (sym same)) ∙ sym (append-nil (history_at s user))
          ] refl,
        )
    by (Answered (Slice slice number)) is = (users, sym (append-nil (history_at s user)))
    by (Answered outcome) is = (users, sym (append-nil (history_at s user)))

run_entries : (shape : Shape) (s : CoreState) (run : List CoreEntry) (user : ℕ) → length s.histories ≡ shape.users → history_at (core_of shape s run) user ≡ history_at s user ++ own_entries_from shape s run user
run_entries shape s [] user users = sym (append-nil (history_at s user))
run_entries shape s (e ∷ run) user users =
    let step = step_entries shape s e user users in
    let rest = own_entries_from shape (core_after shape s e) run user in
    run_entries shape (core_after shape s e) run user step.0 ∙ ap (λ h. h ++ rest) step.1 ∙ append_assoc (history_at s user) (own_entry_of user e (turn_of shape s e.event)) rest

-- each place of a list of one value has it, and so has what is past its end
pub all_alike : {X : Type 0} (n i : ℕ) (x : X) → get_or (replicate n x) i x ≡ x
all_alike n i x = elim (nat_lt i n) as (λ b. nat_lt i n ≡ b → get_or (replicate n x) i x ≡ x) [
  | true ↦ λ e. get_or-replicate n i x x (ltb-true i n e)
  | false ↦ λ e. let past = ltb-false i n e in get_or_past (replicate n x) i x (omega (arith, length-replicate n x))
] refl

first_fresh : (shape : Shape) → AreFresh shape (first_core shape)
first_fresh shape =
    let nothing : List Entry = [] in
    record {
      users = length-replicate shape.users nothing;
      pool = λ user. each_named_nothing (first_core shape).pool (named_in shape user (history_at (first_core shape) user)) (λ id. ap (λ (h : List Entry). named_in shape user h id) (all_alike shape.users user nothing));
      hand = λ user. tt;
    }

-- so it is after each run
pub fresh_after : (shape : Shape) (run : List CoreEntry) → IsCoreRun shape run → AreFresh shape (core_of shape (first_core shape) run)
fresh_after shape run is = kept_by_run shape (AreFresh shape) (step_fresh shape) (first_core shape) run is (first_fresh shape)

-- a user's history in a run is the list of the user's own entries
pub history_of-entries : (shape : Shape) (run : List CoreEntry) (user : ℕ) → history_of shape run user ≡ own_entries shape run user
history_of-entries shape run user =
    let nothing : List Entry = [] in
    run_entries shape (first_core shape) run user (length-replicate shape.users nothing) ∙ ap (λ (h : List Entry). h ++ own_entries shape run user) (all_alike shape.users user nothing)
