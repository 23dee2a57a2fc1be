-- Each step that makes or splits passes keeps the rule.
use Rattle.std.proofs.Common.{◌≡◌, ◌≢◌, ◌⊎◌, ℕ, ◌+◌, ◌%◌, ◌^◌, ◌≤◌, eqb, Bool, true, false, List, [], ◌∷◌, ◌++◌, length, set, refl, ap, sym, ◌∙◌, subst, inl, inr, ⊎_elim, arith, ne_eqb, le_refl}
use Rattle.std.proofs.Math.Nat.{mod-eq_of_lt}
use mathlib.Core.Logic.{dite}
use mathlib.Core.Option.{none, some, some-injective, some-ne-none}
use native.Mathlib.Decide.{dec_lt}
use lib.ListN.{get_elem?}
use Rattle.atomic_table.specs.Table.{State, Me, step, keeps, Allows, Splits}
use Rattle.atomic_table.proofs.Lists.{at_set, set_else}
use Rattle.turn_cell.specs.declared.knows.Logged.{Logged}
use Rattle.turn_cell.specs.declared.knows.Knows.{Knows}
use Rattle.turn_cell.specs.declared.knows.LastCall.{LastCall}
use Rattle.turn_cell.specs.declared.knows.Slot.{Slot}
use Rattle.turn_cell.specs.declared.knows.Stage.{Stage}
use Rattle.turn_cell.specs.declared.knows.Stage.TheVariants.{Idle, Drew, Waits, Holds, Joined}
use Rattle.turn_cell.specs.History.{In, calls_by}
use Rattle.turn_cell.specs.Turns.{drawn_by, Claims, Place, Fits, AtHome, IsOut, left_with, drawn_with, calls_of, draws_of, Kept, number_in, split_off, split_from, counted, numbered}
use Rattle.turn_cell.proofs.Views.{at_once, filter_none, prefix_none, total_set, total_within, total_push}
use Rattle.turn_cell.proofs.Rests.{later, claims_below, more_drawn, resits, arrives}

abbrev pub is_holding : {E : Type 0} → Stage E → Bool
is_holding Idle = false
is_holding (Drew m) = false
is_holding (Waits t) = false
is_holding (Holds t) = true
is_holding (Joined a b) = false

module _ (O A T E K : Type 0) (key_of : O → K) (stands : O → List E → Type 0) (moving : E → Bool) (key : K) where
  abbrev V : Type 0
  V = Knows E K

  abbrev S : Type 0
  S = Slot O (LastCall O A T)

  abbrev St : Type 0
  St = State S V

  abbrev M : Type 0
  M = Me S V

  abbrev Rule : St → Type 0
  Rule = Kept key_of stands moving key

  abbrev Goes : St → ℕ → M → ℕ → (ℕ → ℕ) → (ℕ → M → Type 0) → List ℕ → Type 0
  Goes = Rattle.turn_cell.proofs.Rests.Goes O A T E K key_of stands moving key

  -- where a seat that holds nothing changes to one that holds nothing, the object is where it was
  pub home_stays : (s : St) (r : Rule s) (ws : List ℕ) (id : ℕ) (v w : V) → get_elem? s.views id ≡ some v → is_holding v.stage ≡ false
      → AtHome key_of stands key r.history (record { words = ws; homes = s.homes; views = set s.views id w }) ⊎ IsOut key_of stands r.history (record { words = ws; homes = s.homes; views = set s.views id w })
  home_stays s r ws id v w at free = ⊎_elim
      (λ (a : AtHome key_of stands key r.history s). inl a)
      (λ (o : IsOut key_of stands r.history s). inr (
        o.0,
        o.1,
        set_else s.views id o.0 w (λ (is : o.0 ≡ id).
            let same : o.1 ≡ v = at_once s.views id o.1 v (subst (λ (j : ℕ). get_elem? s.views j ≡ some o.1) is o.2) at in
            let b : true ≡ false = ap is_holding (sym o.3) ∙ (ap (λ (k : V). is_holding k.stage) same ∙ free) in cc b) ∙ o.2,
        o.3,
      ))
      r.home

  pub others : (s : St) (r : Rule s) (id : ℕ) (passes ticket : ℕ) → r.passes ≤ passes → r.ticket ≤ ticket → (j : ℕ) (u : V) → j ≢ id → get_elem? s.views j ≡ some u → Fits moving key r.history passes ticket u
  others s r id passes ticket lp lt j u _ q = more_drawn moving key r.history r.passes passes r.ticket ticket u lp lt (r.seats j u q)

  fresh : (s : St) (r : Rule s) → calls_by r.passes r.history ≡ []
  fresh s r = filter_none (λ (l : Logged E). eqb l.by r.passes) r.history (λ l i. let o = r.owners l i in let b = (r.seats o.0 o.1 o.2).below l.by o.3 in ne_eqb l.by r.passes (λ e. omega (arith, b, e)))

  -- a look at the count of drawn numbers
  pub counts : (slots id : ℕ) (me : M) → me.0.stage ≡ Idle → Allows Rule slots id me 0 (λ n. n) (counted (step slots 0 0 0 none) me)
  counts slots id me idle s r long at small =
      let v : V = me.0 in
      let vs : List V = s.views in
      let p : ℕ = r.passes in
      let w : V = record v { found = p } in
      let f = r.seats id v at in
      let c = r.calls in
      let d = r.draws in
      let used = total_set calls_of vs id v w at in
      let used2 = total_set draws_of vs id v w at in
      subst (Goes s id me 0 (λ n. n) (counted (step slots 0 0 0 none) me)) (sym r.words) (
        w,
        keeps,
        tt,
        resits O A T E K key_of stands moving key s r id v w at (p ∷ r.ticket ∷ length r.history ∷ []) s.homes r.history p r.ticket refl r.behind
            (omega (arith, c, used)) (omega (arith, d, used2))
            (record { of_key = f.of_key; below = f.below; low = f.low; made_below = f.made_below; found_below = le_refl p; working = f.working; mover_works = f.mover_works; new_drawn = f.new_drawn; knows = f.knows; chance = f.chance; place = f.place })
            (λ j u _ q. r.seats j u q)
            (λ j u other q t. other (sym (r.apart id j v u at q t)))
            (λ j u other q t. other (sym (r.names id j v u at q t)))
            refl (λ n i. i) (λ n i. i) (λ m lt small. inl lt) (λ l i. inl i)
            (home_stays s r (p ∷ r.ticket ∷ length r.history ∷ []) id v w at (ap is_holding idle)),
        (refl, refl, f.found_below, λ low n i. ⊎_elim (λ (c : v.spare ≡ 1). c) (λ (c : 2 ^ 30 ≤ p). absurd (omega (arith, low, c))) (f.chance n i)),
      )

  -- the fetch_add that draws a number
  pub numbers : (slots id : ℕ) (me : M) → In me.0.number me.0.names → me.0.stage ≡ Idle → me.0.spare ≡ 1 → Allows Rule slots id me 0 (λ n. (n + 1) % 2 ^ 64) (numbered (step slots 0 1 0 none) me)
  numbers slots id me alive idle one s r long at small =
      let v : V = me.0 in
      let vs : List V = s.views in
      let h : List (Logged E) = r.history in
      let p : ℕ = r.passes in
      let f = r.seats id v at in
      let c = r.calls in
      let d = r.draws in
      let next : (p + 1) % 2 ^ 64 ≡ p + 1 = mod-eq_of_lt (omega (arith, d)) in
      let free : is_holding v.stage ≡ false = ap is_holding idle in
      let none_left : left_with v.stage ≡ 0 = ap left_with idle in
      let none_drawn : drawn_with v.stage ≡ 0 = ap drawn_with idle in
      let new : In p v.names → ⊥ = λ i. let b = f.below p i in omega (arith, b) in
      subst (Goes s id me 0 (λ n. (n + 1) % 2 ^ 64) (numbered (step slots 0 1 0 none) me)) (sym r.words) (dite (dec_lt p (2 ^ 30))
      (λ low.
      let w : V = record v { made = p ∷ v.made; found = p; stage = Drew p } in
      let used = total_set calls_of vs id v w at in
      let used2 = total_set draws_of vs id v w at in (
        w,
        keeps,
        tt,
        resits O A T E K key_of stands moving key s r id v w at ((p + 1) % 2 ^ 64 ∷ r.ticket ∷ length h ∷ []) s.homes h (p + 1) r.ticket
            (ap (λ (n : ℕ). n ∷ r.ticket ∷ length h ∷ []) next) r.behind
            (omega (arith, c, used, none_left, low))
            (omega (arith, d, used2, none_drawn, low))
            (record {
              of_key = f.of_key;
              below = λ n i. let b = f.below n i in omega (arith, b);
              low = f.low;
              made_below = λ n i. ⊎_elim (λ (e : n ≡ p). omega (arith, e)) (λ (i : In n v.made). let b = f.made_below n i in omega (arith, b)) i;
              found_below = omega arith;
              working = λ t e. absurd (some-ne-none t (sym e));
              mover_works = f.mover_works;
              new_drawn = λ n i e. new (subst (λ (k : ℕ). In k v.names) (sym (some-injective p n e)) i);
              knows = f.knows;
              chance = λ _ _. inl one;
              place = (omega arith, low, fresh s r);
            })
            (others s r id (p + 1) r.ticket (omega arith) (le_refl r.ticket))
            (λ j u _ q t. some-ne-none t.0 (sym t.1))
            (λ j u other q t. ⊎_elim (λ (i : In t.0 v.names). other (sym (r.names id j v u at q (t.0, inl i, t.2))))
            (λ (e : some p ≡ some t.0). let same : p ≡ t.0 = some-injective p t.0 e in let b = claims_below moving key h p r.ticket u t.0 (r.seats j u q) t.2 in omega (arith, same, b)) t.1)
            refl (λ n i. i) (λ n i. inr i)
            (λ m lt small. dite (dec_lt m p) (λ old. inl old) (λ not_old. let e : m ≡ p = omega (arith, lt, not_old) in inr (v.number, (let b = f.below v.number alive in omega (arith, b, e)), alive, inl e)))
            (λ l i. inl i)
            (home_stays s r ((p + 1) % 2 ^ 64 ∷ r.ticket ∷ length h ∷ []) id v w at free),
        (refl, f.found_below, (λ _. (refl, prefix_none (λ (l : Logged E). eqb l.by p) v.seen h f.knows.begins (fresh s r), (λ n x. ⊎_elim (f.below n) (f.made_below n) x))), (λ high. absurd (omega (arith, low, high)))),
      ))
      (λ not_low.
      let w : V = record v { found = p; spare = 0 } in
      let used = total_set calls_of vs id v w at in
      let used2 = total_set draws_of vs id v w at in
      let part = total_within draws_of vs id v at in (
        w,
        keeps,
        tt,
        resits O A T E K key_of stands moving key s r id v w at ((p + 1) % 2 ^ 64 ∷ r.ticket ∷ length h ∷ []) s.homes h (p + 1) r.ticket
            (ap (λ (n : ℕ). n ∷ r.ticket ∷ length h ∷ []) next) r.behind
            (omega (arith, c, used, not_low))
            (omega (arith, d, used2, not_low, one, part))
            (record {
              of_key = f.of_key;
              below = λ n i. let b = f.below n i in omega (arith, b);
              low = f.low;
              made_below = λ n i. let b = f.made_below n i in omega (arith, b);
              found_below = omega arith;
              working = f.working;
              mover_works = f.mover_works;
              new_drawn = f.new_drawn;
              knows = f.knows;
              chance = λ _ _. inr (omega (arith, not_low));
              place = later moving h p (p + 1) r.ticket r.ticket v.seen v.stage (omega arith) (le_refl r.ticket) f.place;
            })
            (others s r id (p + 1) r.ticket (omega arith) (le_refl r.ticket))
            (λ j u other q t. other (sym (r.apart id j v u at q t)))
            (λ j u other q t. other (sym (r.names id j v u at q t)))
            refl (λ n i. i) (λ n i. i) (λ m lt small. inl (omega (arith, small, not_low))) (λ l i. inl i)
            (home_stays s r ((p + 1) % 2 ^ 64 ∷ r.ticket ∷ length h ∷ []) id v w at free),
        (refl, f.found_below, (λ low. absurd (not_low low)), (λ _. refl)),
      )))

  -- a pass is made of a drawn number
  pub splits : (id : ℕ) (v : V) (m : ℕ) → v.stage ≡ Drew m → Splits Rule id v (split_from v) (split_off v)
  unfolding resits
  splits id v m is s r at =
      let vs : List V = s.views in
      let h : List (Logged E) = r.history in
      let f = r.seats id v at in
      let mine : Place moving h r.passes r.ticket v.seen (Drew m) = subst (Place moving h r.passes r.ticket v.seen) is f.place in
      let w : V = split_from v in
      let u₀ : V = record { key = v.key; number = m; names = m ∷ []; made = []; found = 0; left = 4294967296; spare = 1; may_move = false; seen = v.seen; stage = Idle } in
      let named : u₀ ≡ split_off v = ap (λ (st : Stage E). record { key = v.key; number = number_in st; names = number_in st ∷ []; made = []; found = 0; left = 4294967296; spare = 1; may_move = false; seen = v.seen; stage = Idle }) (sym is) in
      let c = r.calls in
      let d = r.draws in
      let used = total_set calls_of vs id v w at in
      let used2 = total_set draws_of vs id v w at in
      let more = total_push calls_of (set vs id w) u₀ in
      let more2 = total_push draws_of (set vs id w) u₀ in
      let kept_left : left_with v.stage ≡ 4294967296 = ap left_with is in
      let kept_drawn : drawn_with v.stage ≡ 1 = ap drawn_with is in
      let free : is_holding v.stage ≡ false = ap is_holding is in
      let claimed : drawn_by v.stage ≡ some m = ap drawn_by is in
      let r₁ : Rule (record { words = s.words; homes = s.homes; views = set vs id w }) =
      resits O A T E K key_of stands moving key s r id v w at s.words s.homes h r.passes r.ticket r.words r.behind
      (omega (arith, c, used, kept_left))
      (omega (arith, d, used2, kept_drawn))
      (record { of_key = f.of_key; below = f.below; low = f.low; made_below = f.made_below; found_below = f.found_below; working = λ t e. absurd (some-ne-none t (sym e)); mover_works = f.mover_works; new_drawn = λ n i e. some-ne-none n (sym e); knows = f.knows; chance = f.chance; place = tt })
      (λ j u _ q. r.seats j u q)
      (λ j u _ q t. some-ne-none t.0 (sym t.1))
      (λ j u other q t. ⊎_elim (λ (i : In t.0 v.names). other (sym (r.names id j v u at q (t.0, inl i, t.2)))) (λ (e : none ≡ some t.0). some-ne-none t.0 (sym e)) t.1)
      refl (λ n i. i) (λ n i. i) (λ m lt small. inl lt) (λ l i. inl i)
      (home_stays s r s.words id v w at free) in
      let only_m : (n : ℕ) → In n (m ∷ []) → n ≡ m = λ n i. ⊎_elim (λ (e : n ≡ m). e) (λ (b : ⊥). absurd b) i in
      subst (λ (x : V). Rule (record { words = s.words; homes = s.homes; views = set vs id w ++ x ∷ [] })) named
      (arrives O A T E K key_of stands moving key (record { words = s.words; homes = s.homes; views = set vs id w }) r₁ u₀
      (omega (arith, c, used, kept_left, more))
      (omega (arith, d, used2, kept_drawn, more2))
      (record {
        of_key = f.of_key;
        below = λ n i. let e = only_m n i in let b = mine.0 in omega (arith, e, b);
        low = λ n i. let e = only_m n i in let b = mine.1 in omega (arith, e, b);
        made_below = λ n i. absurd i;
        found_below = omega arith;
        working = λ t e. absurd (some-ne-none t (sym e));
        mover_works = λ e. let b : false ≡ true = e in absurd (cc b);
        new_drawn = λ n i e. some-ne-none n (sym e);
        knows = record {
          begins = f.knows.begins;
          own = λ n i. let e = only_m n i in subst (λ (k : ℕ). calls_by k h ≡ calls_by k v.seen) (sym e) (mine.2 ∙ sym (prefix_none (λ (l : Logged E). eqb l.by m) v.seen h f.knows.begins mine.2));
          moved = λ e. let b : false ≡ true = e in absurd (cc b);
        };
        chance = λ _ _. inl refl;
        place = tt;
      })
      (λ j u q t. some-ne-none t.0 (sym t.1))
      (λ j u q t.
      let e : t.0 ≡ m = ⊎_elim (only_m t.0) (λ (x : none ≡ some t.0). absurd (some-ne-none t.0 (sym x))) t.1 in
      ⊎_elim
      (λ (k : (j ≡ id) × (w ≡ u)). ⊎_elim
      (λ (i : In t.0 v.names). f.new_drawn m (subst (λ (n : ℕ). In n v.names) e i) claimed)
      (λ (x : none ≡ some t.0). some-ne-none t.0 (sym x))
      (subst (λ (y : V). Claims y t.0) (sym k.1) t.2))
      (λ (k : (j ≢ id) × (get_elem? vs j ≡ some u)). k.0 (sym (r.names id j v u at k.1 (m, inr claimed, subst (Claims u) e t.2))))
      (at_set vs id j w u q))
      refl)
