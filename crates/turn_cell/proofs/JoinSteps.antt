-- Each step that joins passes, or tells one what another has seen, keeps the rule.
use Rattle.std.proofs.Common.{◌≡◌, ◌≢◌, ◌⊎◌, ℕ, ◌≤◌, ◌||◌, min, max, eqb, leb, cond, Bool, true, false, List, [], ◌∷◌, ◌++◌, length, set, refl, ap, sym, ◌∙◌, subst, inl, inr, ⊎_elim, arith, le_refl}
use Rattle.std.proofs.Math.Nat.{min-le_left}
use mathlib.Core.Logic.{dite}
use mathlib.Core.Option.{none, some, some-ne-none}
use mathlib.Core.List.{IsPrefix}
use native.Mathlib.Decide.{ℕ_discrete}
use lib.ListN.{get_elem?}
use Rattle.atomic_table.specs.Table.{State, Me, step, keeps, Allows, Splits, Joins}
use Rattle.atomic_table.proofs.Lists.{at_set, set_here, set_else, set_again}
use Rattle.turn_cell.specs.declared.knows.Logged.{Logged}
use Rattle.turn_cell.specs.declared.knows.Knows.{Knows}
use Rattle.turn_cell.specs.declared.knows.LastCall.{LastCall}
use Rattle.turn_cell.specs.declared.knows.Slot.{Slot}
use Rattle.turn_cell.specs.declared.knows.Stage.TheVariants.{Idle, Joined}
use Rattle.turn_cell.specs.declared.knows.Past.{Past}
use Rattle.turn_cell.specs.History.{In, longer, HasSeen}
use Rattle.turn_cell.specs.Turns.{Apart, Begins, settled, OneTicket, Claims, OneNumber, BothMove, Place, Fits, AtHome, IsOut, left_with, drawn_with, calls_of, draws_of, Branch, Kept, joined, note, spent}
use Rattle.turn_cell.proofs.Views.{within, at_once, each_set, pairs_set, prefix_self, prefix_shorter, sandwich, in_left, in_right, in_either, set_swap, total_set, total_push}
use Rattle.turn_cell.proofs.Rests.{flip_ticket, flip_number, flip_move, resits, arrives}
use Rattle.turn_cell.proofs.PassSteps.{is_holding, home_stays}

or_true : (a b : Bool) → a || b ≡ true → (a ≡ true) ⊎ (b ≡ true)
or_true true b e = inl refl
or_true false b e = inr e

or_left : (a b : Bool) → a ≡ true → a || b ≡ true
or_left true b e = refl
or_left false b e = absurd (cc e)

or_right : (a b : Bool) → b ≡ true → a || b ≡ true
or_right true b e = refl
or_right false b e = e

module _ {E : Type 0} where
  longer_by : (b : Bool) (xs ys h : List (Logged E)) → leb (length xs) (length ys) ≡ b → IsPrefix xs h → IsPrefix ys h
      → IsPrefix xs (cond b ys xs) × IsPrefix ys (cond b ys xs) × IsPrefix (cond b ys xs) h
  longer_by true xs ys h e p q = (prefix_shorter xs ys h p q (grind (arith, Rattle.std.proofs.lemmas.Bool.Decides.nat_tests)), prefix_self ys, q)
  longer_by false xs ys h e p q = (prefix_self xs, prefix_shorter ys xs h q p (grind (arith, Rattle.std.proofs.lemmas.Bool.Decides.nat_tests)), p)

  longer_is : (xs ys h : List (Logged E)) → IsPrefix xs h → IsPrefix ys h → IsPrefix xs (longer xs ys) × IsPrefix ys (longer xs ys) × IsPrefix (longer xs ys) h
  longer_is xs ys h p q = longer_by (leb (length xs) (length ys)) xs ys h refl p q

max_le : (a b n : ℕ) → a ≤ n → b ≤ n → max a b ≤ n
max_le a b n p q = omega arith

module _ {E K : Type 0} where
  -- what begins the whole history and has all that a seat has to know begins each longer part of it
  begins_still : {moving : E → Bool} (v : Knows E K) (h seen : List (Logged E)) → HasSeen moving v.names v.may_move v.seen h → IsPrefix v.seen seen → IsPrefix seen h → HasSeen moving v.names v.may_move v.seen seen
  begins_still {moving} v h seen f p q = record {
    begins = p;
    own = λ n i. sym (sandwich (λ (l : Logged E). eqb l.by n) v.seen seen h p q (f.own n i)) ∙ f.own n i;
    moved = λ e. sym (sandwich (λ (l : Logged E). moving l.entry) v.seen seen h p q (f.moved e)) ∙ f.moved e;
  }

module _ (O A T E K : Type 0) (key_of : O → K) (stands : O → List E → Type 0) (moving : E → Bool) (key : K) where
  abbrev V : Type 0
  V = Knows E K

  abbrev S : Type 0
  S = Slot O (LastCall O A T)

  abbrev St : Type 0
  St = State S V

  abbrev M : Type 0
  M = Me S V

  abbrev Rule : St → Type 0
  Rule = Kept key_of stands moving key

  abbrev Goes : St → ℕ → M → ℕ → (ℕ → ℕ) → (ℕ → M → Type 0) → List ℕ → Type 0
  Goes = Rattle.turn_cell.proofs.Rests.Goes O A T E K key_of stands moving key

  -- where a seat that holds nothing changes to one that holds nothing, the object is where it was
  -- one pass takes in another, and has this many calls left
  pub joins_left : (left : ℕ) (id : ℕ) (v : V) (other : ℕ) (w : V) → left ≤ v.left → In v.number v.names → v.stage ≡ Idle → w.stage ≡ Idle → Joins Rule id v other w (record (joined v w) { left = left }) spent
  joins_left left id v other w less alive v_idle w_idle s r at apart there =
      let vs : List V = s.views in
      let h : List (Logged E) = r.history in
      let f = r.seats id v at in
      let at_w : get_elem? vs other ≡ some w = sym (set_else vs id other (record (joined v w) { left = left }) apart) ∙ there in
      let g = r.seats other w at_w in
      let c = r.calls in
      let d = r.draws in
      let b : V = record (joined v w) { left = left } in
      let z : V = spent {E = E} {K = K} in
      let l₁ : List V = set vs other z in
      let ne : id ≢ other = λ e. apart (sym e) in
      let at₁ : get_elem? l₁ id ≡ some v = set_else vs other id z ne ∙ at in
      let here : get_elem? (set l₁ id b) id ≡ some b = set_here l₁ id b (within l₁ id v at₁) in
      let used = total_set calls_of vs other w z at_w in
      let used2 = total_set draws_of vs other w z at_w in
      let more = total_set calls_of l₁ id v b at₁ in
      let more2 = total_set draws_of l₁ id v b at₁ in
      let none_left : left_with v.stage ≡ 0 = ap left_with v_idle in
      let none_left_w : left_with w.stage ≡ 0 = ap left_with w_idle in
      let none_drawn : drawn_with v.stage ≡ 0 = ap drawn_with v_idle in
      let none_drawn_w : drawn_with w.stage ≡ 0 = ap drawn_with w_idle in
      let long = longer_is v.seen w.seen h f.knows.begins g.knows.begins in
      let on : (j : ℕ) (u : V) → j ≢ id → j ≢ other → get_elem? vs j ≡ some u → get_elem? (set l₁ id b) j ≡ some u = λ j u n m q. set_else l₁ id j b n ∙ (set_else vs other j z m ∙ q) in
      let is_v : (j : ℕ) (u : V) → get_elem? vs j ≡ some u → j ≡ id → u ≡ v = λ j u q same. at_once vs id u v (subst (λ (k : ℕ). get_elem? vs k ≡ some u) same q) at in
      let is_w : (j : ℕ) (u : V) → get_elem? vs j ≡ some u → j ≡ other → u ≡ w = λ j u q same. at_once vs other u w (subst (λ (k : ℕ). get_elem? vs k ≡ some u) same q) at_w in
      let not_z : (n : ℕ) → Claims z n → ⊥ = λ n x. ⊎_elim (λ (i : ⊥). i) (λ (e : none ≡ some n). some-ne-none n (sym e)) x in
      let rule₁ : Rule (record { words = s.words; homes = s.homes; views = set l₁ id b }) = record {
        history = h;
        passes = r.passes;
        ticket = r.ticket;
        words = r.words;
        behind = r.behind;
        calls = omega (arith, c, used, more, less, none_left, none_left_w);
        draws = omega (arith, d, used2, more2, none_drawn, none_drawn_w);
        seats = each_set (λ _ u. Fits moving key h r.passes r.ticket u) l₁ id b
            (record {
              of_key = f.of_key;
              below = λ n i. ⊎_elim (f.below n) (g.below n) (in_either n v.names w.names i);
              low = λ n i. ⊎_elim (f.low n) (g.low n) (in_either n v.names w.names i);
              made_below = λ n i. ⊎_elim (f.made_below n) (g.made_below n) (in_either n v.made w.made i);
              found_below = max_le v.found w.found r.passes f.found_below g.found_below;
              working = λ t e. absurd (some-ne-none t (sym e));
              mover_works = λ e. in_left v.number v.names w.names alive;
              new_drawn = λ n i e. some-ne-none n (sym e);
              knows = record {
                begins = long.2;
                own = λ n i. ⊎_elim (λ (a : In n v.names). sandwich (λ (l : Logged E). eqb l.by n) v.seen b.seen h long.0 long.2 (f.knows.own n a)) (λ (a : In n w.names). sandwich (λ (l : Logged E). eqb l.by n) w.seen b.seen h long.1 long.2 (g.knows.own n a)) (in_either n v.names w.names i);
                moved = λ e. ⊎_elim (λ (a : v.may_move ≡ true). sandwich (λ (l : Logged E). moving l.entry) v.seen b.seen h long.0 long.2 (f.knows.moved a)) (λ (a : w.may_move ≡ true). sandwich (λ (l : Logged E). moving l.entry) w.seen b.seen h long.1 long.2 (g.knows.moved a)) (or_true v.may_move w.may_move e);
              };
              chance = λ n i. f.chance v.number alive;
              place = (
                begins_still v h b.seen f.knows long.0 long.2,
                begins_still w h b.seen g.knows long.1 long.2,
                record { names = λ n i j. ne (r.names id other v w at at_w (n, inl i, inl j)); rights = λ x y. ne (r.rights id other v w at at_w (x, y)) },
              );
            })
            (λ j u _ q. each_set (λ _ y. Fits moving key h r.passes r.ticket y) vs other z
            (record { of_key = inl refl; below = λ n i. absurd i; low = λ n i. absurd i; made_below = λ n i. absurd i; found_below = omega arith; working = λ t e. absurd (some-ne-none t (sym e)); mover_works = λ e. let x : false ≡ true = e in absurd (cc x); new_drawn = λ n i e. i; knows = record { begins = (h, refl); own = λ n i. absurd i; moved = λ e. let x : false ≡ true = e in absurd (cc x) }; chance = λ n i. absurd i; place = tt })
            (λ k y _ x. r.seats k y x) j u q);
        apart = pairs_set OneTicket l₁ id b flip_ticket
            (pairs_set OneTicket vs other z flip_ticket r.apart (λ j u _ q t. some-ne-none t.0 (sym t.1)))
            (λ j u n q t. some-ne-none t.0 (sym t.1));
        names = pairs_set OneNumber l₁ id b flip_number
            (pairs_set OneNumber vs other z flip_number r.names (λ j u _ q t. not_z t.0 t.1))
            (λ j u n q t. ⊎_elim
            (λ (k : (j ≡ other) × (z ≡ u)). not_z t.0 (subst (λ (y : V). Claims y t.0) (sym k.1) t.2))
            (λ (k : (j ≢ other) × (get_elem? vs j ≡ some u)). ⊎_elim
            (λ (i : In t.0 b.names). ⊎_elim
            (λ (a : In t.0 v.names). n (sym (r.names id j v u at k.1 (t.0, inl a, t.2))))
            (λ (a : In t.0 w.names). k.0 (sym (r.names other j w u at_w k.1 (t.0, inl a, t.2))))
            (in_either t.0 v.names w.names i))
            (λ (e : none ≡ some t.0). some-ne-none t.0 (sym e))
            t.1)
            (at_set vs other j z u q));
        rights = pairs_set BothMove l₁ id b flip_move
            (pairs_set BothMove vs other z flip_move r.rights (λ j u _ q t. let x : false ≡ true = t.0 in cc x))
            (λ j u n q t. ⊎_elim
            (λ (k : (j ≡ other) × (z ≡ u)). let x : false ≡ true = ap (λ (y : V). y.may_move) k.1 ∙ t.1 in cc x)
            (λ (k : (j ≢ other) × (get_elem? vs j ≡ some u)). ⊎_elim
            (λ (a : v.may_move ≡ true). n (sym (r.rights id j v u at k.1 (a, t.1))))
            (λ (a : w.may_move ≡ true). k.0 (sym (r.rights other j w u at_w k.1 (a, t.1))))
            (or_true v.may_move w.may_move t.0))
            (at_set vs other j z u q));
        mover = let m = r.mover in dite (ℕ_discrete m.0 id)
            (λ same. (id, b, here, or_left v.may_move w.may_move (ap (λ (y : V). y.may_move) (sym (is_v m.0 m.1 m.2 same)) ∙ m.3)))
            (λ n. dite (ℕ_discrete m.0 other)
            (λ same. (id, b, here, or_right v.may_move w.may_move (ap (λ (y : V). y.may_move) (sym (is_w m.0 m.1 m.2 same)) ∙ m.3)))
            (λ n'. (m.0, m.1, on m.0 m.1 n n' m.2, m.3)));
        tree = λ m lt low. ⊎_elim (λ (z : m ≡ 0). inl z)
            (λ (k : Branch vs m). dite (ℕ_discrete k.0 id)
            (λ same. let e = is_v k.0 k.1 k.2 same in inr (id, b, here, in_left m v.made w.made (subst (λ (y : V). In m y.made) e k.3), (k.4.0, k.4.1, in_left k.4.0 v.names w.names (subst (λ (y : V). In k.4.0 y.names) e k.4.2))))
            (λ n. dite (ℕ_discrete k.0 other)
            (λ same. let e = is_w k.0 k.1 k.2 same in inr (id, b, here, in_right m v.made w.made (subst (λ (y : V). In m y.made) e k.3), (k.4.0, k.4.1, in_right k.4.0 v.names w.names (subst (λ (y : V). In k.4.0 y.names) e k.4.2))))
            (λ n'. inr (k.0, k.1, on k.0 k.1 n n' k.2, k.3, k.4))))
            (r.tree m lt low);
        owners = λ l i. let o = r.owners l i in dite (ℕ_discrete o.0 id)
            (λ same. (id, b, here, in_left l.by v.names w.names (subst (λ (y : V). In l.by y.names) (is_v o.0 o.1 o.2 same) o.3)))
            (λ n. dite (ℕ_discrete o.0 other)
            (λ same. (id, b, here, in_right l.by v.names w.names (subst (λ (y : V). In l.by y.names) (is_w o.0 o.1 o.2 same) o.3)))
            (λ n'. (o.0, o.1, on o.0 o.1 n n' o.2, o.3)));
        home = ⊎_elim
            (λ (a : AtHome key_of stands key h s). inl a)
            (λ (o : IsOut key_of stands h s).
            let holding : is_holding o.1.stage ≡ true = ap is_holding o.3 in
            let n : o.0 ≢ id = λ e. let x : true ≡ false = sym holding ∙ ap (λ (y : V). is_holding y.stage) (is_v o.0 o.1 o.2 e) ∙ ap is_holding v_idle in cc x in
            let n' : o.0 ≢ other = λ e. let x : true ≡ false = sym holding ∙ ap (λ (y : V). is_holding y.stage) (is_w o.0 o.1 o.2 e) ∙ ap is_holding w_idle in cc x in
            inr (o.0, o.1, on o.0 o.1 n n' o.2, o.3))
            r.home;
      } in
      subst (λ (us : List V). Rule (record { words = s.words; homes = s.homes; views = us })) (set_swap vs other id z b apart) rule₁

  pub joins : (id : ℕ) (v : V) (other : ℕ) (w : V) → In v.number v.names → v.stage ≡ Idle → w.stage ≡ Idle → Joins Rule id v other w (joined v w) spent
  joins id v other w alive v_idle w_idle = joins_left (min v.left w.left) id v other w (min-le_left v.left w.left) alive v_idle w_idle

  pub learns : (id : ℕ) (v : V) (other : ℕ) (w : V) → In v.number v.names → v.stage ≡ Idle → w.stage ≡ Idle → Joins Rule id v other w (record (joined v w) { left = v.left }) spent
  learns id v other w alive v_idle w_idle = joins_left v.left id v other w (le_refl v.left) alive v_idle w_idle

  -- a note of what was seen, with no number, call or right
  pub notes : (id : ℕ) (v : V) → Splits Rule id v v (note v)
  notes id v s r at =
      let vs : List V = s.views in
      let u : V = note v in
      let f = r.seats id v at in
      let c = r.calls in
      let d = r.draws in
      let more = total_push calls_of vs u in
      let more2 = total_push draws_of vs u in
      subst (λ (us : List V). Rule (record { words = s.words; homes = s.homes; views = us ++ u ∷ [] })) (sym (set_again vs id v at))
      (arrives O A T E K key_of stands moving key s r u
      (omega (arith, c, more))
      (omega (arith, d, more2))
      (record { of_key = f.of_key; below = λ n i. absurd i; low = λ n i. absurd i; made_below = λ n i. absurd i; found_below = omega arith; working = λ t e. absurd (some-ne-none t (sym e)); mover_works = λ e. let x : false ≡ true = e in absurd (cc x); new_drawn = λ n i e. i; knows = record { begins = f.knows.begins; own = λ n i. absurd i; moved = λ e. let x : false ≡ true = e in absurd (cc x) }; chance = λ n i. absurd i; place = tt })
      (λ j x q t. some-ne-none t.0 (sym t.1))
      (λ j x q t. ⊎_elim (λ (i : ⊥). i) (λ (e : none ≡ some t.0). some-ne-none t.0 (sym e)) t.1)
      refl)

  -- two seats that are joined are told what both had seen
  pub settles : (slots id : ℕ) (me : M) (a b : Past E) → me.0.stage ≡ Joined a b → Allows Rule slots id me 0 (λ n. n) (settled moving (step slots 0 0 0 none) me)
  settles slots id me a b is s r long at small =
      let v : V = me.0 in
      let vs : List V = s.views in
      let w : V = record v { stage = Idle } in
      let f = r.seats id v at in
      let c = r.calls in
      let d = r.draws in
      let used = total_set calls_of vs id v w at in
      let used2 = total_set draws_of vs id v w at in
      let none_left : left_with v.stage ≡ 0 = ap left_with is in
      let none_drawn : drawn_with v.stage ≡ 0 = ap drawn_with is in
      subst (Goes s id me 0 (λ n. n) (settled moving (step slots 0 0 0 none) me)) (sym r.words) (
        w,
        keeps,
        tt,
        resits O A T E K key_of stands moving key s r id v w at (r.passes ∷ r.ticket ∷ length r.history ∷ []) s.homes r.history r.passes r.ticket refl r.behind
            (omega (arith, c, used, none_left)) (omega (arith, d, used2, none_drawn))
            (record { of_key = f.of_key; below = f.below; low = f.low; made_below = f.made_below; found_below = f.found_below; working = λ t e. absurd (some-ne-none t (sym e)); mover_works = f.mover_works; new_drawn = λ n i e. some-ne-none n (sym e); knows = f.knows; chance = f.chance; place = tt })
            (λ j u _ q. r.seats j u q)
            (λ j u _ q t. some-ne-none t.0 (sym t.1))
            (λ j u other q t. ⊎_elim (λ (i : In t.0 v.names). other (sym (r.names id j v u at q (t.0, inl i, t.2)))) (λ (e : none ≡ some t.0). some-ne-none t.0 (sym e)) t.1)
            refl (λ n i. i) (λ n i. i) (λ m lt small. inl lt) (λ l i. inl i)
            (home_stays O A T E K key_of stands moving key s r (r.passes ∷ r.ticket ∷ length r.history ∷ []) id v w at (ap is_holding is)),
        (λ x y same. let p : Begins moving x v.seen × Begins moving y v.seen × Apart x y = subst (Place moving r.history r.passes r.ticket v.seen) same f.place in (refl, refl, p.0, p.1, p.2)),
      )
