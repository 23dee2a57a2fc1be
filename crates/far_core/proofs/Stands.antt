-- The run that a core stands for grows by an entry.
use Rattle.std.proofs.Common.{◌≡◌, ℕ, ◌+◌, ◌-◌, ◌^◌, min, ◌<◌, ◌≤◌, ◌&&◌, not, true, false, cond, ◌||◌, Bool, IsTrue, List, [], ◌∷◌, ◌++◌, length, drop, refl, sym, subst, ap, ◌∙◌, arith, Some}
use Rattle.std.specs.declared.option.Option.{Option}
use Rattle.std.specs.Option.{option_to_list}
use Rattle.std.proofs.lemmas.Bool.{lt-ltb, le-ltb}
use Rattle.std.proofs.lemmas.List.{length-append}
use Rattle.std.proofs.lemmas.List.Elements.{All-nil, All-pop, All-push}
use Rattle.std.proofs.lemmas.List.Sums.{sum_by_push}
use Rattle.far_io.specs.Faults.{Faults, Follows}
use Rattle.far_io.proofs.Faults.{follows_itself, follows_on}
use Rattle.karma_rule.specs.declared.shape.Shape.{Shape}
use Rattle.slice_seq.specs.Slice.{SliceView}
use Rattle.shelf_link.specs.Told.{Told, IsSameKind, tells, is_sure}
use Rattle.far_words.specs.Moves.{MovesView, no_moves}
use Rattle.far_asks.specs.declared.request.Request.{Request}
use Rattle.far_asks.specs.declared.request.Reply.TheVariants.{StoreFault, AbsentUser}
use Rattle.far_asks.specs.declared.request.Outcome.{Outcome}
use Rattle.far_asks.specs.declared.request.Outcome.TheVariants.{Reply as Replied, Slice, HandEmpty, PoolEmpty}
use Rattle.far_history.specs.Entries.{Event, Ask, Grant, Entry}
use Rattle.far_history.specs.Histories.{Terms, State, Past, fits, is_new, past_after, past_of, first_past, InOrder}
use Rattle.far_history.specs.Legal.{IsLegalHistory}
use Rattle.far_history.specs.Standing.{IsCaused}
use Rattle.far_history.proofs.Grows.{InOrder-push}
use Rattle.tenant_world.specs.Views.{TenantView, count_in, entry_from, terms_of}
use Rattle.tenant_world.specs.Standing.{Sits, Lies, Stands}
use Rattle.tenant_world.specs.Telling.{IsUndamaged, ExcusesVoid}
use Rattle.far_core.specs.declared.service.CoreEvent.{CoreEvent}
use Rattle.far_core.specs.declared.service.CoreEvent.TheVariants.{Ask as Asking, Draw, Grant as Granting}
use Rattle.far_core.specs.Runs.{CoreEntry, CoreState, Turn, Own, Answered, fresh_pool, slices_of, first_core, draw_from, grant_from, for_user, turn_of, own_entry, hand_after, after_turn, history_at, core_of, history_of, IsAnswered, IsSoundHistory, IsSoundCore, IsCoreRun, IsLegalFor}
use Rattle.far_core.specs.Cores.{CoreView, sized, is_empty, is_own, count_at, core_entry, CountsGo, is_store_fault, store_faults, NeedsExcuse, AreExcused, HasHistory, HaveHistories, KeepsStore, StandsForRun, GrowsTenant, Gives, draw_of}
use Rattle.far_core.proofs.Longer.{core_of-push, IsRunFrom-push, sound_after}
use Rattle.far_core.proofs.Fresh.{AreFresh, fresh_after, IsOwnOf, own_of_turn, drawn_of_turn, grown_is, history_of-entries}
use Rattle.far_core.proofs.First.{first_sound, first_history}
use Rattle.far_core.proofs.Conserved.{first_true, own_in_order, own_sound, drawn_sound}

-- of a user that there isn't a grant is no event of its own
pub not_own : {K : Type 0} (core : CoreView K) (user : ℕ) → core.shape.users ≤ user → is_own core (Granting user) ≡ false
not_own core user none = ap (λ b. b && not (is_empty core.hand)) (le-ltb user core.shape.users none)

-- the counts of one entry more
counts_push : (count mid now : ℕ) (h : List Entry) (e : Entry) → CountsGo count h mid → e.before ≡ mid → e.before ≤ e.after → e.after ≡ now → CountsGo count (h ++ e ∷ []) now
counts_push count mid now [] e counts from later last = (from ∙ sym counts, later, last)
counts_push count mid now (x ∷ h) e counts from later last = (counts.0, counts.1, counts_push x.after mid now h e counts.2 from later last)

-- so does the count of events that the store failed, at most by one where the store's count rose
few_after : (outcome : Outcome) (before after first n : ℕ) → IsCaused outcome before after → before ≤ after → min (first + n) (2 ^ 64 - 1) ≤ before
    → min (first + (n + cond (is_store_fault outcome) 1 0)) (2 ^ 64 - 1) ≤ after
few_after (Replied StoreFault) before after first n caused later few = omega (arith, caused, later, few)
few_after outcome before after first n caused later few = omega (arith, later, few)

few_push : (first mid now : ℕ) (h : List Entry) (e : Entry) → IsCaused e.outcome e.before e.after → e.before ≡ mid → e.before ≤ e.after → e.after ≡ now → min (first + store_faults h) (2 ^ 64 - 1) ≤ mid
    → min (first + store_faults (h ++ e ∷ [])) (2 ^ 64 - 1) ≤ now
few_push first mid now h e caused from later last few =
    let all = sum_by_push (λ (x : Entry). cond (is_store_fault x.outcome) 1 0) h e in
    let here = few_after e.outcome e.before e.after first (store_faults h) caused later (omega (arith, few, from)) in
    omega (arith, all, here, last)

-- what one of two says, either says
or_left : (a b : Bool) → IsTrue a → IsTrue (a || b)
or_left a b is = ap (λ x. x || b) is

or_right : (a b : Bool) → IsTrue b → IsTrue (a || b)
or_right true b is = refl
or_right false b is = is

-- an entry more that is excused
excused_push : (t : Terms) (p : Past) (h : List Entry) (e : Entry) → AreExcused t p h → NeedsExcuse t (past_of t p h).state e.event e.outcome → AreExcused t p (h ++ e ∷ [])
excused_push t p [] e excused last = (last, tt)
excused_push t p (x ∷ h) e excused last = (excused.0, excused_push t (past_after t p x) h e excused.1 last)

-- of the one user there is
there_is_one : (users user : ℕ) → users ≡ 1 → user < users → user ≡ 0
there_is_one users user one there = omega arith

-- the state of the run that a core stands for
abbrev pub state_in : {K : Type 0} → CoreView K → List CoreEntry → CoreState
state_in core run = core_of core.shape (first_core core.shape) run

-- a core whose last event moved nothing
abbrev pub IsStill : {K : Type 0} → CoreView K → Type 0
IsStill core = core.moves ≡ no_moves 0

-- whether there is a user
for-there : (shape : Shape) (user : ℕ) (turn : Turn) → user < shape.users → for_user shape user turn ≡ turn
for-there shape user turn there = ap (λ b. cond b turn (Answered (Replied (AbsentUser shape.users)))) (lt-ltb user shape.users there)

for-absent : (shape : Shape) (user : ℕ) (turn : Turn) → shape.users ≤ user → for_user shape user turn ≡ Answered (Replied (AbsentUser shape.users))
for-absent shape user turn none = ap (λ b. cond b turn (Answered (Replied (AbsentUser shape.users)))) (le-ltb user shape.users none)

-- of one store there is one
pub one_shelf : {K : Type 0} (shelves left : List K) (popped : Option K) (shelf : K) → shelves ≡ left ++ option_to_list popped → popped ≡ Some shelf → length shelves ≡ 1 → shelves ≡ shelf ∷ []
one_shelf {K} shelves left popped shelf is some one = is ∙ ap (λ (o : Option K). left ++ option_to_list o) some ∙ alone left (ap length (sym (is ∙ ap (λ (o : Option K). left ++ option_to_list o) some)) ∙ one)
  where
    alone : (xs : List K) → length (xs ++ shelf ∷ []) ≡ 1 → xs ++ shelf ∷ [] ≡ shelf ∷ []
    alone [] e = refl
    alone (x ∷ xs) e = let more = length-append xs (shelf ∷ []) in absurd (omega (arith, e, more))

module _ {K : Type 0} (told : K → Told) (faults : K → Faults) where
  -- a tenant's history grows by an entry
  history_grows : (t : Terms) (shelf : K) (old new : TenantView K) (h : List Entry) (e : Entry) → HasHistory told faults t shelf old h → new.terms ≡ old.terms → Stands told faults new (h ++ e ∷ [])
      → IsSameKind (told old.home.shelf) (told new.home.shelf) → Follows (faults old.home.shelf) (faults new.home.shelf) → e.before ≡ count_in faults old → e.after ≡ count_in faults new
      → (IsTrue (tells (told old.home.shelf)) → IsUndamaged e.outcome) → (IsTrue ((told old.home.shelf).void) → NeedsExcuse t (past_of t first_past h).state e.event e.outcome)
      → HasHistory told faults t shelf new (h ++ e ∷ [])
  history_grows t shelf old new h e has terms stands kind follows before after clean excuse =
      let rises : count_in faults old ≤ count_in faults new = follows.later in
      let caused : IsCaused e.outcome e.before e.after = (All-pop (λ (x : Entry). IsCaused x.outcome x.before x.after) (h ++ e ∷ []) h (Some e) refl stands.caused).1 in
      record {
        terms = terms ∙ has.terms;
        stands = stands;
        kind = record { tells = kind.tells ∙ has.kind.tells; void = kind.void ∙ has.kind.void };
        follows = follows_on _ _ _ has.follows follows;
        counts = counts_push (faults shelf).count (count_in faults old) (count_in faults new) h e has.counts before (omega (arith, rises, before, after)) after;
        few = few_push (faults shelf).count (count_in faults old) (count_in faults new) h e caused before (omega (arith, rises, before, after)) after has.few;
        undamaged = λ is. All-push (λ (x : Entry). IsUndamaged x.outcome) h e (has.undamaged is) (clean (has.kind.tells ∙ is));
        excused = λ is. excused_push t first_past h e (has.excused is) (excuse (has.kind.void ∙ is));
      }

  -- a tenant's event over a void store, in a state that it stands for
  excuse_at : (tenant : TenantView K) (event : Event) (outcome : Outcome) (s : State) → ExcusesVoid told tenant event outcome → IsTrue ((told tenant.home.shelf).void)
      → Sits s tenant → Lies (told tenant.home.shelf) s tenant → NeedsExcuse tenant.terms s event outcome
  excuse_at tenant (Ask moment request) outcome s excuses is sits lies = λ none needs. excuses is s sits lies none needs
  excuse_at tenant (Grant slice number size) outcome s excuses is sits lies = tt

  -- a tenant that is as before keeps its store
  pub keeps_store : (old new : CoreView K) → new.tenant ≡ old.tenant → KeepsStore told faults old new
  keeps_store old new same = record {
    kind = record { tells = ap (λ (t : TenantView K). tells (told t.home.shelf)) same; void = ap (λ (t : TenantView K). (told t.home.shelf).void) same };
    counts = subst (λ (t : TenantView K). Follows (faults old.tenant.home.shelf) (faults t.home.shelf)) (sym same) (follows_itself (faults old.tenant.home.shelf));
  }

  -- what there is of the one user's tenant
  one_stands : (shape : Shape) (run : List CoreEntry) (shelves : List K) (tenant : TenantView K) → HaveHistories told faults shape run 0 shelves (tenant ∷ [])
      → (tenant.terms ≡ terms_of 0 shape) × Stands told faults tenant (history_of shape run 0)
  one_stands shape run [] tenant have = absurd have
  one_stands shape run (shelf ∷ shelves) tenant have = (have.0.terms, have.0.stands)

  one_grows : (shape : Shape) (run now : List CoreEntry) (shelves : List K) (old new : TenantView K)
      → ((shelf : K) → HasHistory told faults (terms_of 0 shape) shelf old (history_of shape run 0) → HasHistory told faults (terms_of 0 shape) shelf new (history_of shape now 0))
      → HaveHistories told faults shape run 0 shelves (old ∷ []) → HaveHistories told faults shape now 0 shelves (new ∷ [])
  one_grows shape run now [] old new f have = absurd have
  one_grows shape run now (shelf ∷ []) old new f have = (f shelf have.0, tt)
  one_grows shape run now (shelf ∷ other ∷ shelves) old new f have = absurd have.1

  -- what stands for a history in order is sound
  sound_history : (tenant : TenantView K) (h : List Entry) → Stands told faults tenant h → InOrder tenant.terms first_past h → IsSoundHistory tenant.terms h
  sound_history tenant h stands order = record {
    in_order = order;
    moved = stands.moved;
    counted = (count_in faults tenant, stands.counts);
    caused = stands.caused;
    answered = stands.answered;
  }

  -- the state after one more entry, where it is known what the entry's event is
  state-push : (core : CoreView K) (run : List CoreEntry) (e : CoreEntry) (turn : Turn) → turn_of core.shape (state_in core run) e.event ≡ turn → state_in core (run ++ e ∷ []) ≡ after_turn (state_in core run) e turn
  state-push core run e turn is = core_of-push core.shape (first_core core.shape) run e ∙ ap (after_turn (state_in core run) e) is

  run-push : (core : CoreView K) (run : List CoreEntry) (e : CoreEntry) (turn : Turn) → IsCoreRun core.shape run → turn_of core.shape (state_in core run) e.event ≡ turn → IsAnswered e turn
      → IsSoundCore core.shape (after_turn (state_in core run) e turn) → IsCoreRun core.shape (run ++ e ∷ [])
  run-push core run e turn is_run is answered sound =
      IsRunFrom-push core.shape (first_core core.shape) run e is_run (subst (IsAnswered e) (sym is) answered) (subst (λ turn. IsSoundCore core.shape (after_turn (state_in core run) e turn)) (sym is) sound)

  -- the entry of a user's own event, with the counts of the user's store
  entry_own : (old new : CoreView K) (event : CoreEvent) (outcome : Outcome) (own : Event) → is_own old event ≡ true
      → own_entry own (core_entry faults event outcome old new) ≡ entry_from own outcome new.moves (count_in faults old.tenant) (count_in faults new.tenant)
  entry_own old new event outcome own is =
      ap (λ b. record { event = own; outcome = outcome; freed = new.moves.freed; placed = new.moves.placed; before = count_at faults b old; after = count_at faults b new }) is

  -- an event of the user's own
  own_grows : (shelves : List K) (old new : CoreView K) (run : List CoreEntry) (e : CoreEntry) (event : Event) (outcome : Outcome) (hand : List SliceView) → StandsForRun told faults shelves old run
      → turn_of old.shape (state_in old run) e.event ≡ Own 0 event → hand ≡ sized old.shape.slice (hand_after (state_in old run).hand event)
      → own_entry event e ≡ entry_from event outcome new.moves (count_in faults old.tenant) (count_in faults new.tenant) → GrowsTenant told faults old event outcome new
      → StandsForRun told faults shelves (record { shape = old.shape; pool = old.pool; hand = hand; tenant = new.tenant; moves = new.moves }) (run ++ e ∷ [])
  own_grows shelves old new run e event outcome hand stands turn is_hand entry grows =
      let shape = old.shape in
      let t = terms_of 0 shape in
      let s = state_in old run in
      let h = history_of shape run 0 in
      let last = own_entry event e in
      let own : IsOwnOf shape s 0 event = own_of_turn shape s e.event 0 event turn in
      let fresh : AreFresh shape s = fresh_after shape run stands.is_run in
      let sound = sound_after shape (first_core shape) run stands.is_run in
      let one = one_stands shape run shelves old.tenant stands.tenants in
      let grew : Stands told faults new.tenant (h ++ last ∷ []) = subst (λ (x : Entry). Stands told faults new.tenant (h ++ x ∷ [])) (sym entry) (grows.stands h one.1) in
      let terms : new.tenant.terms ≡ t = grows.terms ∙ one.0 in
      let order : InOrder t first_past (h ++ last ∷ []) = InOrder-push t first_past h last (sound.users 0).in_order (own_in_order shape s 0 event own sound fresh) in
      let sound_now : IsSoundHistory t (h ++ last ∷ []) =
      subst (λ (u : Terms). IsSoundHistory u (h ++ last ∷ [])) terms (sound_history new.tenant (h ++ last ∷ []) grew (subst (λ (u : Terms). InOrder u first_past (h ++ last ∷ [])) (sym terms) order)) in
      let now : state_in old (run ++ e ∷ []) ≡ after_turn s e (Own 0 event) = state-push old run e (Own 0 event) turn in
      let there : 0 < length s.histories = omega (arith, own.there, fresh.users) in
      let history : history_of shape (run ++ e ∷ []) 0 ≡ h ++ last ∷ [] = ap (λ (c : CoreState). history_at c 0) now ∙ grown_is s 0 event e there in
      let before : last.before ≡ count_in faults old.tenant = ap (λ (x : Entry). x.before) entry in
      let after : last.after ≡ count_in faults new.tenant = ap (λ (x : Entry). x.after) entry in
      let told_of = told old.tenant.home.shelf in
      let u = old.tenant.terms in
      let before_now : InOrder u first_past h = subst (λ (u : Terms). InOrder u first_past h) (sym one.0) (sound.users 0).in_order in
      let at = (past_of u first_past h).state in
      let answered : last.outcome ≡ outcome = ap (λ (x : Entry). x.outcome) entry in
      let clean : IsTrue (tells told_of) → IsUndamaged last.outcome =
      λ is. subst IsUndamaged (sym answered) (grows.telling is at (one.1.lies (or_left (tells told_of) told_of.void is) before_now)) in
      let excuse : IsTrue (told_of.void) → NeedsExcuse t (past_of t first_past h).state event last.outcome =
      λ is. subst (NeedsExcuse t (past_of t first_past h).state event) (sym answered)
      (subst (λ (u : Terms). NeedsExcuse u (past_of u first_past h).state event outcome) one.0
      (excuse_at old.tenant event outcome at grows.void is (one.1.sits before_now) (one.1.lies (or_right (tells told_of) told_of.void is) before_now))) in
      record {
        is_run = run-push old run e (Own 0 event) stands.is_run turn tt (own_sound shape s 0 event e own sound fresh sound_now);
        pool = stands.pool ∙ ap (λ (c : CoreState). sized shape.slice c.pool) (sym now);
        hand = is_hand ∙ ap (λ (c : CoreState). sized shape.slice c.hand) (sym now);
        tenants = one_grows shape run (run ++ e ∷ []) shelves old.tenant new.tenant
            (λ shelf has. subst (HasHistory told faults t shelf new.tenant) (sym history) (history_grows t shelf old.tenant new.tenant h last has grows.terms grew grows.store.kind grows.store.counts before after clean excuse)) stands.tenants;
      }

  -- the histories of a run that grows by no user's own event
  others_stay : (shelves : List K) (old : CoreView K) (run : List CoreEntry) (e : CoreEntry) → history_of old.shape (run ++ e ∷ []) 0 ≡ history_of old.shape run 0
      → HaveHistories told faults old.shape run 0 shelves (old.tenant ∷ []) → HaveHistories told faults old.shape (run ++ e ∷ []) 0 shelves (old.tenant ∷ [])
  others_stay shelves old run e same have =
      one_grows old.shape run (run ++ e ∷ []) shelves old.tenant old.tenant (λ shelf has. subst (HasHistory told faults (terms_of 0 old.shape) shelf old.tenant) (sym same) has) have

  -- an event that the core answers and that moves no slice
  answered_grows : (shelves : List K) (old : CoreView K) (run : List CoreEntry) (e : CoreEntry) (outcome : Outcome) → StandsForRun told faults shelves old run
      → turn_of old.shape (state_in old run) e.event ≡ Answered outcome → IsAnswered e (Answered outcome) → after_turn (state_in old run) e (Answered outcome) ≡ state_in old run
      → StandsForRun told faults shelves old (run ++ e ∷ [])
  answered_grows shelves old run e outcome stands turn answered same =
      let shape = old.shape in
      let s = state_in old run in
      let sound : IsSoundCore shape (after_turn s e (Answered outcome)) = subst (IsSoundCore shape) (sym same) (sound_after shape (first_core shape) run stands.is_run) in
      let now : state_in old (run ++ e ∷ []) ≡ s = state-push old run e (Answered outcome) turn ∙ same in
      record {
        is_run = run-push old run e (Answered outcome) stands.is_run turn answered sound;
        pool = stands.pool ∙ ap (λ (c : CoreState). sized shape.slice c.pool) (sym now);
        hand = stands.hand ∙ ap (λ (c : CoreState). sized shape.slice c.hand) (sym now);
        tenants = others_stay shelves old run e (ap (λ (c : CoreState). history_at c 0) now) stands.tenants;
      }

  -- a draw of a slice
  drawn_grows : (shelves : List K) (old : CoreView K) (run : List CoreEntry) (e : CoreEntry) (slice : ℕ × ℕ) (rest : List (ℕ × ℕ)) → StandsForRun told faults shelves old run → (state_in old run).pool ≡ slice ∷ rest
      → turn_of old.shape (state_in old run) e.event ≡ Answered (Slice slice.0 slice.1) → IsAnswered e (Answered (Slice slice.0 slice.1))
      → StandsForRun told faults shelves (record { shape = old.shape; pool = sized old.shape.slice rest; hand = record { id = slice.0; size = old.shape.slice; number = slice.1 } ∷ old.hand; tenant = old.tenant; moves = old.moves })
      (run ++ e ∷ [])
  drawn_grows shelves old run e slice rest stands has turn answered =
      let shape = old.shape in
      let s = state_in old run in
      let sound : IsSoundCore shape (after_turn s e (Answered (Slice slice.0 slice.1))) =
      drawn_sound shape s slice.0 slice.1 (drawn_of_turn shape s e.event slice.0 slice.1 turn) (sound_after shape (first_core shape) run stands.is_run) in
      let now : state_in old (run ++ e ∷ []) ≡ after_turn s e (Answered (Slice slice.0 slice.1)) = state-push old run e (Answered (Slice slice.0 slice.1)) turn in
      record {
        is_run = run-push old run e (Answered (Slice slice.0 slice.1)) stands.is_run turn answered sound;
        pool = ap (λ l. sized shape.slice (drop 1 l)) (sym has) ∙ ap (λ (c : CoreState). sized shape.slice c.pool) (sym now);
        hand = ap (λ (l : List SliceView). record { id = slice.0; size = shape.slice; number = slice.1 } ∷ l) stands.hand ∙ ap (λ (c : CoreState). sized shape.slice c.hand) (sym now);
        tenants = others_stay shelves old run e (ap (λ (c : CoreState). history_at c 0) now) stands.tenants;
      }

  still_answered : (core : CoreView K) (event : CoreEvent) (outcome : Outcome) → IsStill core → is_own core event ≡ false → IsAnswered (core_entry faults event outcome core core) (Answered outcome)
  still_answered core event outcome still none =
      (refl, ap (λ (m : MovesView). m.freed) still, ap (λ (m : MovesView). m.placed) still, ap (λ b. count_at faults b core) none, ap (λ b. count_at faults b core) none)

  pub draw_grows : (shelves : List K) (old new : CoreView K) (outcome : Outcome) (run : List CoreEntry) → IsStill old → ◌≡◌ {A = CoreView K × Outcome} (new, outcome) (draw_of old old.pool) → StandsForRun told faults shelves old run
      → StandsForRun told faults shelves new (run ++ core_entry faults Draw outcome old new ∷ [])
  draw_grows shelves old new outcome run still is stands =
      subst (λ (both : CoreView K × Outcome). StandsForRun told faults shelves both.0 (run ++ core_entry faults Draw both.1 old both.0 ∷ [])) (sym (is ∙ ap (draw_of old) stands.pool)) (by (state_in old run).pool refl)
    where
      by : (pool : List (ℕ × ℕ)) → (state_in old run).pool ≡ pool
          → let both = draw_of old (sized old.shape.slice pool) in StandsForRun told faults shelves both.0 (run ++ core_entry faults Draw both.1 old both.0 ∷ [])
      by [] has = answered_grows shelves old run (core_entry faults Draw PoolEmpty old old) PoolEmpty stands (ap draw_from has) (still_answered old Draw PoolEmpty still refl) refl
      by (slice ∷ rest) has = drawn_grows shelves old run (core_entry faults Draw (Slice slice.0 slice.1) old old) slice rest stands has (ap draw_from has) (still_answered old Draw (Slice slice.0 slice.1) still refl)

  pub absent_grows : (shelves : List K) (old : CoreView K) (event : CoreEvent) (user : ℕ) (turn : Turn) (run : List CoreEntry) → IsStill old → turn_of old.shape (state_in old run) event ≡ for_user old.shape user turn
      → old.shape.users ≤ user → is_own old event ≡ false → StandsForRun told faults shelves old run → StandsForRun told faults shelves old (run ++ core_entry faults event (Replied (AbsentUser old.shape.users)) old old ∷ [])
  absent_grows shelves old event user turn run still is none not_own stands =
      answered_grows shelves old run (core_entry faults event (Replied (AbsentUser old.shape.users)) old old) (Replied (AbsentUser old.shape.users)) stands (is ∙ for-absent old.shape user turn none)
      (still_answered old event (Replied (AbsentUser old.shape.users)) still not_own) refl

  pub ask_grows : (shelves : List K) (old new : CoreView K) (user : ℕ) (request : Request) (outcome : Outcome) (run : List CoreEntry) → old.shape.users ≡ 1 → user < old.shape.users
      → GrowsTenant told faults old (Ask 0 request) outcome new → new ≡ record old { tenant = new.tenant; moves = new.moves } → StandsForRun told faults shelves old run
      → StandsForRun told faults shelves new (run ++ core_entry faults (Asking user request) outcome old new ∷ [])
  ask_grows shelves old new user request outcome run one there serves rest stands =
      let zeroth : user ≡ 0 = there_is_one old.shape.users user one there in
      let e : CoreEntry = core_entry faults (Asking user request) outcome old new in
      subst (λ (core : CoreView K). StandsForRun told faults shelves core (run ++ e ∷ [])) (sym rest)
      (own_grows shelves old new run e (Ask 0 request) outcome old.hand stands (for-there old.shape user (Own user (Ask 0 request)) there ∙ ap (λ u. Own u (Ask 0 request)) zeroth) stands.hand
      (entry_own old new (Asking user request) outcome (Ask 0 request) (lt-ltb user old.shape.users there)) serves)

  -- a slice on top of the hand fits in the tenant
  fits_tenant : (shelves : List K) (old : CoreView K) (run : List CoreEntry) (event : Event) → StandsForRun told faults shelves old run → IsOwnOf old.shape (state_in old run) 0 event
      → (v : State) × Sits v old.tenant × IsTrue (fits old.tenant.terms v event)
  fits_tenant shelves old run event stands own =
      let shape = old.shape in
      let t = terms_of 0 shape in
      let s = state_in old run in
      let h = history_of shape run 0 in
      let sound = sound_after shape (first_core shape) run stands.is_run in
      let fresh : AreFresh shape s = fresh_after shape run stands.is_run in
      let one = one_stands shape run shelves old.tenant stands.tenants in
      let p = past_of t first_past h in
      let both : InOrder t first_past h × IsTrue (fits t p.state event) =
      ((sound.users 0).in_order, first_true (fits t p.state event) (is_new p.named event) (own_in_order shape s 0 event own sound fresh)) in
      let here : InOrder old.tenant.terms first_past h × IsTrue (fits old.tenant.terms (past_of old.tenant.terms first_past h).state event) =
      subst (λ (u : Terms). InOrder u first_past h × IsTrue (fits u (past_of u first_past h).state event)) (sym one.0) both in
      ((past_of old.tenant.terms first_past h).state, one.1.sits here.0, here.1)

  pub grant_grows : (shelves : List K) (old new : CoreView K) (user : ℕ) (outcome : Outcome) (run : List CoreEntry) → IsStill old → old.shape.users ≡ 1 → user < old.shape.users
      → (old.hand ≡ [] → outcome ≡ HandEmpty) → (old.hand ≡ [] → new ≡ old) → ((slice : SliceView) (hand : List SliceView) → old.hand ≡ slice ∷ hand → Gives told faults old slice hand outcome new)
      → StandsForRun told faults shelves old run → StandsForRun told faults shelves new (run ++ core_entry faults (Granting user) outcome old new ∷ [])
  grant_grows shelves old new user outcome run still one there empty kept given stands = by (state_in old run).hand refl
    where
      -- the grant is the user's own exactly where a slice is in hand
      own_by : (hand : List SliceView) → old.hand ≡ hand → is_own old (Granting user) ≡ not (is_empty hand)
      own_by hand has = ap (λ b. b && not (is_empty old.hand)) (lt-ltb user old.shape.users there) ∙ ap (λ (l : List SliceView). not (is_empty l)) has

      by : (hand : List (ℕ × ℕ)) → (state_in old run).hand ≡ hand → StandsForRun told faults shelves new (run ++ core_entry faults (Granting user) outcome old new ∷ [])
      by [] has =
          let none : old.hand ≡ [] = stands.hand ∙ ap (sized old.shape.slice) has in
          subst (λ (core : CoreView K). StandsForRun told faults shelves core (run ++ core_entry faults (Granting user) outcome old core ∷ [])) (sym (kept none))
          (subst (λ (o : Outcome). StandsForRun told faults shelves old (run ++ core_entry faults (Granting user) o old old ∷ [])) (sym (empty none))
          (answered_grows shelves old run (core_entry faults (Granting user) HandEmpty old old) HandEmpty stands
          (for-there old.shape user (grant_from old.shape user (state_in old run).hand) there ∙ ap (grant_from old.shape user) has) (still_answered old (Granting user) HandEmpty still (own_by [] none)) refl))
      by (slice ∷ rest) has =
          let zeroth : user ≡ 0 = there_is_one old.shape.users user one there in
          let event : Event = Grant slice.0 slice.1 old.shape.slice in
          let e : CoreEntry = core_entry faults (Granting user) outcome old new in
          let turn : turn_of old.shape (state_in old run) (Granting user) ≡ Own 0 event =
          for-there old.shape user (grant_from old.shape user (state_in old run).hand) there ∙ ap (grant_from old.shape user) has ∙ ap (λ u. Own u event) zeroth in
          let top : SliceView = record { id = slice.0; size = old.shape.slice; number = slice.1 } in
          let in_hand : old.hand ≡ top ∷ sized old.shape.slice rest = stands.hand ∙ ap (sized old.shape.slice) has in
          let gives = given top (sized old.shape.slice rest) in_hand in
          let fit = fits_tenant shelves old run event stands (own_of_turn old.shape (state_in old run) (Granting user) 0 event turn) in
          subst (λ (core : CoreView K). StandsForRun told faults shelves core (run ++ e ∷ [])) (sym gives.rest)
          (own_grows shelves old new run e event outcome new.hand stands turn (gives.kept fit.0 fit.1 fit.2 ∙ ap (λ l. sized old.shape.slice (drop 1 l)) (sym has))
          (entry_own old new (Granting user) outcome event (own_by (top ∷ sized old.shape.slice rest) in_hand)) gives.serves)

  -- a user of the run that a core stands for has a sound history, which is legal where the store is sure
  legal_for : (shelves : List K) (core : CoreView K) (run : List CoreEntry) → core.shape.users ≡ 1 → StandsForRun told faults shelves core run → (user : ℕ) → user < core.shape.users
      → IsLegalFor (is_sure (told core.tenant.home.shelf)) core.shape run user
  legal_for shelves core run one stands user there =
      let sound = sound_after core.shape (first_core core.shape) run stands.is_run in
      let own = history_of-entries core.shape run user in
      let tenant = one_stands core.shape run shelves core.tenant stands.tenants in
      let legal : IsTrue (is_sure (told core.tenant.home.shelf)) → IsLegalHistory (terms_of 0 core.shape) first_past (history_of core.shape run 0) =
      λ sure. subst (λ (u : Terms). IsLegalHistory u first_past (history_of core.shape run 0)) tenant.0 (tenant.1.legal sure) in
      record {
        sound = subst (IsSoundHistory (terms_of user core.shape)) own (sound.users user);
        legal = λ sure. subst (IsLegalHistory (terms_of user core.shape) first_past) own
            (subst (λ u. IsLegalHistory (terms_of u core.shape) first_past (history_of core.shape run u)) (sym (there_is_one core.shape.users user one there)) (legal sure));
      }

  pub legal_after : (shelves : List K) (now : CoreView K) (shape : Shape) → now.shape ≡ shape → shape.users ≡ 1 → (run : List CoreEntry) (e : CoreEntry) → StandsForRun told faults shelves now (run ++ e ∷ [])
      → (user : ℕ) → user < shape.users → IsLegalFor (is_sure (told now.tenant.home.shelf)) shape (run ++ e ∷ []) user
  legal_after shelves now shape same one run e stands user there =
      subst (λ (s : Shape). IsLegalFor (is_sure (told now.tenant.home.shelf)) s (run ++ e ∷ []) user) same
      (legal_for shelves now (run ++ e ∷ []) (ap (λ (s : Shape). s.users) same ∙ one) stands user (subst (λ (s : Shape). user < s.users) (sym same) there))

  -- a core as it is made
  pub first_stands : (shelves : List K) (shelf : K) (core : CoreView K) (shape : Shape) → shelves ≡ shelf ∷ [] → core.shape ≡ shape → core.pool ≡ sized shape.slice (fresh_pool (slices_of shape)) → core.hand ≡ []
      → core.tenant.terms ≡ terms_of 0 shape → core.tenant.home.shelf ≡ shelf → Stands told faults core.tenant [] → StandsForRun told faults shelves core []
  first_stands shelves shelf core shape only is_shape pool hand terms same stands =
      let none : history_of core.shape [] 0 ≡ [] = first_history core.shape 0 in
      let has : HasHistory told faults (terms_of 0 core.shape) shelf core.tenant [] = record {
        terms = terms ∙ ap (terms_of 0) (sym is_shape);
        stands = stands;
        kind = record { tells = ap (λ (k : K). tells (told k)) same; void = ap (λ (k : K). (told k).void) same };
        follows = subst (λ (k : K). Follows (faults shelf) (faults k)) (sym same) (follows_itself (faults shelf));
        counts = ap (λ (k : K). (faults k).count) (sym same);
        few = let as_before = ap (λ (k : K). (faults k).count) same in omega (arith, as_before);
        undamaged = λ is. All-nil (λ (e : Entry). IsUndamaged e.outcome);
        excused = λ is. tt;
      } in
      record {
        is_run = first_sound core.shape;
        pool = pool ∙ ap (λ (s : Shape). sized s.slice (fresh_pool (slices_of s))) (sym is_shape);
        hand = hand;
        tenants = subst (λ (l : List K). HaveHistories told faults core.shape [] 0 l (core.tenant ∷ [])) (sym only)
            (subst (λ (h : List Entry). HasHistory told faults (terms_of 0 core.shape) shelf core.tenant h × Unit {0}) (sym none) (has, tt));
      }
