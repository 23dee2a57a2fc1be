-- What contracts see of a core, and which run it stands for.
use Rattle.std.specs.Prelude.{◌≡◌, ℕ, ◌+◌, ◌-◌, ◌^◌, ◌≤◌, nat_lt, min, count_by, ◌&&◌, not, Bool, true, false, List, [], ◌∷◌, ◌++◌, map, All, if◌then◌else◌, IsTrue, IsNone}
use Rattle.far_io.specs.Faults.{Faults, Follows}
use Rattle.karma_rule.specs.declared.shape.Shape.{Shape}
use Rattle.slice_seq.specs.Slice.{SliceView}
use Rattle.shelf_link.specs.Told.{Told, IsSameKind, tells, is_sure}
use Rattle.far_words.specs.Moves.{MovesView}
use Rattle.far_asks.specs.declared.request.Outcome.{Outcome}
use Rattle.far_asks.specs.declared.request.Outcome.TheVariants.{Reply as Replied, Slice, PoolEmpty}
use Rattle.far_asks.specs.declared.request.Reply.TheVariants.{StoreFault}
use Rattle.far_history.specs.Entries.{Event, Ask, Grant, Entry}
use Rattle.far_history.specs.Answers.{refusal}
use Rattle.far_history.specs.Histories.{Terms, State, Past, past_after, first_past, fits}
use Rattle.far_history.specs.Legal.{IsLegalHistory}
use Rattle.tenant_world.specs.Views.{TenantView, count_in, terms_of, entry_from, hands_back}
use Rattle.tenant_world.specs.Standing.{Sits, Stands}
use Rattle.tenant_world.specs.Telling.{IsUndamaged, NeverDamaged, NeedsStore, IsExcused, ExcusesVoid}
use Rattle.far_core.specs.declared.service.CoreEvent.{CoreEvent}
use Rattle.far_core.specs.declared.service.CoreEvent.TheVariants.{Ask as Asking, Draw, Grant as Granting}
use Rattle.far_core.specs.Runs.{CoreEntry, first_core, core_of, history_of, IsCoreRun}

pub record CoreView (K : Type 0) : Type 0 where
  pub shape : Shape
  -- the free slices, lowest first
  pub pool : List SliceView
  -- the slices in hand, the one that came last first
  pub hand : List SliceView
  pub tenant : TenantView K
  -- the moves of the last event
  pub moves : MovesView

-- slices of a size
abbrev pub sized : ℕ → List (ℕ × ℕ) → List SliceView
sized size slices = map (λ e. record { id = e.0; size = size; number = e.1 }) slices

abbrev pub is_empty : List SliceView → Bool
is_empty [] = true
is_empty (slice ∷ slices) = false

-- whether an event is a user's own: there is the user, and for a grant a slice in hand
abbrev pub is_own : {K : Type 0} → CoreView K → CoreEvent → Bool
is_own core (Asking user request) = nat_lt user core.shape.users
is_own core Draw = false
is_own core (Granting user) = nat_lt user core.shape.users && not (is_empty core.hand)

-- what the user's store counted, where the event is the user's own
abbrev pub count_at : {K : Type 0} → (K → Faults) → Bool → CoreView K → ℕ
count_at faults own core = if own then count_in faults core.tenant else 0

-- the entry of an event that the core answered
abbrev pub core_entry : {K : Type 0} → (K → Faults) → CoreEvent → Outcome → CoreView K → CoreView K → CoreEntry
core_entry faults event outcome old now = record {
  event = event;
  outcome = outcome;
  freed = now.moves.freed;
  placed = now.moves.placed;
  before = count_at faults (is_own old event) old;
  after = count_at faults (is_own old event) now;
}

-- the counts of faults go from one to the other, each entry's from where the one before it ended, and none falls
abbrev pub CountsGo : ℕ → List Entry → ℕ → Type 0
CountsGo count [] now = count ≡ now
CountsGo count (e ∷ h) now = (e.before ≡ count) × (e.before ≤ e.after) × CountsGo e.after h now

abbrev pub is_store_fault : Outcome → Bool
is_store_fault (Replied StoreFault) = true
is_store_fault outcome = false

-- how many events were answered that the store failed
abbrev pub store_faults : List Entry → ℕ
store_faults h = count_by (λ e. is_store_fault e.outcome) h

-- no event was answered that a parked block is damaged
abbrev pub AreUndamaged : List Entry → Type 0
AreUndamaged h = All (λ e. IsUndamaged e.outcome) h

-- a request that can't be done without the store is excused, unless plain names and contents refuse it
abbrev pub NeedsExcuse : Terms → State → Event → Outcome → Type 0
NeedsExcuse t s (Ask moment request) outcome =
    IsNone (refusal t.size s.world request) → NeedsStore t s request → IsExcused outcome
NeedsExcuse t s event outcome = Unit {0}

-- and so is each of a history, in the state that the entries before it make
abbrev pub AreExcused : Terms → Past → List Entry → Type 0
AreExcused t p [] = Unit {0}
AreExcused t p (e ∷ h) = NeedsExcuse t p.state e.event e.outcome × AreExcused t (past_after t p e) h

-- A tenant over the store that was handed in has this history: it stands for it, over a store of the same kind, whose
-- counts of faults went from those of the store that was handed in to its own by the history's entries. So no more events
-- were answered that the store failed than its count rose by, which stands still at the greatest u64. Where the store that
-- was handed in tells its content nothing is answered as damaged, and where it is void nothing is done that needs the store.
pub record HasHistory {K : Type 0} (told : K → Told) (faults : K → Faults) (t : Terms) (shelf : K) (tenant : TenantView K)
    (h : List Entry) : Type 0 where
  pub terms : tenant.terms ≡ t
  pub stands : Stands told faults tenant h
  pub kind : IsSameKind (told shelf) (told tenant.home.shelf)
  pub follows : Follows (faults shelf) (faults tenant.home.shelf)
  pub counts : CountsGo (faults shelf).count h (count_in faults tenant)
  pub few : min ((faults shelf).count + store_faults h) (2 ^ 64 - 1) ≤ count_in faults tenant
  pub undamaged : IsTrue (tells (told shelf)) → AreUndamaged h
  pub excused : IsTrue ((told shelf).void) → AreExcused t first_past h

-- there is a tenant over each of the stores that were handed in, and they have the histories of the users from this one on
abbrev pub HaveHistories : {K : Type 0} → (K → Told) → (K → Faults) → Shape → List CoreEntry → ℕ → List K → List (TenantView K) → Type 0
HaveHistories told faults shape run user [] [] = Unit {0}
HaveHistories told faults shape run user (shelf ∷ shelves) (tenant ∷ tenants) =
    HasHistory told faults (terms_of user shape) shelf tenant (history_of shape run user)
    × HaveHistories told faults shape run (user + 1) shelves tenants
HaveHistories told faults shape run user shelves tenants = ⊥

-- where a store that was handed in is sure, which is where it tells its content or that it is void, its user's history is
-- legal: each answer is the one that plain names and contents give, or is excused
abbrev pub AreLegal : {K : Type 0} → (K → Told) → Shape → List CoreEntry → ℕ → List K → Type 0
AreLegal told shape run user [] = Unit {0}
AreLegal told shape run user (shelf ∷ shelves) =
    (IsTrue (is_sure (told shelf)) → IsLegalHistory (terms_of user shape) first_past (history_of shape run user))
    × AreLegal told shape run (user + 1) shelves

-- the run is one of the core's events over the stores that were handed in, the core's slices are the run's, and its tenants
-- have the users' histories
pub record StandsForRun {K : Type 0} (told : K → Told) (faults : K → Faults) (shelves : List K) (core : CoreView K)
    (run : List CoreEntry) : Type 0 where
  pub is_run : IsCoreRun core.shape run
  pub pool : core.pool ≡ sized core.shape.slice (core_of core.shape (first_core core.shape) run).pool
  pub hand : core.hand ≡ sized core.shape.slice (core_of core.shape (first_core core.shape) run).hand
  pub tenants : HaveHistories told faults core.shape run 0 shelves (core.tenant ∷ [])

-- whatever run one core stands for, the other stands for that run and these entries after it
abbrev pub GrowsBy : {K : Type 0} → (K → Told) → (K → Faults) → CoreView K → List CoreEntry → CoreView K → Type 0
GrowsBy told faults old entries new =
    (shelves : List _) (run : List CoreEntry) → StandsForRun told faults shelves old run
    → StandsForRun told faults shelves new (run ++ entries)

-- a draw moves the lowest slice of the pool, if there is one, on top of the hand
abbrev pub draw_of : {K : Type 0} → CoreView K → List SliceView → CoreView K × Outcome
draw_of core [] = (core, PoolEmpty)
draw_of core (slice ∷ pool) = (record core { pool = pool; hand = slice ∷ core.hand }, Slice slice.id slice.number)

-- the user's store is of the same kind as before, and its counts of faults follow those before
pub record KeepsStore {K : Type 0} (told : K → Told) (faults : K → Faults) (old new : CoreView K) : Type 0 where
  pub kind : IsSameKind (told old.tenant.home.shelf) (told new.tenant.home.shelf)
  pub counts : Follows (faults old.tenant.home.shelf) (faults new.tenant.home.shelf)

-- the tenant's history grows by one event of its own
pub record GrowsTenant {K : Type 0} (told : K → Told) (faults : K → Faults) (old : CoreView K) (event : Event)
    (outcome : Outcome) (new : CoreView K) : Type 0 where
  pub terms : new.tenant.terms ≡ old.tenant.terms
  pub stands : (h : List Entry) → Stands told faults old.tenant h → Stands told faults new.tenant
      (h ++ entry_from event outcome new.moves (count_in faults old.tenant) (count_in faults new.tenant) ∷ [])
  pub store : KeepsStore told faults old new
  pub telling : NeverDamaged told old.tenant outcome
  pub void : ExcusesVoid told old.tenant event outcome

-- the slice on top of the hand goes to the tenant. One that the tenant hands back stays in the hand, and none that fits
-- is handed back
pub record Gives {K : Type 0} (told : K → Told) (faults : K → Faults) (old : CoreView K) (slice : SliceView)
    (hand : List SliceView) (outcome : Outcome) (new : CoreView K) : Type 0 where
  pub serves : GrowsTenant told faults old (Grant slice.id slice.number slice.size) outcome new
  pub back : new.hand ≡ (if hands_back old.tenant slice then slice ∷ hand else hand)
  pub kept : (s : State) → Sits s old.tenant
      → IsTrue (fits old.tenant.terms s (Grant slice.id slice.number slice.size)) → new.hand ≡ hand
  pub rest : new ≡ record old { hand = new.hand; tenant = new.tenant; moves = new.moves }
