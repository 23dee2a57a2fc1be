-- What the events of one thread do to the free slices, to those in hand and to each user's history.
use Rattle.std.specs.Prelude.{◌≡◌, ℕ, ◌+◌, ◌*◌, ◌==◌, nat_lt, if◌then◌else◌, Bool, IsTrue, List, [], ◌∷◌, ◌++◌, map, drop, replicate, All, sum_by, slice_index_or, slice_set}
use Rattle.std.specs.List.{range_with_len}
use Rattle.karma_rule.specs.declared.shape.Shape.{Shape}
use Rattle.far_asks.specs.declared.request.Reply.TheVariants.{AbsentUser}
use Rattle.far_asks.specs.declared.request.Outcome.{Outcome}
use Rattle.far_asks.specs.declared.request.Outcome.TheVariants.{Reply as Replied, Slice, HandEmpty, PoolEmpty}
use Rattle.far_words.specs.declared.moves.PlacedRow.{PlacedRow}
use Rattle.slice_seq.specs.Purses.{Purse}
use Rattle.far_history.specs.Entries.{Event, Ask, Grant, Entry}
use Rattle.far_history.specs.Histories.{Terms, past_of, first_past, InOrder, count_in}
use Rattle.far_history.specs.Legal.{IsLegalHistory, IsMovedHistory}
use Rattle.far_history.specs.Standing.{FitsFrame, IsCaused, AreCounts}
use Rattle.tenant_world.specs.Views.{terms_of}
use Rattle.far_core.specs.declared.service.CoreEvent.{CoreEvent}
use Rattle.far_core.specs.declared.service.CoreEvent.TheVariants.{Ask as Asking, Draw, Grant as Granting}

-- one event of a run, with its outcome and its moves
pub record CoreEntry : Type 0 where
  pub event : CoreEvent
  pub outcome : Outcome
  -- the slices that lost their block, each with the number under which it was used
  pub freed : List (ℕ × ℕ)
  -- the blocks that came into a slice
  pub placed : List PlacedRow
  -- the count of faults of the user's store before the event and after it, and 0 where the event isn't a user's own
  pub before : ℕ
  pub after : ℕ

-- where the slices are, and what each user's history is
pub record CoreState : Type 0 where
  -- the free slices, lowest first, each with its number
  pub pool : List (ℕ × ℕ)
  -- the slices in hand, the one that came last first
  pub hand : List (ℕ × ℕ)
  -- the entries of each user's own events, oldest first
  pub histories : List (List Entry)

-- how many slices there are
abbrev pub slices_of : Shape → ℕ
slices_of shape = shape.users * shape.share.fair

-- so many slices, each under number 0
abbrev pub fresh_pool : ℕ → List (ℕ × ℕ)
fresh_pool count = map (λ id. (id, 0)) (range_with_len 0 count)

-- at first every slice is free
abbrev pub first_core : Shape → CoreState
first_core shape = record {
  pool = fresh_pool (slices_of shape);
  hand = [];
  histories = replicate shape.users [];
}

-- an event is one of a user's own, or the core answers it by itself
pub data Turn : Type 0 where
  Own : (user : ℕ) (event : Event) → Turn
  Answered : (outcome : Outcome) → Turn

-- a draw takes the lowest slice of the pool
abbrev pub draw_from : List (ℕ × ℕ) → Turn
draw_from [] = Answered PoolEmpty
draw_from (slice ∷ pool) = Answered (Slice slice.0 slice.1)

-- a grant gives the slice that came last into the hand
abbrev pub grant_from : Shape → ℕ → List (ℕ × ℕ) → Turn
grant_from shape user [] = Answered HandEmpty
grant_from shape user (slice ∷ hand) = Own user (Grant slice.0 slice.1 shape.slice)

-- whether there is the user comes first
abbrev pub for_user : Shape → ℕ → Turn → Turn
for_user shape user turn = if nat_lt user shape.users then turn else Answered (Replied (AbsentUser shape.users))

-- requests come at moment 0
abbrev pub turn_of : Shape → CoreState → CoreEvent → Turn
turn_of shape s Draw = draw_from s.pool
turn_of shape s (Granting user) = for_user shape user (grant_from shape user s.hand)
turn_of shape s (Asking user request) = for_user shape user (Own user (Ask 0 request))

-- the entry that a user's own event adds to its history
abbrev pub own_entry : Event → CoreEntry → Entry
own_entry event e = record {
  event = event;
  outcome = e.outcome;
  freed = e.freed;
  placed = e.placed;
  before = e.before;
  after = e.after;
}

abbrev pub with_entry : List (List Entry) → ℕ → Entry → List (List Entry)
with_entry histories user e = slice_set histories user (slice_index_or histories user [] ++ e ∷ [])

-- a granted slice leaves the hand
abbrev pub hand_after : List (ℕ × ℕ) → Event → List (ℕ × ℕ)
hand_after hand (Grant slice number size) = drop 1 hand
hand_after hand (Ask moment request) = hand

-- and a drawn one moves from the pool into the hand
abbrev pub after_turn : CoreState → CoreEntry → Turn → CoreState
after_turn s e (Own user event) = record {
  pool = s.pool;
  hand = hand_after s.hand event;
  histories = with_entry s.histories user (own_entry event e);
}
after_turn s e (Answered (Slice slice number)) =
    record { pool = drop 1 s.pool; hand = (slice, number) ∷ s.hand; histories = s.histories }
after_turn s e (Answered outcome) = s

abbrev pub core_after : Shape → CoreState → CoreEntry → CoreState
core_after shape s e = after_turn s e (turn_of shape s e.event)

-- the state after a run
abbrev pub core_of : Shape → CoreState → List CoreEntry → CoreState
core_of shape s [] = s
core_of shape s (e ∷ run) = core_of shape (core_after shape s e) run

abbrev pub history_at : CoreState → ℕ → List Entry
history_at s user = slice_index_or s.histories user []

abbrev pub purse_of : Shape → CoreState → ℕ → Purse
purse_of shape s user = (past_of (terms_of user shape) first_past (history_at s user)).state.purse

abbrev pub users_of : Shape → List ℕ
users_of shape = range_with_len 0 shape.users

-- how often a slice stands in the pool, the hand and all purses
abbrev pub count_of_all : Shape → CoreState → ℕ → ℕ
count_of_all shape s id =
    count_in id s.pool + count_in id s.hand + sum_by (λ user. count_in id (purse_of shape s user)) (users_of shape)

-- each slice stands in one place, once, and there are no others
abbrev pub IsConserved : Shape → CoreState → Type 0
IsConserved shape s = (id : ℕ) → count_of_all shape s id ≡ (if nat_lt id (slices_of shape) then 1 else 0)

-- an event that isn't a user's own is answered so, and moves nothing. What a user's own is answered is told by its
-- history
abbrev pub IsAnswered : CoreEntry → Turn → Type 0
IsAnswered e (Own user event) = Unit {0}
IsAnswered e (Answered outcome) =
    (e.outcome ≡ outcome) × (e.freed ≡ []) × (e.placed ≡ []) × (e.before ≡ 0) × (e.after ≡ 0)

-- what holds of a user's history whatever its store tells: each grant is in order and each entry's moves are ones that slices
-- can make, the counts of faults never fall, a fault of the store has its cause, and each reply fits its frame
pub record IsSoundHistory (t : Terms) (h : List Entry) : Type 0 where
  pub in_order : InOrder t first_past h
  pub moved : IsMovedHistory t first_past h
  pub counted : (now : ℕ) × AreCounts 0 h now
  pub caused : All (λ e. IsCaused e.outcome e.before e.after) h
  pub answered : All (λ e. FitsFrame e.event e.outcome) h

-- what holds before and after each event
pub record IsSoundCore (shape : Shape) (s : CoreState) : Type 0 where
  pub users : (user : ℕ) → IsSoundHistory (terms_of user shape) (history_at s user)
  pub conserved : IsConserved shape s

abbrev pub IsRunFrom : Shape → CoreState → List CoreEntry → Type 0
IsRunFrom shape s [] = IsSoundCore shape s
IsRunFrom shape s (e ∷ run) =
    IsSoundCore shape s × IsAnswered e (turn_of shape s e.event) × IsRunFrom shape (core_after shape s e) run

-- Whatever the stores tell: in each state of the run every user's history is sound, and no slice is lost or doubled;
-- and draws, grants of an empty hand and events of users that there aren't are answered rightly.
abbrev pub IsCoreRun : Shape → List CoreEntry → Type 0
IsCoreRun shape run = IsRunFrom shape (first_core shape) run

-- the entries of a user's own events in a run
abbrev pub history_of : Shape → List CoreEntry → ℕ → List Entry
history_of shape run user = history_at (core_of shape (first_core shape) run) user

-- an event's entry, where the event is the user's own
abbrev pub own_entry_of : ℕ → CoreEntry → Turn → List Entry
own_entry_of user e (Own owner event) = if owner == user then own_entry event e ∷ [] else []
own_entry_of user e (Answered outcome) = []

-- the same, taken out of the run one after the other
abbrev pub own_entries_from : Shape → CoreState → List CoreEntry → ℕ → List Entry
own_entries_from shape s [] user = []
own_entries_from shape s (e ∷ run) user =
    own_entry_of user e (turn_of shape s e.event) ++ own_entries_from shape (core_after shape s e) run user

abbrev pub own_entries : Shape → List CoreEntry → ℕ → List Entry
own_entries shape run user = own_entries_from shape (first_core shape) run user

-- They are sound, as a history by itself. Where the user's store is sure, which is where it tells its content or that it is
-- void, they are legal too: each is what plain names and contents answer, or is excused.
pub record IsLegalFor (sure : Bool) (shape : Shape) (run : List CoreEntry) (user : ℕ) : Type 0 where
  pub sound : IsSoundHistory (terms_of user shape) (own_entries shape run user)
  pub legal : IsTrue sure → IsLegalHistory (terms_of user shape) first_past (own_entries shape run user)
