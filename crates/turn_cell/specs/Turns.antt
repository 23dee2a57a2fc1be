-- The rule of a cell, and what each step at its table tells. Word 0 counts the numbers of passes that were drawn,
-- word 1 the tickets that were drawn, and word 2 is the ticket that is served, which is the length of the history.
-- The slot holds the object, which stands for the history. Who has the ticket that is served alone may take it out.
use Rattle.std.specs.Prelude.{◌≡◌, ◌≢◌, ℕ, ◌+◌, ◌-◌, ◌*◌, ◌^◌, ◌<◌, ◌≤◌, ◌⊎◌, ◌||◌, Bool, true, false, min, max}
use Rattle.std.specs.Prelude.{List, [], ◌∷◌, ◌++◌, length, Some, None}
use Rattle.std.specs.declared.option.Option.{Option as Maybe}
use mathlib.Core.Option.{Option, none, some}
use lib.ListN.{get_elem?}
use Rattle.atomic_table.specs.Table.{State, Me, Step}
use Rattle.atomic_table.specs.Seated.{TableId}
use Rattle.turn_cell.specs.declared.knows.Logged.{Logged}
use Rattle.turn_cell.specs.declared.knows.Past.{Past}
use Rattle.turn_cell.specs.declared.knows.Knows.{Knows}
use Rattle.turn_cell.specs.declared.knows.LastCall.{LastCall}
use Rattle.turn_cell.specs.declared.knows.Slot.{Slot}
use Rattle.turn_cell.specs.declared.knows.Slot.TheVariants.{Here}
use Rattle.turn_cell.specs.declared.knows.Stage.{Stage}
use Rattle.turn_cell.specs.declared.knows.Stage.TheVariants.{Idle, Drew, Waits, Holds, Joined}
use Rattle.turn_cell.specs.History.{In, logged, entries, calls_by, longer, HasSeen, AddsCall}

module _ {E : Type 0} where
  abbrev pub ticket_of : Stage E → Option ℕ
  ticket_of Idle = none
  ticket_of (Drew m) = none
  ticket_of (Waits t) = some t
  ticket_of (Holds t) = some t
  ticket_of (Joined a b) = none

  -- the number that was drawn, and isn't given to a pass yet
  abbrev pub drawn_by : Stage E → Option ℕ
  drawn_by Idle = none
  drawn_by (Drew m) = some m
  drawn_by (Waits t) = none
  drawn_by (Holds t) = none
  drawn_by (Joined a b) = none

  abbrev pub number_in : Stage E → ℕ
  number_in (Drew m) = m
  number_in _ = 0

  -- what one of two had seen begins what is seen
  abbrev pub Begins : (E → Bool) → Past E → List (Logged E) → Type 0
  Begins moving p seen = HasSeen moving p.names p.may_move p.seen seen

-- two passes share no name, and one of them at most has the right to move
pub record Apart {E : Type 0} (a b : Past E) : Type 0 where
  pub names : (n : ℕ) → In n a.names → ¬ In n b.names
  pub rights : a.may_move ≡ true → ¬ (b.may_move ≡ true)

module _ {E K : Type 0} where
  -- two seats with one ticket
  abbrev pub OneTicket : Knows E K → Knows E K → Type 0
  OneTicket v w = (t : ℕ) × (ticket_of v.stage ≡ some t) × (ticket_of w.stage ≡ some t)

  -- the number is one of the seat's names, or kept for a pass that it makes
  abbrev pub Claims : Knows E K → ℕ → Type 0
  Claims v n = In n v.names ⊎ (drawn_by v.stage ≡ some n)

  abbrev pub OneNumber : Knows E K → Knows E K → Type 0
  OneNumber v w = (n : ℕ) × Claims v n × Claims w n

  abbrev pub BothMove : Knows E K → Knows E K → Type 0
  BothMove v w = (v.may_move ≡ true) × (w.may_move ≡ true)

-- what a seat's stage says
module _ {E : Type 0} (moving : E → Bool) (history : List (Logged E)) (passes ticket : ℕ) (seen : List (Logged E)) where
  abbrev pub Place : Stage E → Type 0
  Place Idle = Unit {0}
  Place (Drew m) = (m < passes) × (m < 2 ^ 30) × (calls_by m history ≡ [])
  Place (Waits t) = (length history ≤ t) × (t < ticket)
  Place (Holds t) = (t ≡ length history) × (t < ticket) × (seen ≡ history)
  Place (Joined a b) = Begins moving a seen × Begins moving b seen × Apart a b

-- what a seat knows is so
pub record Fits {E K : Type 0} (moving : E → Bool) (key : K) (history : List (Logged E)) (passes ticket : ℕ)
    (v : Knows E K) : Type 0 where
  pub of_key : (v.key ≡ None) ⊎ (v.key ≡ Some key)
  pub below : (n : ℕ) → In n v.names → n < passes
  pub low : (n : ℕ) → In n v.names → n < 2 ^ 30
  pub made_below : (n : ℕ) → In n v.made → n < passes
  pub found_below : v.found ≤ passes
  pub working : (t : ℕ) → ticket_of v.stage ≡ some t → In v.number v.names
  pub mover_works : v.may_move ≡ true → In v.number v.names
  pub new_drawn : (n : ℕ) → In n v.names → drawn_by v.stage ≡ some n → ⊥
  pub knows : HasSeen moving v.names v.may_move v.seen history
  -- a pass that drew a number which names no pass has none to draw any more
  pub chance : (n : ℕ) → In n v.names → (v.spare ≡ 1) ⊎ (2 ^ 30 ≤ passes)
  pub place : Place moving history passes ticket v.seen v.stage

module _ {E : Type 0} where
  abbrev pub left_with : Stage E → ℕ
  left_with Idle = 0
  left_with (Drew m) = 4294967296
  left_with (Waits t) = 0
  left_with (Holds t) = 0
  left_with (Joined a b) = 0

  abbrev pub drawn_with : Stage E → ℕ
  drawn_with Idle = 0
  drawn_with (Drew m) = 1
  drawn_with (Waits t) = 0
  drawn_with (Holds t) = 0
  drawn_with (Joined a b) = 0

module _ {E K : Type 0} where
  -- the calls that a seat may still make, with those of the pass that it makes
  abbrev pub calls_of : Knows E K → ℕ
  calls_of v = v.left + left_with v.stage

  -- the draws of a number that names no pass, which a seat or the pass that it makes may still make
  abbrev pub draws_of : Knows E K → ℕ
  draws_of v = v.spare + drawn_with v.stage

abbrev pub total : {X : Type 0} → (X → ℕ) → List X → ℕ
total f [] = 0
total f (x ∷ xs) = f x + total f xs

module _ {O A T E K : Type 0} (key_of : O → K) (stands : O → List E → Type 0) where
  -- the object is in the slot, and stands for the history
  abbrev pub AtHome : K → List (Logged E) → State (Slot O (LastCall O A T)) (Knows E K) → Type 0
  AtHome key history s =
      (o : O) × (c : Maybe (LastCall O A T)) × (get_elem? s.homes 0 ≡ some (some (Here o c))) × (key_of o ≡ key)
      × stands o (entries history)

  -- the object is with the seat whose ticket is served
  abbrev pub IsOut : List (Logged E) → State (Slot O (LastCall O A T)) (Knows E K) → Type 0
  IsOut history s = (j : ℕ) × (v : Knows E K) × (get_elem? s.views j ≡ some v) × (v.stage ≡ Holds (length history))

-- the number was drawn by a pass with a lesser number
abbrev pub Branch : {E K : Type 0} → List (Knows E K) → ℕ → Type 0
Branch {E} {K} vs m =
    (j : ℕ) × (v : Knows E K) × (get_elem? vs j ≡ some v) × In m v.made × ((p : ℕ) × (p < m) × In p v.names)

-- the rule, over the words, the slot and what all seats know
pub record Kept {O A T E K : Type 0} (key_of : O → K) (stands : O → List E → Type 0) (moving : E → Bool) (key : K)
    (s : State (Slot O (LastCall O A T)) (Knows E K)) : Type 0 where
  pub history : List (Logged E)
  pub passes : ℕ
  pub ticket : ℕ
  pub words : s.words ≡ passes ∷ ticket ∷ length history ∷ []
  pub behind : length history ≤ ticket
  -- the words never wrap: each ticket is one call of a pass, of which there are 2 ^ 30 at most
  pub calls : ticket + total calls_of s.views + 4294967296 * (2 ^ 30 - passes) ≤ 2 ^ 62
  pub draws : passes + total draws_of s.views + 2 * (2 ^ 30 - passes) ≤ 2 ^ 31
  pub seats : (j : ℕ) (v : Knows E K) → get_elem? s.views j ≡ some v → Fits moving key history passes ticket v
  pub apart : (j k : ℕ) (v w : Knows E K) → get_elem? s.views j ≡ some v → get_elem? s.views k ≡ some w
      → OneTicket v w → j ≡ k
  pub names : (j k : ℕ) (v w : Knows E K) → get_elem? s.views j ≡ some v → get_elem? s.views k ≡ some w
      → OneNumber v w → j ≡ k
  pub rights : (j k : ℕ) (v w : Knows E K) → get_elem? s.views j ≡ some v → get_elem? s.views k ≡ some w
      → BothMove v w → j ≡ k
  -- there is a seat with the right to move
  pub mover : (j : ℕ) × (v : Knows E K) × (get_elem? s.views j ≡ some v) × (v.may_move ≡ true)
  -- each number that names a pass was drawn by a pass that is there
  pub tree : (m : ℕ) → m < passes → m < 2 ^ 30 → (m ≡ 0) ⊎ Branch s.views m
  -- each entry is under a name of a pass that is there
  pub owners : (l : Logged E) → In l history → (j : ℕ) × (v : Knows E K) × (get_elem? s.views j ≡ some v)
      × In l.by v.names
  pub home : AtHome key_of stands key history s ⊎ IsOut key_of stands history s

module _ {E K : Type 0} where
  -- the first pass
  abbrev pub newcomer : K → Knows E K
  newcomer key = record {
    key = Some key;
    number = 0;
    names = 0 ∷ [];
    made = [];
    found = 0;
    left = 4294967296;
    spare = 1;
    may_move = true;
    seen = [];
    stage = Idle;
  }

  -- the pass that is made of a drawn number, and the pass that made it
  abbrev pub split_off : Knows E K → Knows E K
  split_off v = record {
    key = v.key;
    number = number_in v.stage;
    names = number_in v.stage ∷ [];
    made = [];
    found = 0;
    left = 4294967296;
    spare = 1;
    may_move = false;
    seen = v.seen;
    stage = Idle;
  }

  abbrev pub split_from : Knows E K → Knows E K
  split_from v = record v { stage = Idle }

  abbrev pub past : Knows E K → Past E
  past v = record { names = v.names; may_move = v.may_move; seen = v.seen }

  -- two passes as one, and what is left of the second
  abbrev pub joined : Knows E K → Knows E K → Knows E K
  joined v w = record v {
    names = v.names ++ w.names;
    made = v.made ++ w.made;
    found = max v.found w.found;
    left = min v.left w.left;
    may_move = v.may_move || w.may_move;
    seen = longer v.seen w.seen;
    stage = Joined (past v) (past w);
  }

  -- what a pass has seen, with no number, call or right
  abbrev pub note : Knows E K → Knows E K
  note v = record {
    key = v.key;
    number = 0;
    names = [];
    made = [];
    found = 0;
    left = 0;
    spare = 0;
    may_move = false;
    seen = v.seen;
    stage = Idle;
  }

  -- a pass that took in a note
  abbrev pub learned : Knows E K → Knows E K → Knows E K
  learned v w = record (joined v w) { left = v.left }

  abbrev pub spent : Knows E K
  spent = record {
    key = None;
    number = 0;
    names = [];
    made = [];
    found = 0;
    left = 0;
    spare = 0;
    may_move = false;
    seen = [];
    stage = Idle;
  }

  -- what the first of these seats has seen
  abbrev pub seen_by : List (Knows E K) → List (Logged E)
  seen_by [] = []
  seen_by (v ∷ vs) = v.seen

-- a seat of a pass between two calls
pub record IsReady {S E K : Type 0} (me : Me S (Knows E K)) : Type 0 where
  pub holds_none : me.1 ≡ []
  pub idle : me.0.stage ≡ Idle
  pub alive : In me.0.number me.0.names

module _ {O A T E K : Type 0} where
  -- the count of drawn numbers was looked at
  abbrev pub counted : Step (Slot O (LastCall O A T)) → Me (Slot O (LastCall O A T)) (Knows E K) → ℕ
      → Me (Slot O (LastCall O A T)) (Knows E K) → Type 0
  counted st m r m' = (m'.0 ≡ record m.0 { found = r }) × (m'.1 ≡ m.1) × (m.0.found ≤ r)
      × (r < 2 ^ 30 → (n : ℕ) → In n m.0.names → m.0.spare ≡ 1)

  -- a number was drawn, which names a pass where it is below 2 ^ 30
  abbrev pub numbered : Step (Slot O (LastCall O A T)) → Me (Slot O (LastCall O A T)) (Knows E K) → ℕ
      → Me (Slot O (LastCall O A T)) (Knows E K) → Type 0
  numbered st m r m' =
      (m'.1 ≡ m.1) × (m.0.found ≤ r)
      × (r < 2 ^ 30 → (m'.0 ≡ record m.0 { made = r ∷ m.0.made; found = r; stage = Drew r })
      × (calls_by r m.0.seen ≡ []) × ((n : ℕ) → In n m.0.names ⊎ In n m.0.made → n < r))
      × (2 ^ 30 ≤ r → m'.0 ≡ record m.0 { found = r; spare = 0 })

  -- the ticket was drawn
  abbrev pub drew : Step (Slot O (LastCall O A T)) → Me (Slot O (LastCall O A T)) (Knows E K) → ℕ
      → Me (Slot O (LastCall O A T)) (Knows E K) → Type 0
  drew st m r m' = (m'.0 ≡ record m.0 { left = m.0.left - 1; stage = Waits r }) × (m'.1 ≡ m.1)

  -- what both had seen begins what is seen
  abbrev pub settled : (E → Bool) → Step (Slot O (LastCall O A T)) → Me (Slot O (LastCall O A T)) (Knows E K) → ℕ
      → Me (Slot O (LastCall O A T)) (Knows E K) → Type 0
  settled moving st m r m' =
      (a b : Past E) → m.0.stage ≡ Joined a b → (m'.0 ≡ record m.0 { stage = Idle }) × (m'.1 ≡ m.1)
      × Begins moving a m.0.seen × Begins moving b m.0.seen × Apart a b

  -- the seat has learned what another has seen
  abbrev pub Learns : (E → Bool) → Me (Slot O (LastCall O A T)) (Knows E K) → List (Logged E)
      → Me (Slot O (LastCall O A T)) (Knows E K) → Type 0
  Learns moving m told m' =
      (m' ≡ (record m.0 { seen = longer m.0.seen told }, []))
      × HasSeen moving m.0.names m.0.may_move m.0.seen m'.0.seen

module _ {O A T E K : Type 0} (key_of : O → K) (stands : O → List E → Type 0) (moving : E → Bool) where
  -- the turn has come: the seat has seen the history whole, and has the object, which stands for it
  abbrev pub Holding : ℕ → Me (Slot O (LastCall O A T)) (Knows E K) → Me (Slot O (LastCall O A T)) (Knows E K) → Type 0
  Holding t m m' =
      (m'.0 ≡ record m.0 { seen = m'.0.seen; stage = Holds t })
      × HasSeen moving m.0.names m.0.may_move m.0.seen m'.0.seen
      × ((o : O) × (c : Maybe (LastCall O A T)) × (m'.1 ≡ (0, Here o c) ∷ [])
      × ((m.0.key ≡ None) ⊎ (m.0.key ≡ Some (key_of o))) × stands o (entries m'.0.seen))

  abbrev pub looked : Step (Slot O (LastCall O A T)) → Me (Slot O (LastCall O A T)) (Knows E K) → ℕ
      → Me (Slot O (LastCall O A T)) (Knows E K) → Type 0
  looked st m r m' = (t : ℕ) → m.0.stage ≡ Waits t → (r ≡ t → Holding t m m') × (r ≢ t → m' ≡ m)

module _ {O A T E K : Type 0} (entry : O → A → T → O → E) where
  -- the call that lies in the slot was added to the history
  abbrev pub served : Step (Slot O (LastCall O A T)) → Me (Slot O (LastCall O A T)) (Knows E K) → ℕ
      → Me (Slot O (LastCall O A T)) (Knows E K) → Type 0
  served st m r m' = (o : O) (c : LastCall O A T) → m.1 ≡ (0, Here o (Some c)) ∷ []
      → (m'.0 ≡ record m.0 {
        seen = m.0.seen ++ logged m.0.number (entry c.before.value c.ask.value c.tell.value o) ∷ [];
        stage = Idle;
      }) × (m'.1 ≡ [])

module _ {O A T E K : Type 0} (key_of : O → K) (stands : O → List E → Type 0) (moving : E → Bool) (moves : A → Bool)
    (entry : O → A → T → O → E) (answers : K → List E → A → T → Type 0) where
  -- the ask was applied to the object that is held, and the call lies beside it
  abbrev pub Applied : List (ℕ × Slot O (LastCall O A T)) → A → T → List (ℕ × Slot O (LastCall O A T)) → Type 0
  Applied cs ask tell ds =
      (o : O) × (c : Maybe (LastCall O A T)) × (o' : O) × (d : LastCall O A T)
      × (cs ≡ (0, Here o c) ∷ []) × (ds ≡ (0, Here o' (Some d)) ∷ [])
      × (d.before.value ≡ o) × (d.ask.value ≡ ask) × (d.tell.value ≡ tell) × (key_of o' ≡ key_of o)
      × ((h : List E) → stands o h → stands o' (h ++ entry o ask tell o' ∷ []) × answers (key_of o) h ask tell)
      × (moving (entry o ask tell o') ≡ moves ask)

  -- a whole call
  abbrev pub Turned : K → Knows E K → A → T → Knows E K → Type 0
  Turned key v ask tell w =
      (w ≡ record v { left = v.left - 1; seen = w.seen; stage = Idle })
      × AddsCall key_of stands moving moves entry answers key v.number v.names v.may_move v.seen ask tell w.seen

-- the seat is one of this cell's
abbrev pub IsSeatOf : TableId → TableId → Type 0
IsSeatOf cell seat = (seat ≡ cell) × (cell.words ≡ 3) × (cell.slots ≡ 1)
