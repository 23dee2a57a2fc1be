-- What contracts see of a cell and of its passes.
use Rattle.std.specs.Prelude.{◌≡◌, ℕ, ◌-◌, ◌||◌, Bool, true, false, min, max, List, [], ◌∷◌, ◌++◌, length, Some}
use mathlib.Core.List.{IsPrefix}
use Rattle.atomic_table.specs.Seated.{TableId}
use Rattle.atomic_table.specs.Table.{Me}
use Rattle.turn_cell.specs.declared.knows.Logged.{Logged}
use Rattle.turn_cell.specs.declared.knows.Knows.{Knows}
use Rattle.turn_cell.specs.declared.cell.TheConstants.{CALLS_EACH}
use Rattle.turn_cell.specs.History.{HasSeen, AddsCall, asks_by, longer}
use Rattle.turn_cell.specs.Turns.{IsReady}

-- which cell it is, and its key
pub record CellView (K : Type 0) : Type 0 where
  pub table : TableId
  pub key : K

pub record PassView (E K : Type 0) : Type 0 where
  -- the cell that it is a pass of
  pub cell : CellView K
  pub number : ℕ
  -- its number, and those of the passes that were joined into it
  pub names : List ℕ
  -- the numbers of the passes that were split from it, or from one that was joined into it
  pub made : List ℕ
  -- the greatest count of drawn numbers that it came upon
  pub found : ℕ
  -- the calls that it may still make
  pub left : ℕ
  pub may_move : Bool
  -- the beginning of the history that it has seen
  pub seen : List (Logged E)

module _ {E K : Type 0} where
  -- the first pass of a cell
  abbrev pub first_pass : CellView K → PassView E K
  first_pass cell = record {
    cell = cell;
    number = 0;
    names = 0 ∷ [];
    made = [];
    found = 0;
    left = CALLS_EACH;
    may_move = true;
    seen = [];
  }

  -- the same, once a pass with this number was split from it
  abbrev pub split_first : CellView K → ℕ → PassView E K
  split_first cell n = record (first_pass cell) { made = n ∷ []; found = n }

  -- the pass with this number that is split from another
  abbrev pub split_pass : PassView E K → ℕ → PassView E K
  split_pass p n = record {
    cell = p.cell;
    number = n;
    names = n ∷ [];
    made = [];
    found = 0;
    left = CALLS_EACH;
    may_move = false;
    seen = p.seen;
  }

  -- two passes as one
  abbrev pub joined_pass : PassView E K → PassView E K → PassView E K
  joined_pass p q = record {
    cell = p.cell;
    number = p.number;
    names = p.names ++ q.names;
    made = p.made ++ q.made;
    found = max p.found q.found;
    left = min p.left q.left;
    may_move = p.may_move || q.may_move;
    seen = longer p.seen q.seen;
  }

  -- what the pass had seen begins this, and beyond it stands no call of its own, nor a move where it had the right
  abbrev pub StillSees : (E → Bool) → PassView E K → List (Logged E) → Type 0
  StillSees moving p h = HasSeen moving p.names p.may_move p.seen h

  abbrev pub pass_view : TableId → K → Knows E K → PassView E K
  pass_view table key v = record {
    cell = record { table = table; key = key };
    number = v.number;
    names = v.names;
    made = v.made;
    found = v.found;
    left = v.left;
    may_move = v.may_move;
    seen = v.seen;
  }

-- The pass made these asks, one after the other: it has so many calls less, and of its own calls these asks came to
-- what it had seen.
pub record MakesAsks {A E K : Type 0} (ask_of : E → A) (p : PassView E K) (asks : List A)
    (q : PassView E K) : Type 0 where
  pub same : q ≡ record p { left = p.left - length asks; seen = q.seen }
  pub begins : IsPrefix p.seen q.seen
  pub asked : asks_by ask_of p.number q.seen ≡ asks_by ask_of p.number p.seen ++ asks

module _ {O A T E K : Type 0} (key_of : O → K) (stands : O → List E → Type 0) (moving : E → Bool) (moves : A → Bool)
    (entry : O → A → T → O → E) (answers : K → List E → A → T → Type 0) where
  -- the pass made the call, and has seen the history up to its entry
  abbrev pub Calls : PassView E K → A → T → List (Logged E) → Type 0
  Calls p ask tell seen =
      AddsCall key_of stands moving moves entry answers p.cell.key p.number p.names p.may_move p.seen ask tell seen

-- a cell's table has three words and one slot, and knows the cell's key
pub record IsCell {K : Type 0} (table : TableId) (known key : K) : Type 0 where
  pub words : table.words ≡ 3
  pub slots : table.slots ≡ 1
  pub keyed : known ≡ key

-- a pass between two calls, with what code may know of it
pub record IsPass {S E K : Type 0} (me : Me S (Knows E K)) (key : K) (number left : ℕ) (may_move : Bool) : Type 0 where
  pub ready : IsReady me
  pub keyed : me.0.key ≡ Some key
  pub numbered : number ≡ me.0.number
  pub calls : left ≡ me.0.left
  pub right : may_move ≡ me.0.may_move
