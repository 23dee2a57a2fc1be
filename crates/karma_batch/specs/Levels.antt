-- How the rule by levels moves slices: every row of a side moves until its key is down at a level, and then one more each, by number, while some are left.
use Rattle.std.specs.Prelude.{ℕ, ◌+◌, ◌-◌, ◌<◌, ◌≤◌, ◌≡◌, min, max, Bool, ◌&&◌, ◌==◌, nat_lt, if◌then◌else◌, List, [], ◌∷◌, length, slice_index}
use Rattle.std.specs.List.{sum}
use Rattle.karma_rule.specs.declared.row.Row.{Row}
use Rattle.karma_rule.specs.declared.limits.TheConstants.{CREDITS_TOP}
use Rattle.karma_batch.specs.declared.ramp.Ramp.{Ramp}
use Rattle.karma_batch.specs.declared.side.Side.{Side}
use Rattle.karma_batch.specs.declared.side.Side.TheVariants.{Borrowers, Donors}
use Rattle.karma_rule.specs.Laws.{row_at}

-- Whose key is greatest comes first: borrowers by their credits, donors by what their credits lack. Each slice that a row moves lowers its key by one.
abbrev pub key_of : Side → Row → ℕ
key_of Borrowers row = row.credits
key_of Donors row = CREDITS_TOP - row.credits

-- how many slices a row can move: what a borrower wants and can pay, or what a donor has left of its floor
abbrev pub movable_of : Side → Row → ℕ
movable_of Borrowers row = min (row.demand - row.given) row.credits
movable_of Donors row = row.floor - row.given

-- the row after it has moved some slices: a borrower pays for each, a donor earns for each
abbrev pub moved_by : Side → Row → ℕ → Row
moved_by Borrowers row slices = record row { credits = row.credits - slices; given = row.given + slices }
moved_by Donors row slices = record row { credits = row.credits + slices; given = row.given + slices }

-- how many of its slices a row moves until its key is at the level
abbrev pub above : Side → ℕ → Row → ℕ
above side level row = min (movable_of side row) (key_of side row - level)

-- how many slices a ramp moves until it is down at the level
abbrev pub over : ℕ → Ramp → ℕ
over level ramp = ramp.to - max ramp.from level

-- is at the level then, and can move one more
abbrev pub is_at_level : Side → ℕ → Row → Bool
is_at_level side level row = nat_lt (above side level row) (movable_of side row) && (key_of side row - above side level row == level)

-- moves one more, where some are left
abbrev pub extra : Side → ℕ → ℕ → Row → ℕ
extra side level left row = if nat_lt 0 left && is_at_level side level row then 1 else 0

abbrev pub amount : Side → ℕ → ℕ → Row → ℕ
amount side level left row = above side level row + extra side level left row

-- how many slices each row moves
abbrev pub amounts : Side → ℕ → ℕ → List Row → List ℕ
amounts side level left [] = []
amounts side level left (row ∷ rows) = amount side level left row ∷ amounts side level (left - extra side level left row) rows

abbrev pub all_moved : Side → List Row → List ℕ → List Row
all_moved side [] amounts = []
all_moved side (row ∷ rows) [] = row ∷ rows
all_moved side (row ∷ rows) (amount ∷ amounts) = moved_by side row amount ∷ all_moved side rows amounts

-- As many slices as wanted are moved in the order of the keys, lowest number first: who moved one ends at most one below who could have moved one more, and not below one that stands before it.
pub record IsSpread (side : Side) (count : ℕ) (rows : List Row) (moved : List ℕ) : Type 0 where
  pub same_length : length moved ≡ length rows
  pub total : sum moved ≡ count
  pub within : (k : ℕ) → k < length rows → slice_index moved k ≤ movable_of side (row_at rows k)
  pub order : (mover other : ℕ) → mover < length rows → other < length rows → 0 < slice_index moved mover → slice_index moved other < movable_of side (row_at rows other) → key_of side (row_at rows other) - slice_index moved other ≤ (key_of side (row_at rows mover) - slice_index moved mover) + 1
  pub tied : (mover other : ℕ) → mover < length rows → other < mover → 0 < slice_index moved mover → slice_index moved other < movable_of side (row_at rows other) → key_of side (row_at rows other) - slice_index moved other ≤ key_of side (row_at rows mover) - slice_index moved mover

-- the rows after a spread
pub record Spreads (side : Side) (count : ℕ) (old new : List Row) : Type 0 where
  pub moved : List ℕ
  pub spread : IsSpread side count old moved
  pub new_is : new ≡ all_moved side old moved
