-- Ramps: what they move together, and how they stand for rows.
use Rattle.std.proofs.Common.{◌≡◌, ℕ, ◌+◌, ◌-◌, ◌*◌, ◌^◌, ◌<◌, ◌≤◌, List, length, get_or, set, take, ap, ◌∙◌, arith}
use Rattle.std.specs.List.{sum_by, All}
use Rattle.std.proofs.lemmas.List.{take_more_set}
use Rattle.std.proofs.lemmas.List.Sums.{sum_by-le, sum_by_more, sum_by_more_le, sum_by_push}
use Rattle.karma_rule.specs.declared.limits.TheConstants.{CREDITS_TOP}
use Rattle.karma_batch.specs.declared.ramp.TheConstants.{MOST_MOVED}
use Rattle.karma_rule.specs.declared.row.Row.{Row}
use Rattle.karma_batch.specs.declared.ramp.Ramp.{Ramp}
use Rattle.karma_batch.specs.declared.side.Side.{Side}
use Rattle.karma_rule.specs.Laws.{row_at}
use Rattle.karma_rule.specs.OpenRow.{IsOpenRow}
use Rattle.karma_rule.proofs.RowsOfUsers.{no_row}
use Rattle.karma_batch.specs.Levels.{key_of, movable_of, above, over}
use Rattle.karma_batch.proofs.LevelRows.{key_bound}
use Rattle.karma_batch.proofs.BatchRows.{sum_whole}

-- what a read of a ramp gives
abbrev pub no_ramp : Ramp
no_ramp = record { from = 0; to = 0 }

abbrev pub ramp_at : List Ramp → ℕ → Ramp
ramp_at ramps place = get_or ramps place no_ramp

pub ramp_step : (level : ℕ) (ramps : List Ramp) (place total : ℕ) → sum_by (over level) ramps ≤ MOST_MOVED → place < length ramps → total ≡ sum_by (over level) (take place ramps) → total + over level (ramp_at ramps place) < 2 ^ 64
ramp_step level ramps place total small inside so_far =
    let more : sum_by (over level) (take place ramps) + over level (ramp_at ramps place) ≤ sum_by (over level) ramps = sum_by_more_le (over level) ramps place no_ramp inside in
    omega arith

-- one more in front
pub sum_kept : (level : ℕ) (ramps : List Ramp) (kept : ℕ) (ramp : Ramp) → kept < length ramps → sum_by (over level) (take (kept + 1) (set ramps kept ramp)) ≡ sum_by (over level) (take kept ramps) + over level ramp
sum_kept level ramps kept ramp inside = ap (sum_by (over level)) (take_more_set ramps kept ramp inside) ∙ sum_by_push (over level) (take kept ramps) ramp

-- ---- rows
-- a row's ramp
abbrev pub ramp_of : Side → Row → Ramp
ramp_of side row = record { from = key_of side row - movable_of side row; to = key_of side row }

pub over_row : (side : Side) (level : ℕ) (row : Row) → IsOpenRow row → over level (ramp_of side row) ≡ above side level row
over_row side level row is_open =
    let bound : (key_of side row ≤ CREDITS_TOP) × (movable_of side row ≤ key_of side row) = key_bound side row is_open in
    omega (arith, bound.1)

abbrev pub Stand : Side → List Row → List Ramp → Type 0
Stand side rows ramps = (level : ℕ) → sum_by (over level) ramps ≡ sum_by (above side level) rows

-- a row that can move nothing has no ramp
pub stand_none : (side : Side) (rows : List Row) (place : ℕ) (ramps : List Ramp) → place < length rows → movable_of side (row_at rows place) ≤ 0 → Stand side (take place rows) ramps → Stand side (take (place + 1) rows) ramps
stand_none side rows place ramps inside none stand level =
    let more : sum_by (above side level) (take (place + 1) rows) ≡ sum_by (above side level) (take place rows) + above side level (row_at rows place) = sum_by_more (above side level) rows place no_row inside in
    omega (arith, stand level)

pub stand_more : (side : Side) (rows : List Row) (place : ℕ) (ramps : List Ramp) (kept : ℕ) (ramp : Ramp) → place < length rows → kept < length ramps → IsOpenRow (row_at rows place) → ramp ≡ ramp_of side (row_at rows place) → Stand side (take place rows) (take kept ramps) → Stand side (take (place + 1) rows) (take (kept + 1) (set ramps kept ramp))
stand_more side rows place ramps kept ramp inside in_ramps is_open is_ramp stand level =
    let more : sum_by (above side level) (take (place + 1) rows) ≡ sum_by (above side level) (take place rows) + above side level (row_at rows place) = sum_by_more (above side level) rows place no_row inside in
    let same : over level ramp ≡ above side level (row_at rows place) = ap (over level) is_ramp ∙ over_row side level (row_at rows place) is_open in
    omega (arith, stand level, sum_kept level ramps kept ramp in_ramps)

-- no key is above the top
pub sum_top : (side : Side) (rows : List Row) → All IsOpenRow rows → sum_by (above side CREDITS_TOP) rows ≡ 0
sum_top side rows are_open =
    let each : All (λ row. above side CREDITS_TOP row ≤ 0) rows = λ place default inside. (let bound : (key_of side (get_or rows place default) ≤ CREDITS_TOP) × (movable_of side (get_or rows place default) ≤ key_of side (get_or rows place default)) = key_bound side (get_or rows place default) (are_open place default inside) in omega (arith, bound.0)) in
    let at_most : sum_by (above side CREDITS_TOP) rows ≤ length rows * 0 = sum_by-le (above side CREDITS_TOP) 0 rows each in
    omega arith

-- down at the level 0 all was moved
pub whole : (side : Side) (rows : List Row) → All IsOpenRow rows → sum_by (above side 0) rows ≡ sum_by (movable_of side) rows
whole side rows are_open = sum_whole side rows (λ place inside. (key_bound side (row_at rows place) (are_open place _ inside)).1)
