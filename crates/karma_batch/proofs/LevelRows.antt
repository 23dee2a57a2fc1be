-- Bounds of the levels' numbers, and the step of the loop that spreads.
use Rattle.std.proofs.Common.{◌≡◌, ℕ, ◌+◌, ◌-◌, ◌*◌, ◌<◌, ◌≤◌, List, [], ◌∷◌, ◌++◌, length, get_or, set, take, drop, sym, ap, ◌∙◌, arith, append_assoc, append-nil}
use Rattle.std.specs.List.{sum_by, All}
use Rattle.std.proofs.lemmas.List.{take_more_set, drop_more, drop-set-lt, take_all, drop_all}
use Rattle.std.proofs.lemmas.List.Sums.{sum_by-le, sum_by_push}
use Rattle.karma_rule.specs.declared.limits.TheConstants.{MOST_USERS, MOST_DEMAND, CREDITS_TOP}
use Rattle.karma_batch.specs.declared.ramp.TheConstants.{MOST_MOVED}
use Rattle.karma_rule.specs.declared.row.Row.{Row}
use Rattle.karma_batch.specs.declared.side.Side.{Side}
use Rattle.karma_batch.specs.declared.side.Side.TheVariants.{Borrowers, Donors}
use Rattle.karma_rule.specs.Laws.{row_at}
use Rattle.karma_rule.specs.OpenRow.{IsOpenRow}
use Rattle.karma_batch.specs.Levels.{key_of, movable_of, moved_by, above, extra, amount, amounts, all_moved}

pub room_bound : (side : Side) (row : Row) → IsOpenRow row → movable_of side row ≤ MOST_DEMAND
room_bound Borrowers row is_open = omega (arith, is_open.small)
room_bound Donors row is_open = omega (arith, is_open.low)

pub key_bound : (side : Side) (row : Row) → IsOpenRow row → (key_of side row ≤ CREDITS_TOP) × (movable_of side row ≤ key_of side row)
key_bound Borrowers row is_open = (omega (arith, is_open.room), omega arith)
key_bound Donors row is_open = (omega arith, omega (arith, is_open.room))

pub sum_bound : (side : Side) (level : ℕ) (rows : List Row) → length rows ≤ MOST_USERS → All IsOpenRow rows → sum_by (above side level) rows ≤ MOST_MOVED
sum_bound side level rows few are_open =
    let each : All (λ row. above side level row ≤ MOST_DEMAND) rows = λ place default inside. (let bound : movable_of side (get_or rows place default) ≤ MOST_DEMAND = room_bound side (get_or rows place default) (are_open place default inside) in omega arith) in
    let at_most : sum_by (above side level) rows ≤ length rows * MOST_DEMAND = sum_by-le (above side level) MOST_DEMAND rows each in
    omega arith

pub total_bound : (side : Side) (rows : List Row) → length rows ≤ MOST_USERS → All IsOpenRow rows → sum_by (movable_of side) rows ≤ MOST_MOVED
total_bound side rows few are_open =
    let each : All (λ row. movable_of side row ≤ MOST_DEMAND) rows = λ place default inside. room_bound side (get_or rows place default) (are_open place default inside) in
    let at_most : sum_by (movable_of side) rows ≤ length rows * MOST_DEMAND = sum_by-le (movable_of side) MOST_DEMAND rows each in
    omega arith

-- a sum over the rows so far, with one row more that was just written
pub total_more : (side : Side) (rows : List Row) (place total : ℕ) (row : Row) → place < length rows → total ≡ sum_by (movable_of side) (take place rows) → total + movable_of side row ≡ sum_by (movable_of side) (take (place + 1) (set rows place row))
total_more side rows place total row inside so_far =
    ap (λ sum. sum + movable_of side row) so_far ∙ sym (sum_by_push (movable_of side) (take place rows) row) ∙ ap (sum_by (movable_of side)) (sym (take_more_set rows place row inside))

abbrev pub spread_rows : Side → ℕ → ℕ → List Row → List Row
spread_rows side level rest rows = all_moved side rows (amounts side level rest rows)

pub spread_more : (side : Side) (level rest rest' : ℕ) (rows goal : List Row) (place : ℕ) (x : Row) → place < length rows → x ≡ moved_by side (row_at rows place) (amount side level rest (row_at rows place)) → rest' ≡ rest - extra side level rest (row_at rows place) → take place rows ++ spread_rows side level rest (drop place rows) ≡ goal → take (place + 1) (set rows place x) ++ spread_rows side level rest' (drop (place + 1) (set rows place x)) ≡ goal
spread_more side level rest rest' rows goal place x inside is_moved rest_is so_far =
    ap (λ zs. zs ++ spread_rows side level rest' (drop (place + 1) (set rows place x))) (take_more_set rows place x inside)
    ∙ append_assoc (take place rows) (x ∷ []) (spread_rows side level rest' (drop (place + 1) (set rows place x)))
    ∙ ap (λ zs. take place rows ++ (x ∷ spread_rows side level rest' zs)) (drop-set-lt (place + 1) rows place x (omega arith))
    ∙ ap (λ y. take place rows ++ (y ∷ spread_rows side level rest' (drop (place + 1) rows))) is_moved
    ∙ ap (λ left. take place rows ++ (moved_by side (row_at rows place) (amount side level rest (row_at rows place)) ∷ spread_rows side level left (drop (place + 1) rows))) rest_is
    ∙ ap (λ zs. take place rows ++ spread_rows side level rest zs) (sym (drop_more rows place _ inside))
    ∙ so_far

pub spread_done : (side : Side) (level rest : ℕ) (rows goal : List Row) (place : ℕ) → length rows ≤ place → take place rows ++ spread_rows side level rest (drop place rows) ≡ goal → rows ≡ goal
spread_done side level rest rows goal place past so_far =
    sym (append-nil rows) ∙ ap (λ zs. zs ++ []) (sym (take_all place rows past)) ∙ ap (λ zs. take place rows ++ spread_rows side level rest zs) (sym (drop_all place rows past)) ∙ so_far
