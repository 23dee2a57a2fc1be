-- What holds between the rows before a quantum and the rows after it.
use Rattle.std.specs.Prelude.{ℕ, ◌+◌, ◌-◌, ◌<◌, ◌≤◌, false, min, List, length, slice_index_or}
use Rattle.std.specs.List.{sum_by}
use Rattle.karma_rule.specs.declared.row.Row.{Row}
use Rattle.karma_rule.specs.Karma.{if_present, surplus}

-- what a quantum leaves as it is: all of a row but its credits and what it is given
abbrev pub standing : Row → Row
standing row = record row { credits = 0; given = 0 }

-- a user's row; a user that there isn't has an empty one
abbrev pub row_at : List Row → ℕ → Row
row_at rows user = slice_index_or rows user (record { demand = 0; credits = 0; given = 0; fair = 0; floor = 0; present = false })

abbrev pub total_given : List Row → ℕ
total_given rows = sum_by (λ row. row.given) rows

-- how many slices can be of use: as many as those who are present have as their fair shares, or as many as they want
abbrev pub usable : List Row → ℕ
usable rows = min (sum_by (if_present (λ row. row.fair)) rows) (sum_by (if_present (λ row. row.demand)) rows)

-- was given more than the floor gives
abbrev pub HasBorrowed : Row → Type 0
HasBorrowed row = min row.demand row.floor < row.given

-- wants one more, and has a credit left
abbrev pub CouldBorrow : Row → Type 0
CouldBorrow row = (row.given < row.demand) × (0 < row.credits)

abbrev pub donated : Row → ℕ
donated row = row.floor - row.demand

-- how many credits a user earned: one for each of its donated slices that was lent
abbrev pub earned : Row → Row → ℕ
earned before after = after.credits - (before.credits + surplus before)

-- Nobody who borrowed ends more than a credit below one who could have borrowed, and nobody who earned ends more than a credit above one who could have lent.
pub record IsLevelled (before after : List Row) : Type 0 where
  pub borrowers : (borrower other : ℕ) → borrower < length after → other < length after → HasBorrowed (row_at after borrower) → CouldBorrow (row_at after other) → (row_at after other).credits ≤ (row_at after borrower).credits + 1
  pub donors : (donor other : ℕ) → donor < length after → other < length after → 0 < earned (row_at before donor) (row_at after donor) → earned (row_at before other) (row_at after other) < donated (row_at before other) → (row_at after donor).credits ≤ (row_at after other).credits + 1
