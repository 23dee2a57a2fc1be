-- The roster of a quantum: who is present, with which share, and with which credits each begins.
use Rattle.std.specs.Prelude.{ℕ, ◌/◌, ◌==◌, Bool, true, false, if◌then◌else◌, List, map, Some, None}
use Rattle.std.specs.List.{sum_by, zip}
use Rattle.std.specs.declared.option.Option.{Option}
use Rattle.karma_rule.specs.declared.row.Row.{Row}
use Rattle.karma_rule.specs.declared.row.Share.{Share}

-- ---- seats
-- the seat of a row: its share, or none where it is away
abbrev pub seat_of : Row → Option Share
seat_of row = if row.present then Some (record { fair = row.fair; floor = row.floor }) else None

-- who is away has no fair share
abbrev pub fair_of_seat : Option Share → ℕ
fair_of_seat None = 0
fair_of_seat (Some share) = share.fair

-- was present at the last quantum, and is at the next
abbrev pub stays : Row → Option Share → Bool
stays row None = false
stays row (Some share) = row.present

-- ---- the credits that a quantum begins with
-- a number of those who stay
abbrev pub of_stayers : (Row → ℕ) → List Row → List (Option Share) → ℕ
of_stayers number rows roster = sum_by (λ pair. if stays pair.0 pair.1 then number pair.0 else 0) (zip rows roster)

abbrev pub average_or : ℕ → ℕ → ℕ → ℕ
average_or credits total count = if count == 0 then credits else total / count

-- Who comes begins with the average credits of those who stay, its whole part, or with the shape's where nobody stays.
abbrev pub newcomer_credits : ℕ → List Row → List (Option Share) → ℕ
newcomer_credits credits rows roster = average_or credits (of_stayers (λ row. row.credits) rows roster) (of_stayers (λ row. 1) rows roster)

-- A row at the next quantum. Who stays keeps its credits, who comes has these, and who is away has none.
abbrev pub seated : ℕ → Row → Option Share → Row
seated newcomer row None = record row { credits = 0; fair = 0; floor = 0; present = false }
seated newcomer row (Some share) = record row { credits = if row.present then row.credits else newcomer; fair = share.fair; floor = share.floor; present = true }

-- the rows that the next quantum begins with
abbrev pub seated_rows : ℕ → List Row → List (Option Share) → List Row
seated_rows credits rows roster = map (λ pair. seated (newcomer_credits credits rows roster) pair.0 pair.1) (zip rows roster)
