-- The line of a block that tells a roster.
use Rattle.std.specs.Prelude.{◌≡◌, ◌≢◌, ℕ, ◌*◌, ◌≤◌, true, List, [], ◌∷◌, ◌++◌, length, map, All, IfSome, Some, None}
use Rattle.std.specs.Prelude.{codes}
use Rattle.std.specs.Fmt.{decimal}
use Rattle.std.specs.Bool.{OnFalse}
use Rattle.std.specs.List.{sum_by, flat_map}
use Rattle.std.specs.declared.option.Option.{Option}
use Rattle.karma_rule.specs.declared.row.Row.{Row}
use Rattle.karma_rule.specs.declared.row.Share.{Share}
use Rattle.karma_rule.specs.declared.shape.Shape.{Shape}
use Rattle.karma_rule.specs.declared.limits.TheConstants.{MOST_FAIR}
use Rattle.demand_book.specs.declared.report.Report.{Report}
use Rattle.demand_book.specs.Roster.{seat_of, fair_of_seat}
use Rattle.quantum_text.specs.declared.line_kind.LineKind.{LineKind}
use Rattle.quantum_text.specs.LineKind.{numbers_of}
use Rattle.quantum_text.specs.Spelled.{Spells}

-- the roster of a report
abbrev pub roster_of : Report → List (Option Share)
roster_of report = map seat_of report.rows

-- the word of a seat: the fair share and the floor with a colon between, or a dash where the user is away
abbrev pub seat_word : Option Share → List ℕ
seat_word None = codes "-"
seat_word (Some share) = decimal share.fair ++ 58 ∷ decimal share.floor

abbrev pub HasNoColon : List ℕ → Type 0
HasNoColon bytes = All (λ byte. byte ≢ 58) bytes

-- a space and the word
abbrev pub seat_text : Option Share → List ℕ
seat_text seat = 32 ∷ seat_word seat

-- the line without its line end: its word, and the word of each seat
unfoldable pub shares_text : List (Option Share) → List ℕ
shares_text roster = codes "shares" ++ flat_map seat_text roster

-- the line with its line end
unfoldable pub ended_shares : List (Option Share) → List ℕ
ended_shares roster = shares_text roster ++ 10 ∷ []

-- within the limits of a share that a line tells
pub record IsToldShare (share : Share) : Type 0 where
  pub some : 1 ≤ share.fair
  pub fair : share.fair ≤ MOST_FAIR
  pub floor : share.floor ≤ share.fair

abbrev pub IsSeat : Option Share → Type 0
IsSeat seat = IfSome seat IsToldShare

-- the words are those of these seats, so many
abbrev pub AreSeats : ℕ → List (List ℕ) → List (Option Share) → Type 0
AreSeats users words seats = Spells seat_word IsSeat users words seats

-- they are those of some seats, whose fair shares together are so many
pub record SeatsTogether (users : ℕ) (words : List (List ℕ)) (total : ℕ) : Type 0 where
  pub seats : List (Option Share)
  pub are : AreSeats users words seats
  pub together : total ≡ sum_by fair_of_seat seats

-- A block may tell this roster after one with the roster `before`: it has a seat for each user, its fair shares are
-- together no more than there are slices, and it is another one.
pub record IsNewRoster (shape : Shape) (before roster : List (Option Share)) : Type 0 where
  pub many : length roster ≡ length before
  pub within : All IsSeat roster
  pub together : sum_by fair_of_seat roster ≤ shape.users * shape.share.fair
  pub another : roster ≢ before

-- these bytes are the line of this roster, in a block after one with the roster `before`
pub record IsSharesLine (shape : Shape) (before : List (Option Share)) (line : List ℕ)
    (roster : List (Option Share)) : Type 0 where
  pub spelled : line ≡ shares_text roster
  pub told : IsNewRoster shape before roster

-- these bytes are the line of no roster there
abbrev pub IsNoSharesLine : Shape → List (Option Share) → List ℕ → Type 0
IsNoSharesLine shape before line = (roster : List (Option Share)) → IsSharesLine shape before line roster → ⊥

-- who is away has no share
abbrev pub IsSeated : Row → Type 0
IsSeated row = OnFalse row.present ((row.fair ≡ 0) × (row.floor ≡ 0))

-- The report's roster changed, and nothing else of it. Who is away has no share.
pub record ChangesRoster (old new : Report) : Type 0 where
  pub users : length new.rows ≡ length old.rows
  pub changed : new.changed ≡ true
  pub seated : All IsSeated new.rows
  pub numbers : (kind : LineKind) → numbers_of kind new ≡ numbers_of kind old
