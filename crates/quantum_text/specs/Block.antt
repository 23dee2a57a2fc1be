-- The text of a quantum block, and its grammar.
use Rattle.std.specs.Prelude.{◌≡◌, ℕ, ◌≤◌, if◌then◌else◌, Bool, true, false, List, [], ◌∷◌, ◌++◌, length, map, All}
use Rattle.std.specs.Bool.{OnTrue, OnFalse}
use Rattle.std.specs.Fmt.{decimal}
use Rattle.std.specs.List.{flat_map}
use Rattle.std.specs.declared.option.Option.{Option}
use Rattle.far_io.specs.Sends.{spaced}
use Rattle.karma_rule.specs.declared.row.Row.{Row}
use Rattle.karma_rule.specs.declared.row.Share.{Share}
use Rattle.karma_rule.specs.declared.shape.Shape.{Shape}
use Rattle.demand_book.specs.declared.report.Report.{Report}
use Rattle.demand_book.specs.Roster.{seat_of}
use Rattle.quantum_text.specs.declared.line_kind.LineKind.{LineKind}
use Rattle.quantum_text.specs.declared.line_kind.LineKind.TheVariants.{Quantum, Demand, Slices, Credits}
use Rattle.quantum_text.specs.LineKind.{word_of, limit_of, count_of, numbers_of, untold}
use Rattle.quantum_text.specs.Spelled.{Spells}
use Rattle.quantum_text.specs.Shares.{roster_of, shares_text, ended_shares, IsNewRoster, IsSharesLine}
use Rattle.quantum_text.specs.Shares.{IsNoSharesLine, IsSeated}

-- ---- one line
-- a line of numbers without its line end: the kind's word, then a space and the decimal of each number
unfoldable pub line_text : LineKind → List ℕ → List ℕ
line_text kind numbers = word_of kind ++ spaced numbers

-- a line with its line end
unfoldable pub ended_line : LineKind → List ℕ → List ℕ
ended_line kind numbers = line_text kind numbers ++ 10 ∷ []

-- the words are the decimals of these numbers, so many and none above the limit
abbrev pub AreDecimals : ℕ → ℕ → List (List ℕ) → List ℕ → Type 0
AreDecimals limit count words numbers = Spells decimal (λ number. number ≤ limit) count words numbers

-- these bytes are the line of this kind that has these numbers, as many as so many users want and none above the limit
pub record IsLine (kind : LineKind) (users : ℕ) (line numbers : List ℕ) : Type 0 where
  pub spelled : line ≡ line_text kind numbers
  pub many : length numbers ≡ count_of kind users
  pub within : All (λ number. number ≤ limit_of kind) numbers

-- these bytes are no line of this kind
abbrev pub IsNoLine : LineKind → ℕ → List ℕ → Type 0
IsNoLine kind users line = (numbers : List ℕ) → IsLine kind users line numbers → ⊥

-- ---- the lines of a block
-- a line of a block: that of the roster, or one of numbers
pub data BlockLine : Type 0 where
  Roster : BlockLine
  Numbers : LineKind → BlockLine

-- the lines of a block, in their order: that of the roster stands where it is told
abbrev pub block_lines : Bool → List BlockLine
block_lines true = Numbers Quantum ∷ Roster ∷ Numbers Demand ∷ Numbers Slices ∷ Numbers Credits ∷ []
block_lines false = Numbers Quantum ∷ Numbers Demand ∷ Numbers Slices ∷ Numbers Credits ∷ []

-- what a report has for a line, without the line end
abbrev pub text_of : Report → BlockLine → List ℕ
text_of report Roster = shares_text (roster_of report)
text_of report (Numbers kind) = line_text kind (numbers_of kind report)

-- and with it
abbrev pub ended_text : Report → BlockLine → List ℕ
ended_text report Roster = ended_shares (roster_of report)
ended_text report (Numbers kind) = ended_line kind (numbers_of kind report)

-- the line of the roster, where it changed
abbrev pub roster_text : Report → List ℕ
roster_text report = if report.changed then ended_text report Roster else []

-- what it has for these lines
abbrev pub lines_text : Report → List BlockLine → List ℕ
lines_text report lines = flat_map (ended_text report) lines

-- the lines of a report
abbrev pub report_text : Report → List ℕ
report_text report = lines_text report (block_lines report.changed)

-- ---- what is within the grammar
-- what a report has for a line may stand in a block after one with the roster `before`
abbrev pub IsWithin : Shape → List (Option Share) → Report → BlockLine → Type 0
IsWithin shape before report Roster = IsNewRoster shape before (roster_of report) × All IsSeated report.rows
IsWithin shape before report (Numbers kind) = All (λ number. number ≤ limit_of kind) (numbers_of kind report)

-- these bytes are the line of such a block that has what the report has
abbrev pub IsLineOf : Shape → List (Option Share) → Report → BlockLine → List ℕ → Type 0
IsLineOf shape before report Roster bytes = IsSharesLine shape before bytes (roster_of report)
IsLineOf shape before report (Numbers kind) bytes = IsLine kind (length report.rows) bytes (numbers_of kind report)

-- these bytes are no such line
abbrev pub IsNoLineOf : Shape → List (Option Share) → BlockLine → List ℕ → Type 0
IsNoLineOf shape before Roster bytes = IsNoSharesLine shape before bytes
IsNoLineOf shape before (Numbers kind) bytes = IsNoLine kind (length before) bytes

-- The report's lines are a block after one with these rows: no number is above its limit, and where it tells a
-- roster, that is a new one. Else its users have the shares of before.
pub record IsBlock (shape : Shape) (before : List Row) (report : Report) : Type 0 where
  pub users : length report.rows ≡ length before
  pub numbers : (kind : LineKind) → All (λ number. number ≤ limit_of kind) (numbers_of kind report)
  pub told : OnTrue report.changed (IsNewRoster shape (map seat_of before) (roster_of report)
      × All IsSeated report.rows)
  pub untold : OnFalse report.changed (map untold report.rows ≡ map untold before)
