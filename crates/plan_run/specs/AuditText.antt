-- What `audit` writes for the lines of its input, and how it ends.
use Rattle.std.specs.Prelude.{◌≡◌, ℕ, ◌+◌, ◌*◌, ◌<◌, ◌≤◌, nat_eq, nat_le, Bool, true, false, not, ◌&&◌, if◌then◌else◌, List, [], ◌∷◌, ◌++◌, length, map, drop, Some, None, codes, decimal}
use Rattle.std.specs.declared.option.Option.{Option}
use Rattle.std.specs.List.{list_all}
use Rattle.std.specs.Str.{bytes_eq}
use Rattle.far_io.specs.Decimals.{value_of}
use Rattle.far_io.specs.Words.{words_of}
use Rattle.karma_rule.specs.declared.row.Row.{Row}
use Rattle.karma_rule.specs.declared.row.Share.{Share}
use Rattle.karma_rule.specs.declared.shape.Shape.{Shape}
use Rattle.demand_book.specs.Book.{BookView, opening_book, demanding, ticked}
use Rattle.quantum_text.specs.declared.line_kind.LineKind.{LineKind}
use Rattle.quantum_text.specs.declared.line_kind.LineKind.TheVariants.{Quantum, Demand, Slices, Credits}
use Rattle.quantum_text.specs.LineKind.{limit_of, is_first, count_of, numbers_of}
use Rattle.quantum_text.specs.Block.{line_text, ended_line}
use Rattle.run_end.specs.declared.TheConstants.{MOST_LINE}
use Rattle.run_end.specs.declared.status.Status.TheVariants.{Done, BadLine, Spent, NotKarma}
use Rattle.run_end.specs.LastLines.{bad_line, spent_line}
use Rattle.demand_book.specs.declared.book.TheConstants.{QUANTA}
use Rattle.plan_run.specs.Ending.{Ending, ends_as, ends_at}
use Rattle.plan_run.specs.SharesLine.{roster_of_line}

-- after so many blocks
unfoldable pub ok_line : ℕ → List ℕ
ok_line blocks = codes "ok " ++ decimal blocks ++ 10 ∷ []

-- the line with this number isn't the one that is wanted: its number, the wanted line, and the line that was read
unfoldable pub wanted_text : ℕ → LineKind → List ℕ → List ℕ
wanted_text number kind wanted = codes "not karma line " ++ decimal number ++ (10 ∷ codes "want ") ++ ended_line kind wanted

unfoldable pub read_text : List ℕ → List ℕ
read_text line = codes "read " ++ (line ++ 10 ∷ [])

abbrev pub not_karma : ℕ → LineKind → List ℕ → List ℕ → List ℕ
not_karma number kind wanted line = wanted_text number kind wanted ++ read_text line

-- the numbers of a line of this kind, in a block of so many users: those that its words spell, where they make the line again
abbrev pub numbers_read : LineKind → ℕ → List ℕ → Option (List ℕ)
numbers_read kind users line =
    let numbers = map value_of (drop 1 (words_of line)) in
    if bytes_eq line (line_text kind numbers) && nat_eq (length numbers) (count_of kind users) && list_all (λ n. nat_le n (limit_of kind)) numbers then Some numbers else None

-- no line is longer than the limit
abbrev pub numbers_of_line : LineKind → ℕ → List ℕ → Option (List ℕ)
numbers_of_line kind users line = if nat_le (length line) MOST_LINE then numbers_read kind users line else None

-- The book, whose quantum is made once the demands were read; the kind of line that is due; whether the block's line of shares was read, where demands are due;
-- and how many lines were read.
pub record AuditState : Type 0 where
  pub book : BookView
  pub kind : LineKind
  pub shares_read : Bool
  pub lines : ℕ

abbrev pub audit_state : BookView → LineKind → Bool → ℕ → AuditState
audit_state book kind shares_read lines = record { book = book; kind = kind; shares_read = shares_read; lines = lines }

-- How many lines were read at most, by the quanta made: five for each block. Where demands are due, a quantum is left for them.
abbrev pub IsAt : LineKind → Bool → ℕ → ℕ → Type 0
IsAt Quantum shares_read lines quanta = lines ≤ 5 * quanta
IsAt Demand shares_read lines quanta = (lines ≤ 5 * quanta + (if shares_read then 2 else 1)) × (quanta < QUANTA)
IsAt Slices shares_read lines quanta = lines + 2 ≤ 5 * quanta
IsAt Credits shares_read lines quanta = lines + 1 ≤ 5 * quanta

-- where slices or credits are due, the rows are those of the quantum
abbrev pub IsMade : LineKind → List Row → List Row → Type 0
IsMade Quantum rows made = Unit {0}
IsMade Demand rows made = Unit {0}
IsMade Slices rows made = rows ≡ made
IsMade Credits rows made = rows ≡ made

abbrev pub next_kind : LineKind → LineKind
next_kind Quantum = Demand
next_kind Demand = Slices
next_kind Slices = Credits
next_kind Credits = Quantum

-- the numbers that a line must have: the number of the next quantum, or what the last one gave
abbrev pub wanted : LineKind → BookView → List ℕ
wanted kind book = numbers_of kind (record { quantum = book.quanta; rows = book.rows; changed = false })

abbrev pub with_demands : List ℕ → List Row → List Row
with_demands [] rows = rows
with_demands (demand ∷ demands) [] = []
with_demands (demand ∷ demands) (row ∷ rows) = demanding demand row ∷ with_demands demands rows

-- one quantum of these demands, for the roster that the book has
abbrev pub after_demands : BookView → List ℕ → BookView
after_demands book demands = ticked (record book { rows = with_demands demands book.rows })

-- a line that is none of the kind that is due; after the last quantum any line ends the run
abbrev pub bad_ending : BookView → LineKind → ℕ → Ending
bad_ending book kind lines =
    if is_first kind && nat_le QUANTA book.quanta
    then record { text = spent_line; end = ends_as Spent }
    else record { text = bad_line (lines + 1); end = ends_at BadLine (lines + 1) }

-- a line that has these numbers: any demands are taken, and make a quantum; all else is compared
abbrev pub compared : LineKind → AuditState → List ℕ → List ℕ → (AuditState → Ending) → Ending
compared kind state line numbers others =
    if bytes_eq numbers (wanted kind state.book)
    then others (audit_state state.book (next_kind kind) false (state.lines + 1))
    else record { text = not_karma (state.lines + 1) kind (wanted kind state.book) line; end = ends_at NotKarma (state.lines + 1) }

abbrev pub judged : LineKind → AuditState → List ℕ → List ℕ → (AuditState → Ending) → Ending
judged Quantum state line numbers others = compared Quantum state line numbers others
judged Demand state line numbers others = others (audit_state (after_demands state.book numbers) Slices false (state.lines + 1))
judged Slices state line numbers others = compared Slices state line numbers others
judged Credits state line numbers others = compared Credits state line numbers others

-- the numbers of the line that is due; None where it is none of that kind, and where no quantum is left
abbrev pub due_numbers : BookView → LineKind → List ℕ → Option (List ℕ)
due_numbers book kind line = if is_first kind && nat_le QUANTA book.quanta then None else numbers_of_line kind book.shape.users line

abbrev pub read_as : AuditState → List ℕ → Option (List ℕ) → (AuditState → Ending) → Ending
read_as state line None others = bad_ending state.book state.kind state.lines
read_as state line (Some numbers) others = judged state.kind state line numbers others

-- one line of shares may stand before the demands
abbrev pub may_be_shares : LineKind → Bool → Bool
may_be_shares Quantum shares_read = false
may_be_shares Demand shares_read = not shares_read
may_be_shares Slices shares_read = false
may_be_shares Credits shares_read = false

-- the roster that a line of shares tells, where one may stand
abbrev pub due_roster : BookView → LineKind → Bool → List ℕ → Option (List (Option Share))
due_roster book kind shares_read line = if may_be_shares kind shares_read then roster_of_line book.shape book.roster line else None

-- the roster of the next quantum
abbrev pub with_seats : BookView → List (Option Share) → BookView
with_seats book roster = record book { roster = roster }

-- a line of shares is taken as it is read, and any other line is one of numbers
abbrev pub taken_as : AuditState → List ℕ → Option (List (Option Share)) → (AuditState → Ending) → Ending
taken_as state line None others = read_as state line (due_numbers state.book state.kind line) others
taken_as state line (Some roster) others = others (audit_state (with_seats state.book roster) Demand true (state.lines + 1))

-- one line, over what comes of the lines after it
abbrev pub audit_one : AuditState → List ℕ → (AuditState → Ending) → Ending
audit_one state line others = taken_as state line (due_roster state.book state.kind state.shares_read line) others

-- the end of the input: after whole blocks all is well, and else the line that is missing is bad
abbrev pub audit_over : AuditState → Ending
audit_over state =
    if is_first state.kind
    then record { text = ok_line state.book.quanta; end = ends_as Done }
    else record { text = bad_line (state.lines + 1); end = ends_at BadLine (state.lines + 1) }

unfoldable pub audit_end : AuditState → List (List ℕ) → Ending
audit_end state [] = audit_over state
audit_end state (line ∷ lines) = audit_one state line (λ next. audit_end next lines)

abbrev pub audit_start : Shape → AuditState
audit_start shape = audit_state (opening_book shape) Quantum false 0

-- over the lines of a log, from the opening credits
abbrev pub audited : Shape → List (List ℕ) → Ending
audited shape lines = audit_end (audit_start shape) lines
