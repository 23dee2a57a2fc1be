-- What read_report answers.
use Rattle.std.specs.Prelude.{◌≡◌, ◌≢◌, ℕ, ◌+◌, ◌-◌, ◌^◌, ◌<◌, ◌≤◌, ◌⊎◌, min, if◌then◌else◌, Bool, true, false, List}
use Rattle.std.specs.Prelude.{[], ◌∷◌, ◌++◌, length, map, All, Some, Ok, Err}
use Rattle.std.specs.declared.result.Result.{Result}
use Rattle.std.specs.declared.option.Option.{Option}
use Rattle.far_io.specs.Faults.{one_more}
use Rattle.far_io.specs.Left.{IsAtEnd}
use Rattle.far_io.specs.Lines.{line_of, after_line}
use Rattle.karma_rule.specs.declared.row.Share.{Share}
use Rattle.karma_rule.specs.declared.shape.Shape.{Shape}
use Rattle.demand_book.specs.declared.report.Report.{Report}
use Rattle.quantum_text.specs.declared.line_kind.LineKind.{LineKind}
use Rattle.quantum_text.specs.declared.line_kind.LineKind.TheVariants.{Quantum, Demand}
use Rattle.quantum_text.specs.declared.read.ReportTextEnd.{ReportTextEnd}
use Rattle.quantum_text.specs.declared.read.ReportTextEnd.TheVariants.{End, BadLine, ReadFault}
use Rattle.quantum_text.specs.LineKind.{numbers_of, untold}
use Rattle.quantum_text.specs.Shares.{roster_of}
use Rattle.quantum_text.specs.Block.{BlockLine, Roster, Numbers, block_lines, text_of, report_text, IsWithin}
use Rattle.quantum_text.specs.Block.{IsLineOf, IsNoLineOf, IsBlock}

-- ---- bytes and lines
-- The bytes begin with these lines, in this order, that have what the report has, and none is longer than the limit.
-- After them comes `rest`.
abbrev pub BeginsWith : ℕ → Shape → List (Option Share) → Report → List BlockLine → List ℕ → List ℕ → Type 0
BeginsWith limit shape before report [] bytes rest = rest ≡ bytes
BeginsWith limit shape before report (line ∷ lines) bytes rest = (length (line_of bytes) ≤ limit)
    × (IsLineOf shape before report line (line_of bytes)
    × BeginsWith limit shape before report lines (after_line bytes) rest)

-- a block begins with these lines, and this one may come after them
pub record MayFollow (lines : List BlockLine) (line : BlockLine) : Type 0 where
  pub told : Bool
  pub others : List BlockLine
  pub order : block_lines told ≡ lines ++ line ∷ others

-- The next line is bad: it is too long, or none of these. One that is missing is no line either, but where a block
-- begins none need stand.
pub record IsBadNext (limit : ℕ) (shape : Shape) (before : List (Option Share)) (due : BlockLine → Type 0)
    (bytes : List ℕ) : Type 0 where
  pub stands : due (Numbers Quantum) → bytes ≢ []
  pub bad : (limit < length (line_of bytes))
      ⊎ ((line : BlockLine) → due line → IsNoLineOf shape before line (line_of bytes))

-- what is left after a bad line: one that fits the buffer was taken, and one that is too long was not
pub record IsPast (limit : ℕ) (bytes : List ℕ) (now : Option (List ℕ)) : Type 0 where
  pub taken : length (line_of bytes) ≤ limit → now ≡ Some (after_line bytes)
  pub kept : limit < length (line_of bytes) → now ≡ Some bytes

-- These bytes have no line end, and fit the buffer: they are no line yet, and not too long for one.
pub record IsPartLine (limit : ℕ) (bytes : List ℕ) : Type 0 where
  pub part : line_of bytes ≡ bytes
  pub fits : length bytes ≤ limit

-- ---- a whole block
-- the two reports have the same for this line
abbrev pub IsSame : BlockLine → Report → Report → Type 0
IsSame Roster new old = map untold new.rows ≡ map untold old.rows
IsSame (Numbers kind) new old = numbers_of kind new ≡ numbers_of kind old

-- whether the line of the roster is among these
abbrev pub tells_roster : List BlockLine → Bool
tells_roster [] = false
tells_roster (Roster ∷ lines) = true
tells_roster (Numbers kind ∷ lines) = tells_roster lines

-- These lines were read into the report, and nothing changed of the others.
pub record ReadsLines (limit : ℕ) (shape : Shape) (lines : List BlockLine) (before now : Option (List ℕ))
    (old new : Report) : Type 0 where
  pub users : length new.rows ≡ length old.rows
  pub changed : new.changed ≡ tells_roster lines
  pub within : All (λ line. IsWithin shape (roster_of old) new line) lines
  pub others : (line : BlockLine) → All (λ read. line ≢ read) lines → IsSame line new old
  pub told : (bytes : List ℕ) → before ≡ Some bytes → (rest : List ℕ) × (now ≡ Some rest)
      × BeginsWith limit shape (roster_of old) new lines bytes rest

-- the lines before one that is due were read, and `stop` was still to be read
pub record StopsAt (limit : ℕ) (shape : Shape) (before stop : Option (List ℕ)) (old new : Report) : Type 0 where
  pub lines : List BlockLine
  pub due : BlockLine
  pub follows : MayFollow lines due
  pub front : ReadsLines limit shape lines before stop old new

-- no line is left where a block would begin
pub record FindsEnd (before now : Option (List ℕ)) (old new : Report) : Type 0 where
  pub nothing : IsAtEnd before
  pub kept : now ≡ before
  pub report : new ≡ record old { changed = false }

-- a line is bad, after those that were read
pub record ReadsBadLine (limit : ℕ) (shape : Shape) (number : ℕ) (before now : Option (List ℕ)) (old new : Report)
    (line : ℕ) : Type 0 where
  pub stop : Option (List ℕ)
  pub stops : StopsAt limit shape before stop old new
  pub line_is : line ≡ min (number + length stops.lines + 1) (2 ^ 64 - 1)
  pub bad : (bytes : List ℕ) → stop ≡ Some bytes → IsBadNext limit shape (roster_of old) (MayFollow stops.lines) bytes
  pub past : (bytes : List ℕ) → stop ≡ Some bytes → IsPast limit bytes now

-- The answers of a call that reads the first lines of a block, `whole` of them, over a buffer for lines of at most
-- `limit` bytes that has read `number` lines, where `before` is to be read at first and `now` afterwards, the
-- buffer's own part included. Which lines there are turns on whether a roster is told.
abbrev pub ReadsTo : (Bool → List BlockLine) → ℕ → Shape → ℕ → Option (List ℕ) → Option (List ℕ) → Report → Report
    → Result (Unit {0}) ReportTextEnd → Type 0
ReadsTo whole limit shape number before now old new (Ok _) =
    ReadsLines limit shape (whole new.changed) before now old new
ReadsTo whole limit shape number before now old new (Err End) = FindsEnd before now old new
ReadsTo whole limit shape number before now old new (Err (BadLine line)) =
    ReadsBadLine limit shape number before now old new line
ReadsTo whole limit shape number before now old new (Err ReadFault) = StopsAt limit shape before now old new

-- the answers of read_report
abbrev pub ReadsBlock : ℕ → Shape → ℕ → Option (List ℕ) → Option (List ℕ) → Report → Report
    → Result (Unit {0}) ReportTextEnd → Type 0
ReadsBlock limit shape number before now old new result =
    ReadsTo block_lines limit shape number before now old new result

-- the lines of a block up to that of the demands
abbrev pub first_lines : Bool → List BlockLine
first_lines true = Numbers Quantum ∷ Roster ∷ Numbers Demand ∷ []
first_lines false = Numbers Quantum ∷ Numbers Demand ∷ []

-- ---- one line
-- a line that isn't taken is too long, or missing
pub record IsUntaken (limit : ℕ) (begins : Bool) (bytes : List ℕ) (now : Option (List ℕ)) : Type 0 where
  pub stands : begins ≡ true → bytes ≢ []
  pub bad : (limit < length (line_of bytes)) ⊎ (line_of bytes ≡ [])
  pub past : IsPast limit bytes now

-- why no line was taken, which need not stand where the block begins
abbrev pub TakesNone : ℕ → ℕ → Bool → Option (List ℕ) → Option (List ℕ) → ReportTextEnd → Type 0
TakesNone limit number begins before now End = (begins ≡ true) × (IsAtEnd before × (now ≡ before))
TakesNone limit number begins before now (BadLine line) =
    (line ≡ one_more number) × ((bytes : List ℕ) → before ≡ Some bytes → IsUntaken limit begins bytes now)
TakesNone limit number begins before now ReadFault = now ≡ before

-- the next line was read as this one
pub record ReadsOne (limit : ℕ) (shape : Shape) (line : BlockLine) (before now : Option (List ℕ))
    (old new : Report) : Type 0 where
  pub users : length new.rows ≡ length old.rows
  pub changed : new.changed ≡ (if tells_roster (line ∷ []) then true else old.changed)
  pub within : IsWithin shape (roster_of old) new line
  pub others : (other : BlockLine) → other ≢ line → IsSame other new old
  pub told : (bytes : List ℕ) → before ≡ Some bytes → (rest : List ℕ) × (now ≡ Some rest)
      × BeginsWith limit shape (roster_of old) new (line ∷ []) bytes rest

-- it is none of those that are due
pub record ReadsBad (limit : ℕ) (shape : Shape) (number : ℕ) (due : BlockLine → Type 0) (before now : Option (List ℕ))
    (old new : Report) (line : ℕ) : Type 0 where
  pub report : new ≡ old
  pub line_is : line ≡ one_more number
  pub bad : (bytes : List ℕ) → before ≡ Some bytes → IsBadNext limit shape (roster_of old) due bytes
  pub past : (bytes : List ℕ) → before ≡ Some bytes → IsPast limit bytes now

-- why a line wasn't read
abbrev pub ReadsNone : ℕ → Shape → ℕ → (BlockLine → Type 0) → Option (List ℕ) → Option (List ℕ) → Report → Report
    → ReportTextEnd → Type 0
ReadsNone limit shape number due before now old new End =
    due (Numbers Quantum) × (IsAtEnd before × ((now ≡ before) × (new ≡ old)))
ReadsNone limit shape number due before now old new (BadLine line) =
    ReadsBad limit shape number due before now old new line
ReadsNone limit shape number due before now old new ReadFault = (new ≡ old) × (now ≡ before)

-- The answers of a call that reads the line of one kind.
abbrev pub ReadsKind : ℕ → Shape → ℕ → LineKind → Option (List ℕ) → Option (List ℕ) → Report → Report
    → Result (Unit {0}) ReportTextEnd → Type 0
ReadsKind limit shape number kind before now old new (Ok _) = ReadsOne limit shape (Numbers kind) before now old new
ReadsKind limit shape number kind before now old new (Err end) =
    ReadsNone limit shape number (λ line. line ≡ Numbers kind) before now old new end

-- a block's second line is that of the roster, or that of the demands
abbrev pub second_line : Bool → BlockLine
second_line true = Roster
second_line false = Numbers Demand

abbrev pub IsSecond : BlockLine → Type 0
IsSecond line = (told : Bool) × (line ≡ second_line told)

-- The answers of the call that reads it: at Ok, whether it is that of the roster.
abbrev pub ReadsSecond : ℕ → Shape → ℕ → Option (List ℕ) → Option (List ℕ) → Report → Report
    → Result Bool ReportTextEnd → Type 0
ReadsSecond limit shape number before now old new (Ok told) = ReadsOne limit shape (second_line told) before now old new
ReadsSecond limit shape number before now old new (Err end) =
    ReadsNone limit shape number IsSecond before now old new end

-- ---- one spelling
-- What was written is read again, and after it what follows it, or the source failed.
abbrev pub ReadsAgain : Report → List ℕ → Option (List ℕ) → Report → Result (Unit {0}) ReportTextEnd → Type 0
ReadsAgain report more now new (Ok _) = (new ≡ report) × (now ≡ Some more)
ReadsAgain report more now new (Err End) = ⊥
ReadsAgain report more now new (Err (BadLine line)) = ⊥
ReadsAgain report more now new (Err ReadFault) = Unit {0}

-- the lines of a report fit a buffer of this limit
abbrev pub LinesFit : ℕ → Report → Type 0
LinesFit limit report = All (λ line. length (text_of report line) ≤ limit) (block_lines report.changed)

-- One spelling: where these bytes begin with the text of a report whose lines are a block after one with the rows
-- that are read into, and fit the buffer, that report is read.
abbrev pub IsReadAgain : ℕ → Shape → Option (List ℕ) → Option (List ℕ) → Report → Report
    → Result (Unit {0}) ReportTextEnd → Type 0
IsReadAgain limit shape before now old new result =
    (report : Report) (more : List ℕ) → before ≡ Some (report_text report ++ more)
    → IsBlock shape old.rows report → LinesFit limit report → ReadsAgain report more now new result
