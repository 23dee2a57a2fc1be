-- The kinds of lines of numbers in a quantum block.
use Rattle.std.specs.Prelude.{◌≡◌, ◌≢◌, ℕ, ◌-◌, ◌^◌, Bool, true, false, List, [], ◌∷◌, length, map, codes}
use Rattle.karma_rule.specs.declared.limits.TheConstants.{MOST_DEMAND}
use Rattle.karma_rule.specs.declared.row.Row.{Row}
use Rattle.demand_book.specs.declared.report.Report.{Report}
use Rattle.quantum_text.specs.declared.line_kind.LineKind.{LineKind}
use Rattle.quantum_text.specs.declared.line_kind.LineKind.TheVariants.{Quantum, Demand, Slices, Credits}

-- a block has one line of each kind, in this order
abbrev pub block_kinds : List LineKind
block_kinds = Quantum ∷ Demand ∷ Slices ∷ Credits ∷ []

-- the word that the line begins with
abbrev pub word_of : LineKind → List ℕ
word_of Quantum = codes "quantum"
word_of Demand = codes "demand"
word_of Slices = codes "slices"
word_of Credits = codes "credits"

-- the greatest number that may stand on it
abbrev pub limit_of : LineKind → ℕ
limit_of Quantum = 2 ^ 32 - 1
limit_of Demand = MOST_DEMAND
limit_of Slices = 2 ^ 64 - 1
limit_of Credits = 2 ^ 64 - 1

-- whether a block begins with it
abbrev pub is_first : LineKind → Bool
is_first Quantum = true
is_first Demand = false
is_first Slices = false
is_first Credits = false

-- how many numbers stand on it, in a block of so many users
abbrev pub count_of : LineKind → ℕ → ℕ
count_of Quantum users = 1
count_of Demand users = users
count_of Slices users = users
count_of Credits users = users

-- the numbers that a report has for it
abbrev pub numbers_of : LineKind → Report → List ℕ
numbers_of Quantum report = report.quantum ∷ []
numbers_of Demand report = map (λ row. row.demand) report.rows
numbers_of Slices report = map (λ row. row.given) report.rows
numbers_of Credits report = map (λ row. row.credits) report.rows

-- a row without the numbers that these lines tell: its share and its presence
abbrev pub untold : Row → Row
untold row = record row { demand = 0; credits = 0; given = 0 }

-- a row without its share and its presence: the numbers that these lines tell
abbrev pub without_seat : Row → Row
without_seat row = record row { fair = 0; floor = 0; present = false }

-- nothing changed but the numbers of this kind
pub record KeepsOtherKinds (kind : LineKind) (old new : Report) : Type 0 where
  pub users : length new.rows ≡ length old.rows
  pub shares : map untold new.rows ≡ map untold old.rows
  pub changed : new.changed ≡ old.changed
  pub others : (other : LineKind) → other ≢ kind → numbers_of other new ≡ numbers_of other old
