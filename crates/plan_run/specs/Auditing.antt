-- The state of an audit, its rules, and its last text.
use Rattle.std.specs.Prelude.{◌≡◌, ℕ, ◌-◌, ◌<◌, ◌≤◌, ◌^◌, Bool, true, false, List, length, map, All}
use Rattle.std.specs.List.{sum_by}
use Rattle.demand_book.specs.Book.{BookView}
use Rattle.demand_book.specs.Inside.{IsBook}
use Rattle.demand_book.specs.Roster.{seat_of, fair_of_seat}
use Rattle.quantum_text.specs.declared.line_kind.LineKind.TheVariants.{Demand}
use Rattle.line_run.specs.LineRules.{LineRules}
use Rattle.quantum_text.specs.LineKind.{numbers_of}
use Rattle.run_end.specs.LastLines.{last_line}
use Rattle.run_end.specs.declared.why.Why.{Why}
use Rattle.run_end.specs.declared.why.Why.TheVariants.{Done, NotKarma}
use Rattle.demand_book.specs.declared.book.TheConstants.{QUANTA}
use Rattle.plan_run.specs.declared.audit.Audit.{Audit}
use Rattle.plan_run.specs.Ending.{rules_of}
use Rattle.plan_run.specs.AuditText.{AuditState, audit_state, audit_one, audit_over, IsAt, IsMade, ok_line, not_karma}

abbrev pub auditing : Audit → AuditState
auditing audit = audit_state audit.book audit.kind audit.shares_read audit.number

-- a book that the quanta so far may leave, and whether its roster may be another one than that of the last quantum
abbrev pub IsLeft : BookView → Bool → Type 0
IsLeft book changes = IsBook book (sum_by fair_of_seat book.roster) changes

-- the book is one that the quanta and the lines of shares so far may leave, and where demands are due, a quantum is left for them
pub record IsFit (state : AuditState) : Type 0 where
  pub inside : IsLeft state.book state.shares_read
  pub given : All (λ number. number ≤ 2 ^ 64 - 1) (map (λ row. row.given) state.book.rows)
  pub shares : state.shares_read ≡ true → state.kind ≡ Demand
  pub left : state.kind ≡ Demand → state.book.quanta < QUANTA

abbrev pub audit_rules : LineRules Audit
audit_rules = rules_of (Unit {0}) auditing IsFit audit_one audit_over

-- what holds before each line
pub record IsAuditing (audit : Audit) : Type 0 where
  pub read : length audit.read.rows ≡ audit.book.shape.users
  pub wanted : length audit.wanted.rows ≡ audit.book.shape.users
  pub made : IsMade audit.kind audit.wanted.rows audit.book.rows
  pub at : IsAt audit.kind audit.shares_read audit.number audit.book.quanta
  -- A line of shares was read only where demands are due. Until then the roster is that of the last quantum.
  pub shares : audit.shares_read ≡ true → audit.kind ≡ Demand
  pub seats : audit.shares_read ≡ false → map seat_of audit.wanted.rows ≡ audit.book.roster
  pub bound : audit.number < 2 ^ 32

-- the last text of an audit that ends so, at this line
abbrev pub audit_last : Audit → List ℕ → Why → List ℕ
audit_last audit line Done = ok_line audit.book.quanta
audit_last audit line (NotKarma number) = not_karma number audit.kind (numbers_of audit.kind audit.wanted) line
audit_last audit line why = last_line why
