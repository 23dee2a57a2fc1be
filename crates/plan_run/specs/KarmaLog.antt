-- What a log of Karma is, whole.
use Rattle.std.specs.Prelude.{◌≡◌, ℕ, ◌≤◌, true, if◌then◌else◌, List, [], ◌∷◌, ◌++◌, length, map, All}
use Rattle.std.specs.declared.option.Option.{Option}
use Rattle.karma_rule.specs.declared.row.Share.{Share}
use Rattle.karma_rule.specs.declared.shape.Shape.{Shape}
use Rattle.demand_book.specs.Book.{BookView, opening_book}
use Rattle.quantum_text.specs.declared.line_kind.LineKind.TheVariants.{Quantum, Demand, Slices, Credits}
use Rattle.quantum_text.specs.Block.{line_text}
use Rattle.quantum_text.specs.Shares.{shares_text}
use Rattle.demand_book.specs.declared.book.TheConstants.{QUANTA}
use Rattle.karma_rule.specs.declared.limits.TheConstants.{MOST_DEMAND}
use Rattle.plan_run.specs.AuditText.{with_seats, after_demands}
use Rattle.plan_run.specs.SharesLine.{same_roster, is_roster}

-- what a quantum is made of: who is present with which share, and what each user demands
pub record Cause : Type 0 where
  pub roster : List (Option Share)
  pub demands : List ℕ

-- the roster is within its limits, and every user demands at most MOST_DEMAND
pub record IsCause (shape : Shape) (cause : Cause) : Type 0 where
  pub roster : is_roster shape cause.roster ≡ true
  pub users : length cause.demands ≡ shape.users
  pub within : All (λ demand. demand ≤ MOST_DEMAND) cause.demands

-- The quantum after those of the book: its opening credits are those of the book's roster rules.
abbrev pub after_cause : BookView → Cause → BookView
after_cause book cause = after_demands (with_seats book cause.roster) cause.demands

-- The line of shares stands exactly where the roster isn't that of the block before.
abbrev pub shares_lines : List (Option Share) → List (Option Share) → List (List ℕ)
shares_lines before roster = if same_roster roster before then [] else shares_text roster ∷ []

-- The lines of the quanta that these causes bring: of each its number, its line of shares, the demands, and the slices and credits that the rule gives for them,
-- for its roster, and for the credits of the quantum before.
unfoldable pub log_lines : BookView → List Cause → List (List ℕ)
log_lines book [] = []
log_lines book (cause ∷ causes) =
    (line_text Quantum (book.quanta ∷ []) ∷ shares_lines book.roster cause.roster)
    ++ (line_text Demand cause.demands
    ∷ line_text Slices (map (λ row. row.given) (after_cause book cause).rows)
    ∷ line_text Credits (map (λ row. row.credits) (after_cause book cause).rows)
    ∷ log_lines (after_cause book cause) causes)

-- The lines are those of some quanta, at most QUANTA, after the opening: before the first, all users are present with the shape's share and credits.
pub record IsKarmaLog (shape : Shape) (lines : List (List ℕ)) : Type 0 where
  pub causes : List Cause
  pub many : length causes ≤ QUANTA
  pub within : All (IsCause shape) causes
  pub lines_are : lines ≡ log_lines (opening_book shape) causes
