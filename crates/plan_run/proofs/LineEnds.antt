-- What one line of input brings.
use Rattle.std.proofs.Common.{◌≡◌, ℕ, zero, suc, ◌↔◌, false, List, length, map, Result, Ok, Err, OnOk, refl, ◌∙◌, ap, [], ◌∷◌}
use Rattle.karma_rule.specs.declared.row.Row.{Row}
use Rattle.karma_rule.specs.Karma.{change_at}
use Rattle.demand_book.specs.Book.{BookView, demanding}
use Rattle.demand_book.specs.Roster.{seat_of}
use Rattle.demand_book.specs.declared.report.Report.{Report}
use Rattle.demand_book.specs.declared.book.QuantaSpent.{QuantaSpent}
use Rattle.plan_run.specs.declared.plan.Plan.{Plan}
use Rattle.plan_run.specs.Planning.{IsPlanning}
use Rattle.plan_run.specs.PlanText.{plan_one, plan_over, plan_end}

-- a demand changes nobody's seat
pub seats_reported : (demand : ℕ) (rows : List Row) (user : ℕ) → map seat_of (change_at (demanding demand) rows user) ≡ map seat_of rows
seats_reported demand [] user = refl
seats_reported demand (row ∷ rows) zero = refl
seats_reported demand (row ∷ rows) (suc user) = ap (λ seats. seat_of row ∷ seats) (seats_reported demand rows user)

-- what a quantum told, where nobody joined or left
pub report_told : (result : Result (Unit {0}) QuantaSpent) (report : Report) (quanta : ℕ) (rows : List Row) (Steady : Type 0) → Steady → OnOk result ((report.quantum ≡ quanta) × (report.rows ≡ rows))
    → OnOk result ((report.changed ≡ false) ↔ Steady) → OnOk result (report ≡ record { quantum = quanta; rows = rows; changed = false })
report_told (Ok done) report quanta rows Steady is told changed =
    ap (λ q. record report { quantum = q }) told.0 ∙ ap (λ rs. record report { quantum = quanta; rows = rs }) told.1 ∙ ap (λ on. record report { quantum = quanta; rows = rows; changed = on }) (changed.1 is)
report_told (Err end) report quanta rows Steady is told changed = tt

pub holds_then : (result : Result (Unit {0}) QuantaSpent) (plan : Plan) → length plan.report.rows ≡ plan.book.shape.users → OnOk result (map seat_of plan.book.rows ≡ plan.book.roster) → OnOk result (IsPlanning plan)
holds_then (Ok done) plan rows steady = record { rows = rows; steady = steady }
holds_then (Err end) plan rows steady = tt

pub plan_nothing : (book : BookView) → plan_end book [] ≡ plan_over book
unfolding plan_end
plan_nothing book = refl

pub plan_line_is : (book : BookView) (line : List ℕ) (lines : List (List ℕ)) → plan_end book (line ∷ lines) ≡ plan_one book line (λ next. plan_end next lines)
unfolding plan_end
plan_line_is book line lines = refl
