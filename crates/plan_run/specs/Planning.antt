-- The rules of a plan, of which contracts see the book, and what holds of it.
use Rattle.std.specs.Prelude.{◌≡◌, length, map}
use Rattle.demand_book.specs.Roster.{seat_of}
use Rattle.line_run.specs.LineRules.{LineRules}
use Rattle.plan_run.specs.declared.plan.Plan.{Plan}
use Rattle.plan_run.specs.Ending.{rules_of}
use Rattle.plan_run.specs.PlanText.{plan_one, plan_over}

abbrev pub plan_rules : LineRules Plan
plan_rules = rules_of ⊥ (λ plan. plan.book) (λ _. Unit {0}) plan_one plan_over

-- the report has a row for each user, and nobody joins or leaves
pub record IsPlanning (plan : Plan) : Type 0 where
  pub rows : length plan.report.rows ≡ plan.book.shape.users
  pub steady : map seat_of plan.book.rows ≡ plan.book.roster
