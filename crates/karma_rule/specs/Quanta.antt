-- A whole quantum, by the rows before it and the rows after it.
use Rattle.std.specs.Prelude.{◌≡◌, ◌+◌, ◌<◌, ◌≤◌, List, map, All, EachIndex}
use Rattle.std.specs.Bool.{OnTrue, OnFalse}
use Rattle.karma_rule.specs.declared.row.Row.{Row}
use Rattle.karma_rule.specs.declared.limits.TheConstants.{MOST_FAIR, MOST_DEMAND, CREDITS_BOUND}
use Rattle.karma_rule.specs.Karma.{karma}
use Rattle.karma_rule.specs.Laws.{standing, row_at, total_given, usable, IsLevelled}

-- A row within the limits of a quantum, so that none of its numbers overflows. Who is away has no share and no credits.
pub record IsReady (row : Row) : Type 0 where
  pub fair : row.fair ≤ MOST_FAIR
  pub floor : row.floor ≤ row.fair
  pub demand : row.demand ≤ MOST_DEMAND
  pub credits : row.credits < CREDITS_BOUND
  pub away : OnFalse row.present ((row.fair ≡ 0) × (row.credits ≡ 0))

abbrev pub CanMakeQuantum : List Row → Type 0
CanMakeQuantum rows = All IsReady rows

-- One quantum was made: the rows are those that Karma's rule gives, and keep the laws of the rule.
pub record MakesQuantum (before after : List Row) : Type 0 where
  pub rows : after ≡ karma before
  -- Each user's demand, share and presence stand. It is given no more than it wants, and nothing where it is away.
  pub stands : map standing after ≡ map standing before
  pub wanted : All (λ row. row.given ≤ row.demand) after
  pub away : All (λ row. OnFalse row.present ((row.given ≡ 0) × (row.credits ≡ 0))) after
  -- Credits and slices together come from the credits before and the fair share.
  pub paid : EachIndex before (λ user.
      (row_at after user).credits + (row_at after user).given ≤ (row_at before user).credits + (row_at before user).fair)
  -- All that is of use is given, where nobody present who wants more is out of credits.
  pub within : total_given after ≤ usable before
  pub used : All (λ row. OnTrue row.present (row.given < row.demand → 0 < row.credits)) after
      → total_given after ≡ usable before
  pub levelled : IsLevelled before after
