-- Counts of faults, and when a fault may be answered.
use Rattle.std.specs.Prelude.{◌≡◌, ℕ, ◌+◌, ◌-◌, ◌^◌, ◌≤◌, min, OnErr, IfSome, Some, None}
use Rattle.std.specs.declared.result.Result.{Result}
use Rattle.std.specs.declared.option.Option.{Option}

-- the count of one more, which stands still at the greatest u64
abbrev pub one_more : ℕ → ℕ
one_more count = min (count + 1) (2 ^ 64 - 1)

-- how many faults an object counted, and the greatest count that it can ever reach, where it tells that
pub record Faults : Type 0 where
  pub count : ℕ
  pub most : Option ℕ

-- of an object that doesn't tell the greatest count
abbrev pub counted : ℕ → Faults
counted faults = record { count = faults; most = None }

-- of an object that never fails
abbrev pub never_failing : Faults
never_failing = record { count = 0; most = Some 0 }

-- the count rose, or stands at its greatest value, and is still within what the object tells
pub record Rose (before now : Faults) : Type 0 where
  pub rose : one_more before.count ≤ now.count
  pub within : IfSome now.most (λ most. now.count ≤ most)

-- what holds of an object's faults over any calls, none included
pub record Follows (before now : Faults) : Type 0 where
  pub later : before.count ≤ now.count
  pub most : now.most ≡ before.most
  pub within : IfSome now.most (λ most. before.count ≤ most → now.count ≤ most)

-- what holds of them over a call whose one error is a fault of this object
pub record HasCause {T E : Type 0} (before now : Faults) (result : Result T E) : Type 0 where
  pub follows : Follows before now
  pub failed : OnErr result (Rose before now)
