-- Laws of counts of faults.
use Rattle.std.proofs.Common.{◌≡◌, ℕ, ◌≤◌, Option, Some, None, Result, Ok, Err, refl, ◌∙◌, subst, arith}
use Rattle.std.specs.Prelude.{IfSome, OnErr}
use Rattle.far_io.specs.Faults.{Faults, Rose, Follows, HasCause}

follows_none : (most : Option ℕ) (n : ℕ) → IfSome most (λ m. n ≤ m → n ≤ m)
follows_none None n = tt
follows_none (Some m) n = λ h. h

pub follows_itself : (a : Faults) → Follows a a
follows_itself a = record { later = omega arith; most = refl; within = follows_none a.most a.count }

within_on : (most before : Option ℕ) (a b c : ℕ) → most ≡ before → IfSome before (λ m. a ≤ m → b ≤ m) → IfSome most (λ m. b ≤ m → c ≤ m) → IfSome most (λ m. a ≤ m → c ≤ m)
within_on None before a b c same first second = tt
within_on (Some m) None a b c same first second = absurd (cc)
within_on (Some m) (Some n) a b c same first second = λ h. let e : m ≡ n = cc in second (rw e (first (rw (← e) h)))

pub follows_on : (a b c : Faults) → Follows a b → Follows b c → Follows a c
follows_on a b c first second = record {
  later = omega arith;
  most = second.most ∙ first.most;
  within = within_on c.most b.most a.count b.count c.count second.most first.within second.within;
}

pub rose_before : (a b c : Faults) → Follows a b → Rose b c → Rose a c
rose_before a b c first rose = record { rose = omega (arith, rose.rose, first.later); within = rose.within }

within_after : (most before : Option ℕ) (b c : ℕ) → most ≡ before → IfSome before (λ m. b ≤ m) → IfSome most (λ m. b ≤ m → c ≤ m) → IfSome most (λ m. c ≤ m)
within_after None before b c same first second = tt
within_after (Some m) None b c same first second = absurd (cc)
within_after (Some m) (Some n) b c same first second = let e : m ≡ n = cc in second (rw e first)

pub rose_after : (a b c : Faults) → Rose a b → Follows b c → Rose a c
rose_after a b c rose second = record {
  rose = omega (arith, rose.rose, second.later);
  within = within_after c.most b.most b.count c.count second.most rose.within second.within;
}

-- an object that tells 0 as its greatest count never fails
pub never_rises : (a b : Faults) → Follows a b → a.most ≡ Some 0 → Rose a b → ⊥
never_rises a b follows never rose =
    let within : b.count ≤ 0 = subst (λ most. IfSome most (λ m. b.count ≤ m)) (follows.most ∙ never) rose.within in omega (arith, rose.rose)

pub on_error : {T E P : Type 0} (result : Result T E) → P → OnErr result P
on_error (Ok _) fact = tt
on_error (Err _) fact = fact

-- a call that failed, after others
pub failed_after : {U F : Type 0} (a b c : Faults) (result : Result U F) → Follows a b → Follows b c → Rose b c → HasCause a c result
failed_after a b c result before follows rose = record {
  follows = follows_on a b c before follows;
  failed = on_error result (rose_before a b c before rose);
}

-- a call after others that met no fault
pub cause_after : {U F : Type 0} (a b c : Faults) (result : Result U F) → Follows a b → HasCause b c result → HasCause a c result
cause_after a b c (Ok x) before cause = record { follows = follows_on a b c before cause.follows; failed = tt }
cause_after a b c (Err x) before cause = record { follows = follows_on a b c before cause.follows; failed = rose_before a b c before cause.failed }

-- the same fault, in whatever result it is answered
pub cause_of : {T E U F : Type 0} (a b : Faults) (error : E) (result : Result U F) → HasCause {T = T} a b (Err error) → HasCause a b result
cause_of a b error result cause = record { follows = cause.follows; failed = on_error result cause.failed }
