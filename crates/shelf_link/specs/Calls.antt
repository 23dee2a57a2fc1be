-- Calls that are counted from 0, of which those that are listed fail.
use Rattle.std.specs.Prelude.{ℕ, ◌+◌, ◌==◌, List, length, Some}
use Rattle.std.specs.List.{remove, position_or_len}
use Rattle.far_io.specs.Faults.{Faults, one_more}

pub record CallsView : Type 0 where
  -- the numbers of the calls that are still to fail
  pub fails : List ℕ
  -- how many calls were made, and how many failed
  pub calls : ℕ
  pub faults : ℕ

abbrev pub no_calls : List ℕ → CallsView
no_calls fails = record { fails = fails; calls = 0; faults = 0 }

-- a list without the first place where a number stands
abbrev pub without_first : ℕ → List ℕ → List ℕ
without_first number xs = remove xs (position_or_len (λ x. x == number) xs)

-- after a call that went well. Its number is listed no longer
abbrev pub with_call : CallsView → CallsView
with_call view = record {
  fails = without_first view.calls view.fails;
  calls = one_more view.calls;
  faults = view.faults;
}

-- after a call that failed
abbrev pub with_fault : CallsView → CallsView
with_fault view = record {
  fails = without_first view.calls view.fails;
  calls = one_more view.calls;
  faults = one_more view.faults;
}

-- of an object that fails at the listed calls alone: its greatest count is that of all calls that were listed
abbrev pub faults_listed : CallsView → Faults
faults_listed view = record { count = view.faults; most = Some (view.faults + length view.fails) }
