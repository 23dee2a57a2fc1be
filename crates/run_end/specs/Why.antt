-- Why a run ended, as contracts see it: what else it tells is for a person.
use Rattle.std.specs.Prelude.{◌≡◌, ℕ, Some, None}
use Rattle.std.specs.declared.option.Option.{Option}
use Rattle.run_end.specs.declared.status.Status.{Status}
use Rattle.run_end.specs.declared.status.Status.TheVariants as statuses
use Rattle.run_end.specs.Status.{code_of}
use Rattle.run_end.specs.declared.why.Why.{Why}
use Rattle.run_end.specs.declared.why.Why.TheVariants.{Done, BadWords, BadLine, ReadFault, WriteFault, NoMemory, Spent, NotKarma}

abbrev pub status_of : Why → Status
status_of Done = statuses.Done
status_of (BadWords fault) = statuses.BadWords
status_of (BadLine number fault) = statuses.BadLine
status_of ReadFault = statuses.ReadFault
status_of WriteFault = statuses.WriteFault
status_of NoMemory = statuses.NoMemory
status_of Spent = statuses.Spent
status_of (NotKarma number) = statuses.NotKarma

-- the number of the line that ended it, where one is told
abbrev pub number_of : Why → Option ℕ
number_of Done = None
number_of (BadWords fault) = None
number_of (BadLine number fault) = Some number
number_of ReadFault = None
number_of WriteFault = None
number_of NoMemory = None
number_of Spent = None
number_of (NotKarma number) = Some number

-- how a run ended: its status, and the number of the line that ended it, where one is told
pub record End : Type 0 where
  pub status : Status
  pub line : Option ℕ

abbrev pub end_of : Why → End
end_of why = record { status = status_of why; line = number_of why }

-- the number is that of a status with which a run may end so
pub record EndsWith (code : ℕ) (P : End → Type 0) : Type 0 where
  pub end : End
  pub code_is : code ≡ code_of end.status
  pub holds : P end
