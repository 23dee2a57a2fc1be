-- The statuses of runs.
use Rattle.std.specs.Prelude.{ℕ}
use Rattle.run_end.specs.declared.status.Status.{Status}
use Rattle.run_end.specs.declared.status.Status.TheVariants.{Done, BadWords, BadLine, ReadFault, WriteFault, NoMemory, Spent, NotKarma}

-- the number that a program ends with
abbrev pub code_of : Status → ℕ
code_of Done = 0
code_of BadWords = 2
code_of BadLine = 3
code_of ReadFault = 4
code_of WriteFault = 5
code_of NoMemory = 6
code_of Spent = 7
code_of NotKarma = 9

-- the input decided it: it ended, a line was bad, no further line was taken, or a line was found to differ
abbrev pub IsWhole : Status → Type 0
IsWhole Done = Unit {0}
IsWhole BadWords = ⊥
IsWhole BadLine = Unit {0}
IsWhole ReadFault = ⊥
IsWhole WriteFault = ⊥
IsWhole NoMemory = ⊥
IsWhole Spent = Unit {0}
IsWhole NotKarma = Unit {0}
