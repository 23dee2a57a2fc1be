-- The last lines of runs.
use Rattle.std.specs.Prelude.{ℕ, List, [], ◌∷◌, ◌++◌, codes, decimal}
use Rattle.run_end.specs.declared.why.Why.{Why}
use Rattle.run_end.specs.declared.why.Why.TheVariants.{Done, BadWords, BadLine, ReadFault, WriteFault, NoMemory, Spent, NotKarma}

unfoldable pub bad_line : ℕ → List ℕ
bad_line number = codes "bad line " ++ decimal number ++ 10 ∷ []

unfoldable pub spent_line : List ℕ
spent_line = codes "spent" ++ 10 ∷ []

unfoldable pub bad_words_line : List ℕ
bad_words_line = codes "bad words" ++ 10 ∷ []

unfoldable pub no_memory_line : List ℕ
no_memory_line = codes "nomemory" ++ 10 ∷ []

-- the last line where it is of no more than the status and a line's number; else none
abbrev pub last_line : Why → List ℕ
last_line Done = []
last_line (BadWords fault) = bad_words_line
last_line (BadLine number fault) = bad_line number
last_line ReadFault = []
last_line WriteFault = []
last_line NoMemory = no_memory_line
last_line Spent = spent_line
last_line (NotKarma number) = []
