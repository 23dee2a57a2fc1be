-- What a taker of lines does with a line, and at the end of the input.
use Rattle.std.specs.Prelude.{◌≡◌, ℕ, List, Some, None, Ok, Err}
use Rattle.std.specs.declared.option.Option.{Option}
use Rattle.std.specs.declared.result.Result.{Result}
use Rattle.far_io.specs.Adds.{Adds, AddsPrefix}
use Rattle.far_io.specs.declared.put.WriteFault.{WriteFault as WriteError}
use Rattle.run_end.specs.Why.{End, end_of}
use Rattle.run_end.specs.declared.status.Status.{Status}
use Rattle.run_end.specs.declared.status.Status.TheVariants.{Done, BadWords, BadLine, ReadFault, WriteFault, NoMemory, Spent, NotKarma}
use Rattle.run_end.specs.declared.why.Why.{Why}
use Rattle.line_run.specs.Chunks.{Chunk, chunk_of}

-- the rules of a run over lines, for the states that it goes through
pub record LineRules (R : Type 0) : Type 1 where
  -- from the first state the line is taken, this text is written for it, and the run goes on from the other state
  pub takes : R → Chunk → R → Type 0
  -- from the first state the run ends at this line, in the other state and with this last text
  pub stops : R → List ℕ → R → End → List ℕ → Type 0
  -- at the end of the input the run ends, with this last text, and the state stays
  pub over : R → End → List ℕ → Type 0
  -- whatever the line, nothing is written for it
  pub quiet : Type 0

-- a taker ends a run itself: neither the source nor the sink failed
abbrev pub IsOwnEnd : Status → Type 0
IsOwnEnd Done = Unit {0}
IsOwnEnd BadWords = ⊥
IsOwnEnd BadLine = Unit {0}
IsOwnEnd ReadFault = ⊥
IsOwnEnd WriteFault = ⊥
IsOwnEnd NoMemory = Unit {0}
IsOwnEnd Spent = Unit {0}
IsOwnEnd NotKarma = Unit {0}

-- the line was taken, and the sink took its text
pub record TakesLine {R O : Type 0} (rules : LineRules R) (took : O → O → List ℕ → Type 0) (before now : O) (old new : R) (line : List ℕ) : Type 0 where
  pub text : List ℕ
  pub takes : rules.takes old (chunk_of line text) new
  pub adds : Adds took before now text

-- the line was taken, and the sink failed within its text
pub record BreaksWithinLine {R O : Type 0} (rules : LineRules R) (took : O → O → List ℕ → Type 0) (before now : O) (old new : R) (line : List ℕ) : Type 0 where
  pub text : List ℕ
  pub takes : rules.takes old (chunk_of line text) new
  pub adds : AddsPrefix took before now text

-- the line ends the run, and this is to be written last; nothing was yet
pub record StopsAtLine {R O : Type 0} (rules : LineRules R) (before now : O) (old new : R) (line : List ℕ) (end : End) (last : List ℕ) : Type 0 where
  pub own : IsOwnEnd end.status
  pub stops : rules.stops old line new end last
  pub unsent : now ≡ before

-- what comes of a line; `last` is the last text of a run that ended for a reason
abbrev pub ComesOfLine : {R O : Type 0} → LineRules R → (O → O → List ℕ → Type 0) → (Why → List ℕ) → O → O → R → R → List ℕ → Result (Option Why) WriteError → Type 0
ComesOfLine rules took last before now old new line (Ok None) = TakesLine rules took before now old new line
ComesOfLine rules took last before now old new line (Ok (Some why)) = StopsAtLine rules before now old new line (end_of why) (last why)
ComesOfLine rules took last before now old new line (Err _) = BreaksWithinLine rules took before now old new line
