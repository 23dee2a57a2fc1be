-- What a whole run read and wrote, and how it ended.
use Rattle.std.specs.Prelude.{◌≡◌, ℕ, ◌⊎◌, List, [], ◌++◌, None}
use Rattle.std.specs.declared.option.Option.{Option}
use Rattle.far_io.specs.Adds.{Adds, AddsPrefix}
use Rattle.far_io.specs.Faults.{Faults, Rose, Follows}
use Rattle.far_io.specs.Left.{IsAtEnd}
use Rattle.run_end.specs.Status.{IsWhole}
use Rattle.run_end.specs.Why.{End}
use Rattle.run_end.specs.declared.status.Status.TheVariants.{BadWords, ReadFault, WriteFault, NoMemory}
use Rattle.line_run.specs.Chunks.{Chunk, Path, texts_of, AllLines, LinesBefore, FirstLines, EndedLines}
use Rattle.line_run.specs.LineRules.{LineRules, IsOwnEnd}

-- a source before and after a run: what it has left, where it tells that, and its faults
pub record Reading : Type 0 where
  pub input : Option (List ℕ)
  pub left : Option (List ℕ)
  pub faults : Faults
  pub faults_now : Faults

abbrev pub reading : {I : Type 0} → (I → Option (List ℕ)) → (I → Faults) → I → I → Reading
reading left faults before now = record { input = left before; left = left now; faults = faults before; faults_now = faults now }

-- after these lines the run ended in the final state, with this last text: at the line that came next, or at the end of the input
abbrev pub EndsAfter : {R : Type 0} → LineRules R → Reading → List Chunk → R → R → End → List ℕ → Type 0
EndsAfter rules read chunks last final end text =
    ((line : List ℕ) × rules.stops last line final end text × LinesBefore read.input chunks line)
    ⊎ (rules.over last end text × AllLines read.input chunks × IsAtEnd read.left × (final ≡ last))

-- the final state is that after these lines, or that in which the line that came next ended the run
abbrev pub IsLeftAfter : {R : Type 0} → LineRules R → Reading → List Chunk → R → R → Type 0
IsLeftAfter rules read chunks last final = (final ≡ last) ⊎ ((line : List ℕ) × (end : End) × (text : List ℕ) × rules.stops last line final end text × LinesBefore read.input chunks line)

-- Lines were taken from the first state on, and the sink took the text of each. The run ends then with this last text, which is not written yet; or the source
-- failed, and the lines are those whose line ends were read.
pub record ComesTo {R O : Type 0} (rules : LineRules R) (read : Reading) (took : O → O → List ℕ → Type 0) (before now : O) (first final : R) (end : End) (text : List ℕ) : Type 0 where
  pub chunks : List Chunk
  pub last : R
  pub path : Path rules.takes first chunks last
  pub adds : Adds took before now (texts_of chunks)
  pub how : IsOwnEnd end.status ⊎ (end.status ≡ ReadFault)
  pub ends : IsOwnEnd end.status → EndsAfter rules read chunks last final end text
  pub ended : end.status ≡ ReadFault → FirstLines read.input chunks × EndedLines read.input read.left chunks × (final ≡ last)

-- Lines were taken from the first state on, and then the run ended. The sink took the text of each, and the last text.
pub record RunsToEnd {R O : Type 0} (rules : LineRules R) (read : Reading) (took : O → O → List ℕ → Type 0) (before now : O) (first final : R) (end : End) : Type 0 where
  pub chunks : List Chunk
  pub last : R
  pub text : List ℕ
  pub path : Path rules.takes first chunks last
  pub ends : EndsAfter rules read chunks last final end text
  pub adds : Adds took before now (texts_of chunks ++ text)

-- The source failed. The lines whose line ends were read are those that were taken, and the sink took their texts.
pub record RunsToFault {R O : Type 0} (rules : LineRules R) (read : Reading) (took : O → O → List ℕ → Type 0) (before now : O) (first final : R) : Type 0 where
  pub chunks : List Chunk
  pub last : R
  pub path : Path rules.takes first chunks last
  pub firsts : FirstLines read.input chunks
  pub ended : EndedLines read.input read.left chunks
  pub stays : final ≡ last
  pub adds : Adds took before now (texts_of chunks)
  pub unsent : rules.quiet → now ≡ before
  pub rose : Rose read.faults read.faults_now

-- The sink failed within the text of the lines that were taken and the last text, if the run came to one.
pub record BreaksOff {R O : Type 0} (rules : LineRules R) (read : Reading) (took : O → O → List ℕ → Type 0) (faults : O → Faults) (before now : O) (first final : R) : Type 0 where
  pub chunks : List Chunk
  pub last : R
  pub text : List ℕ
  pub path : Path rules.takes first chunks last
  pub ends : ((text ≡ []) × FirstLines read.input chunks × IsLeftAfter rules read chunks last final) ⊎ ((end : End) × EndsAfter rules read chunks last final end text)
  pub adds : AddsPrefix took before now (texts_of chunks ++ text)
  pub rose : Rose (faults before) (faults now)

-- No memory was left. The sink took the text of each line, and of the last text all but for a fault of its own.
pub record RunsShort {R O : Type 0} (rules : LineRules R) (read : Reading) (took : O → O → List ℕ → Type 0) (faults : O → Faults) (before now : O) (first final : R) (end : End) : Type 0 where
  pub chunks : List Chunk
  pub last : R
  pub text : List ℕ
  pub path : Path rules.takes first chunks last
  pub ends : EndsAfter rules read chunks last final end text
  pub sent : List ℕ
  pub unsent : List ℕ
  pub whole : sent ++ unsent ≡ text
  pub but_for : (unsent ≡ []) ⊎ Rose (faults before) (faults now)
  pub adds : Adds took before now (texts_of chunks ++ sent)

-- how a run from the first state ended, and in which state
pub record RunsTo {R O : Type 0} (rules : LineRules R) (read : Reading) (took : O → O → List ℕ → Type 0) (faults : O → Faults) (before now : O) (first final : R) (end : End) : Type 0 where
  pub known : end.status ≡ BadWords → ⊥
  pub whole : IsWhole end.status → RunsToEnd rules read took before now first final end
  pub read_fault : end.status ≡ ReadFault → RunsToFault rules read took before now first final
  pub write_fault : end.status ≡ WriteFault → BreaksOff rules read took faults before now first final
  pub no_memory : end.status ≡ NoMemory → RunsShort rules read took faults before now first final end
  pub source : Follows read.faults read.faults_now
  pub sink : Follows (faults before) (faults now)

-- What came of writing the last text of a run that came to this end. Want of memory stays the end where the sink fails within its text.
pub data PutsLast {O : Type 0} (took : O → O → List ℕ → Type 0) (faults : O → Faults) (before now : O) (text : List ℕ) (end : End) : End → Type 0 where
  All : Adds took before now text → PutsLast took faults before now text end end
  Short : end.status ≡ NoMemory → AddsPrefix took before now text → Rose (faults before) (faults now) → PutsLast took faults before now text end end
  Broken : AddsPrefix took before now text → Rose (faults before) (faults now) → PutsLast took faults before now text end (record { status = WriteFault; line = None })
