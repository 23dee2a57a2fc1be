-- What a run wrote, over a source that tells what it had.
use Rattle.std.specs.Prelude.{◌≡◌, ℕ, List, Some}
use Rattle.std.specs.declared.option.Option.{Option}
use Rattle.far_io.specs.Adds.{Adds, AddsPrefix}
use Rattle.far_io.specs.Lines.{lines_of}
use Rattle.run_end.specs.Why.{End}
use Rattle.line_run.specs.Chunks.{HasRead}
use Rattle.plan_run.specs.Ending.{Ending}

-- the sink took the text of the input's lines
abbrev pub WritesText : {O : Type 0} → (O → O → List ℕ → Type 0) → O → O → Option (List ℕ) → (List (List ℕ) → Ending) → Type 0
WritesText took before now input ending = (bytes : List ℕ) → input ≡ Some bytes → Adds took before now (ending (lines_of bytes)).text

-- and this is how they end
abbrev pub EndsAs : Option (List ℕ) → (List (List ℕ) → Ending) → End → Type 0
EndsAs input ending end = (bytes : List ℕ) → input ≡ Some bytes → (ending (lines_of bytes)).end ≡ end

-- the sink took a beginning of that text
abbrev pub WritesPrefix : {O : Type 0} → (O → O → List ℕ → Type 0) → O → O → Option (List ℕ) → (List (List ℕ) → Ending) → Type 0
WritesPrefix took before now input ending = (bytes : List ℕ) → input ≡ Some bytes → AddsPrefix took before now (ending (lines_of bytes)).text

-- The lines whose line ends were read, where so much is left. What was read after them is within the limit of a line.
pub record SeenLines (bytes : List ℕ) (left : Option (List ℕ)) : Type 0 where
  pub lines : List (List ℕ)
  pub rest : List ℕ
  pub left_is : left ≡ Some rest
  pub read : HasRead bytes rest lines

-- such lines were seen, and this holds of them
abbrev pub Seen : Option (List ℕ) → Option (List ℕ) → (List (List ℕ) → Type 0) → Type 0
Seen input left P = (bytes : List ℕ) → input ≡ Some bytes → (seen : SeenLines bytes left) × P seen.lines
