-- What contracts see of a LineBuf.
use Rattle.std.specs.Prelude.{◌≡◌, ℕ, ◌<◌, ◌≤◌, ◌⊎◌, List, length, take, Bool, true}
use Rattle.std.specs.declared.option.Option.{Option}
use Rattle.far_io.specs.Left.{IsAtEnd}
use Rattle.far_io.specs.Lines.{line_of}

pub record LineView : Type 0 where
  -- the most bytes of a line
  pub limit : ℕ
  -- the last line that was read
  pub line : List ℕ
  -- what was taken from the source, and stands after that line
  pub ahead : List ℕ
  -- the count of lines read
  pub number : ℕ
  -- whether the source answered that nothing is left
  pub ended : Bool

-- Where the buffer remembers an end, a source that has this left is at its end. It holds of a new buffer and any
-- source, and of a buffer and the one source that it is used with.
abbrev pub AgreesOnEnd : LineView → Option (List ℕ) → Type 0
AgreesOnEnd line left = line.ended ≡ true → IsAtEnd left

-- What is ahead tells the next line, or that it is too long, or that none is left: the end is remembered, or more bytes than
-- the limit come before a line end, or a line end is ahead.
abbrev pub AnswersAtOnce : LineView → Type 0
AnswersAtOnce line = (line.ended ≡ true) ⊎ ((line.limit < length (line_of line.ahead)) ⊎ (length (line_of line.ahead) < length line.ahead))

-- no line end stands among the first `searched` of these bytes
pub record IsSearched (searched : ℕ) (bytes : List ℕ) : Type 0 where
  pub within : searched ≤ length bytes
  pub none : line_of (take searched bytes) ≡ take searched bytes
