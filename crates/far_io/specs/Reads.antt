-- What read_line answers.
use Rattle.std.specs.Prelude.{◌≡◌, ℕ, ◌+◌, ◌-◌, ◌^◌, ◌<◌, ◌≤◌, ◌⊎◌, min, Bool, true, false, List, [], ◌∷◌, ◌++◌, length, Some, Ok, Err}
use Rattle.std.specs.declared.result.Result.{Result}
use Rattle.std.specs.declared.option.Option.{Option}
use Rattle.far_io.specs.declared.lines.LineEnd.{LineEnd}
use Rattle.far_io.specs.declared.lines.LineEnd.TheVariants.{End, ReadFault, TooLong}
use Rattle.far_io.specs.Left.{in_front}
use Rattle.far_io.specs.LineView.{LineView}
use Rattle.far_io.specs.Lines.{line_of, after_line, ended_lines_of, last_part, IsFirstLine}

-- the line stood first in what was to be read, with its line end, or last and without one
abbrev pub IsSpelled : Option (List ℕ) → Option (List ℕ) → List ℕ → Bool → Type 0
IsSpelled before now line ended = (line_of line ≡ line)
    × (((ended ≡ false) × (before ≡ in_front (line ++ 10 ∷ []) now)) ⊎ ((ended ≡ true) × (0 < length line) × (before ≡ in_front line now)))

-- The answers of read_line, of a source that has before to be read at first and now afterwards, the buffer's own part included.

-- the next line was read
pub record ReadsLine (before now : Option (List ℕ)) (old new : LineView) : Type 0 where
  pub fits : length new.line ≤ old.limit
  pub number : new.number ≡ min (old.number + 1) (2 ^ 64 - 1)
  pub going : old.ended ≡ false
  pub spelled : IsSpelled before now new.line new.ended
  pub told : (bytes : List ℕ) → before ≡ Some bytes → (rest : List ℕ) × (now ≡ Some rest) × IsFirstLine bytes new.line rest

-- nothing is left
pub record ReadsEnd (before now : Option (List ℕ)) (old new : LineView) : Type 0 where
  pub number : new.number ≡ old.number
  pub kept : now ≡ before
  pub ahead : new.ahead ≡ []
  pub ended : new.ended ≡ true

-- the source failed, with no whole line ahead
pub record ReadsFault (before now : Option (List ℕ)) (old new : LineView) : Type 0 where
  pub number : new.number ≡ old.number
  pub kept : now ≡ before
  pub fits : length new.ahead ≤ old.limit
  pub part : line_of new.ahead ≡ new.ahead
  pub going : old.ended ≡ false

-- the next line is too long
pub record ReadsTooLong (before now : Option (List ℕ)) (old new : LineView) (limit : ℕ) : Type 0 where
  pub number : new.number ≡ old.number
  pub kept : now ≡ before
  pub limit_is : limit ≡ old.limit
  pub long : limit < length (line_of new.ahead)
  pub told : (bytes : List ℕ) → before ≡ Some bytes → (limit < length (line_of bytes)) × IsFirstLine bytes (line_of bytes) (after_line bytes)

abbrev pub Reads : Option (List ℕ) → Option (List ℕ) → LineView → LineView → Result (Unit {0}) LineEnd → Type 0
Reads before now old new (Ok _) = ReadsLine before now old new
Reads before now old new (Err End) = ReadsEnd before now old new
Reads before now old new (Err ReadFault) = ReadsFault before now old new
Reads before now old new (Err (TooLong limit)) = ReadsTooLong before now old new limit

-- At a fault, after these lines: of a told input so much was seen that its ended lines are these, and that what is after its last
-- line end is within the limit. The rest is left.
pub record SeenAtFault (input left : Option (List ℕ)) (lines : List (List ℕ)) (limit : ℕ) : Type 0 where
  pub told : (bytes : List ℕ) → input ≡ Some bytes → (seen : List ℕ) × (rest : List ℕ) × (left ≡ Some rest) × (bytes ≡ seen ++ rest)
      × (ended_lines_of seen ≡ lines) × (length (last_part seen) ≤ limit)
