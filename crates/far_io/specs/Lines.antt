-- Lines of bytes, each ended by 10.
use Rattle.std.specs.Prelude.{◌≡◌, ℕ, ◌==◌, cond, List, [], ◌∷◌, ◌++◌}

-- the bytes before the first line end
unfoldable pub line_of : List ℕ → List ℕ
line_of [] = []
line_of (byte ∷ bytes) = cond (byte == 10) [] (byte ∷ line_of bytes)

-- the bytes after it
unfoldable pub after_line : List ℕ → List ℕ
after_line [] = []
after_line (byte ∷ bytes) = cond (byte == 10) bytes (after_line bytes)

-- this byte, at the front of the first line
unfoldable pub on_first : ℕ → List (List ℕ) → List (List ℕ)
on_first byte [] = (byte ∷ []) ∷ []
on_first byte (line ∷ lines) = (byte ∷ line) ∷ lines

-- All lines, without their line ends. A last one that has no line end is a line where it has a byte.
unfoldable pub lines_of : List ℕ → List (List ℕ)
lines_of [] = []
lines_of (byte ∷ bytes) = cond (byte == 10) ([] ∷ lines_of bytes) (on_first byte (lines_of bytes))

-- this byte, at the front of the first line that has its line end
unfoldable pub on_ended : ℕ → List (List ℕ) → List (List ℕ)
on_ended byte [] = []
on_ended byte (line ∷ lines) = (byte ∷ line) ∷ lines

-- the lines that have their line ends
unfoldable pub ended_lines_of : List ℕ → List (List ℕ)
ended_lines_of [] = []
ended_lines_of (byte ∷ bytes) = cond (byte == 10) ([] ∷ ended_lines_of bytes) (on_ended byte (ended_lines_of bytes))

-- what stands after the last line end, where this part came before these bytes
unfoldable pub part_after : List ℕ → List ℕ → List ℕ
part_after part [] = part
part_after part (byte ∷ bytes) = part_after (cond (byte == 10) [] (part ++ byte ∷ [])) bytes

-- the bytes after the last line end
abbrev pub last_part : List ℕ → List ℕ
last_part bytes = part_after [] bytes

-- the first line of these bytes, and what is after it
pub record IsFirstLine (bytes first others : List ℕ) : Type 0 where
  pub line : first ≡ line_of bytes
  pub rest : others ≡ after_line bytes
  pub lines : lines_of bytes ≡ first ∷ lines_of others
