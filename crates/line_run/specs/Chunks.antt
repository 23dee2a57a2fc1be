-- Lines that are taken one by one, each with the text that is written for it.
use Rattle.std.specs.Prelude.{◌≡◌, ℕ, ◌≤◌, List, [], ◌∷◌, ◌++◌, length, map, Some}
use Rattle.std.specs.List.{flat_map}
use Rattle.std.specs.declared.option.Option.{Option}
use Rattle.far_io.specs.Lines.{line_of, lines_of, ended_lines_of}
use Rattle.run_end.specs.declared.TheConstants.{MOST_LINE}

-- a line that was taken, and the text that was written for it
pub record Chunk : Type 0 where
  pub line : List ℕ
  pub text : List ℕ

abbrev pub chunk_of : List ℕ → List ℕ → Chunk
chunk_of line text = record { line = line; text = text }

unfoldable pub lines_taken : List Chunk → List (List ℕ)
lines_taken chunks = map (λ chunk. chunk.line) chunks

unfoldable pub texts_of : List Chunk → List ℕ
texts_of chunks = flat_map (λ chunk. chunk.text) chunks

-- each line with its line end
unfoldable pub with_ends : List (List ℕ) → List ℕ
with_ends lines = flat_map (λ line. line ++ 10 ∷ []) lines

-- from the first state these chunks lead to the last, where `takes` says which chunk leads from which state to which
abbrev pub Path : {R : Type 0} → (R → Chunk → R → Type 0) → R → List Chunk → R → Type 0
Path takes first [] last = first ≡ last
Path takes first (chunk ∷ chunks) last = (next : _) × takes first chunk next × Path takes next chunks last

-- Which lines of an input were taken, where the input is told.

-- all
abbrev pub AllLines : Option (List ℕ) → List Chunk → Type 0
AllLines input chunks = (bytes : List ℕ) → input ≡ Some bytes → lines_of bytes ≡ lines_taken chunks

-- those before this one
abbrev pub LinesBefore : Option (List ℕ) → List Chunk → List ℕ → Type 0
LinesBefore input chunks line = (bytes : List ℕ) → input ≡ Some bytes → (others : List (List ℕ)) × (lines_of bytes ≡ lines_taken chunks ++ line ∷ others)

-- the first ones
abbrev pub FirstLines : Option (List ℕ) → List Chunk → Type 0
FirstLines input chunks = (bytes : List ℕ) → input ≡ Some bytes → (others : List (List ℕ)) × (lines_of bytes ≡ lines_taken chunks ++ others)

-- What was read of the bytes is these lines, each with its line end, and then a part without one, which is within the limit of a line.
pub record HasRead (bytes rest : List ℕ) (lines : List (List ℕ)) : Type 0 where
  pub part : List ℕ
  pub whole : bytes ≡ (with_ends lines ++ part) ++ rest
  pub lines_are : ended_lines_of (with_ends lines ++ part) ≡ lines
  pub part_is : line_of part ≡ part
  pub short : length part ≤ MOST_LINE

-- those whose line ends were read, where so much is left
abbrev pub EndedLines : Option (List ℕ) → Option (List ℕ) → List Chunk → Type 0
EndedLines input left chunks = (bytes : List ℕ) → input ≡ Some bytes → (rest : List ℕ) × (left ≡ Some rest) × HasRead bytes rest (lines_taken chunks)
