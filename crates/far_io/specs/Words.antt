-- Words of a line, separated by exactly one space, which is the byte 32.
use Rattle.std.specs.Prelude.{◌≢◌, ℕ, ◌==◌, cond, List, [], ◌∷◌, Some, None}
use Rattle.std.specs.declared.option.Option.{Option}
use Rattle.far_io.specs.Lines.{on_first}

-- the words of a line: a space at an end or beside another one makes an empty word, and an empty line has one empty word
unfoldable pub words_of : List ℕ → List (List ℕ)
words_of [] = [] ∷ []
words_of (byte ∷ bytes) = cond (byte == 32) ([] ∷ words_of bytes) (on_first byte (words_of bytes))

-- the words of what is after a space, none where there is no space
abbrev pub words_after : Option (List ℕ) → List (List ℕ)
words_after None = []
words_after (Some rest) = words_of rest

abbrev pub HasNoSpace : List ℕ → Type 0
HasNoSpace [] = Unit {0}
HasNoSpace (byte ∷ bytes) = (byte ≢ 32) × HasNoSpace bytes
