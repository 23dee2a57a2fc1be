-- A line is its words, with one space between each two.
use Rattle.std.specs.Prelude.{◌≡◌, ◌≢◌, ℕ, List, [], ◌∷◌, ◌++◌, Some, None}
use Rattle.std.specs.List.{flat_map, join_with_byte}
use Rattle.std.specs.declared.option.Option.{Option}
use Rattle.far_io.specs.Escapes.{escaped}

unfoldable pub joined : List (List ℕ) → List ℕ
joined words = join_with_byte 32 words

-- with its line end
abbrev pub ended : List (List ℕ) → List ℕ
ended words = joined words ++ 10 ∷ []

-- a word and a space were put, after which the escaped text of these bytes ends the line
pub record IsPutBefore (piece : List ℕ) (words : List (List ℕ)) (now bytes : List ℕ) : Type 0 where
  pub word : List ℕ
  pub words_are : words ≡ word ∷ escaped bytes ∷ []
  pub put : now ≡ piece ++ (word ++ 32 ∷ [])

-- the line of these words was put after what a piece held, whole or up to the bytes whose escaped text ends it
abbrev pub IsPut : List ℕ → List (List ℕ) → List ℕ → Option (List ℕ) → Type 0
IsPut piece words now None = now ≡ piece ++ ended words
IsPut piece words now (Some bytes) = IsPutBefore piece words now bytes

-- this byte before each of the words
abbrev pub each_after : ℕ → List (List ℕ) → List ℕ
each_after byte words = flat_map (λ word. byte ∷ word) words

-- no line end is among these bytes
abbrev pub HasNoEnd : List ℕ → Type 0
HasNoEnd [] = Unit {0}
HasNoEnd (byte ∷ bytes) = (byte ≢ 10) × HasNoEnd bytes
