-- The fields of frames: what values they have, and how each value is spelled.
use Rattle.std.specs.Prelude.{◌≡◌, ℕ, ◌<◌, ◌^◌, Bool, IsTrue, List, [], ◌∷◌, ◌++◌, length, Some, None}
use Rattle.std.specs.Int.{w32, w64, to_be_bytes}
use Rattle.std.specs.declared.option.Option.{Option}
use Rattle.far_words.specs.Paths.{is_part}

pub data Field : Type 0 where
  -- numbers of one, four and eight bytes
  Byte Word Long : (n : ℕ) → Field
  -- 32 bytes
  Digest : (bytes : List ℕ) → Field
  -- bytes, behind their count
  Text : (bytes : List ℕ) → Field
  -- a part of a path or none, behind the count of its bytes
  After : (part : Option (List ℕ)) → Field

-- none has no byte
abbrev pub after_text : Option (List ℕ) → List ℕ
after_text None = []
after_text (Some part) = part

abbrev pub counted : List ℕ → List ℕ
counted bytes = to_be_bytes w32 (length bytes) ++ bytes

-- the one spelling of a field, most significant byte first
unfoldable pub spelling : Field → List ℕ
spelling (Byte n) = n ∷ []
spelling (Word n) = to_be_bytes w32 n
spelling (Long n) = to_be_bytes w64 n
spelling (Digest bytes) = bytes
spelling (Text bytes) = counted bytes
spelling (After part) = counted (after_text part)

-- fields one after another
abbrev pub spelled : List Field → List ℕ
spelled [] = []
spelled (field ∷ fields) = spelling field ++ spelled fields

-- what may stand in one place: a number or bytes, some of them within a grammar
pub data Shape : Type 0 where
  AByte : (test : ℕ → Bool) → Shape
  AWord ALong ADigest : Shape
  AText : (test : List ℕ → Bool) → Shape
  AnAfter : Shape

abbrev pub IsPartOrNone : Option (List ℕ) → Type 0
IsPartOrNone None = Unit {0}
IsPartOrNone (Some part) = IsTrue (is_part part)

abbrev pub IsValue : Shape → Field → Type 0
IsValue (AByte test) (Byte n) = IsTrue (test n)
IsValue AWord (Word n) = n < 2 ^ 32
IsValue ALong (Long n) = n < 2 ^ 64
IsValue ADigest (Digest bytes) = length bytes ≡ 32
IsValue (AText test) (Text bytes) = (length bytes < 2 ^ 32) × IsTrue (test bytes)
IsValue AnAfter (After part) = IsPartOrNone part
IsValue _ _ = ⊥

-- the field is cut off, or outside its grammar: no value of this shape stands at the front
abbrev pub NoValue : Shape → List ℕ → Type 0
NoValue shape bytes = (field : Field) (more : List ℕ) → IsValue shape field → bytes ≡ spelling field ++ more → ⊥
