-- Layouts: which fields follow one another. What comes next may hang on the field before, as rows on their count.
use Rattle.std.specs.Prelude.{◌≡◌, ℕ, zero, suc, ◌<◌, ◌==◌, Bool, false, ◌||◌, if◌then◌else◌, List, [], ◌∷◌, ◌++◌, length, ◌⊎◌}
use Rattle.frame_fields.specs.Fields.{Field, Byte, Shape, AByte, IsValue, NoValue, spelling, spelled}

pub data Layout : Type 0 where
  -- no further field
  Stop : Layout
  -- a field of this shape, and then what follows such a field
  Then : (shape : Shape) → (next : Field → Layout) → Layout

-- these are the fields of the layout, all of them
abbrev pub Fits : Layout → List Field → Type 0
Fits Stop [] = Unit {0}
Fits Stop (field ∷ fields) = ⊥
Fits (Then shape next) [] = ⊥
Fits (Then shape next) (field ∷ fields) = IsValue shape field × Fits (next field) fields

-- one layout, and then another
abbrev pub both : Layout → Layout → Layout
both Stop second = second
both (Then shape next) second = Then shape (λ field. both (next field) second)

-- one layout so many times
abbrev pub times : ℕ → Layout → Layout
times zero layout = Stop
times (suc count) layout = both layout (times count layout)

-- a table has a row for each tag: its number, and what follows it
abbrev pub Table : Type 0
Table = List (ℕ × Layout)

abbrev pub is_in : Table → ℕ → Bool
is_in [] tag = false
is_in (row ∷ table) tag = (tag == row.0) || is_in table tag

abbrev pub row_of : Table → ℕ → Layout
row_of [] tag = Stop
row_of (row ∷ table) tag = if tag == row.0 then row.1 else row_of table tag

abbrev pub after_tag : Table → Field → Layout
after_tag table (Byte tag) = row_of table tag
after_tag table field = Stop

-- a byte that is a tag of the table, and then what follows it
abbrev pub tagged : Table → Layout
tagged table = Then (AByte (is_in table)) (after_tag table)

-- bytes begin with fields of the layout as far as the last `left` bytes, where the next field is cut off or outside its
-- grammar
abbrev pub IsBroken : Layout → List ℕ → ℕ → Type 0
IsBroken Stop bytes left = ⊥
IsBroken (Then shape next) bytes left =
    ((left ≡ length bytes) × NoValue shape bytes)
    ⊎ ((field : Field) × (rest : List ℕ) × IsValue shape field × (bytes ≡ spelling field ++ rest)
    × IsBroken (next field) rest left)

-- all fields of the layout are well, and `left` bytes are left after the last
pub record IsLeft (layout : Layout) (bytes : List ℕ) (left : ℕ) : Type 0 where
  pub fields : List Field
  pub rest : List ℕ
  pub fits : Fits layout fields
  pub begins : bytes ≡ spelled fields ++ rest
  pub some : 0 < left
  pub count : left ≡ length rest

-- the bytes aren't fields of the layout and nothing more, and the last `left` bytes are those from the bad place on:
-- from the first field that is cut off or outside its grammar, or where all are well from the first byte that is left
abbrev pub IsBad : Layout → List ℕ → ℕ → Type 0
IsBad layout bytes left = IsBroken layout bytes left ⊎ IsLeft layout bytes left
