-- The layouts of which the tables of frames are made. Each is followed by `more`.
use Rattle.std.specs.Prelude.{ℕ, nat_lt, Bool, true, List, [], ◌∷◌, ◌++◌, Some, None}
use Rattle.std.specs.declared.option.Option.{Option}
use Rattle.far_words.specs.Paths.{is_path, is_part}
use Rattle.far_words.specs.declared.kind.Kind.{Kind}
use Rattle.far_words.specs.declared.kind.Kind.TheVariants.{Dir, File, Queue, Table}
use Rattle.far_words.specs.declared.place.Place.{Place}
use Rattle.frame_fields.specs.Fields.{Field, Byte, Word, Long, Text, AByte, AWord, ALong, ADigest, AText, AnAfter}
use Rattle.frame_fields.specs.FrameLayouts.{Layout, Stop, Then, times, tagged}

abbrev pub a_byte : Layout → Layout
a_byte more = Then (AByte (λ _. true)) (λ _. more)

abbrev pub a_word : Layout → Layout
a_word more = Then AWord (λ _. more)

abbrev pub a_long : Layout → Layout
a_long more = Then ALong (λ _. more)

abbrev pub a_digest : Layout → Layout
a_digest more = Then ADigest (λ _. more)

abbrev pub a_blob : Layout → Layout
a_blob more = Then (AText (λ _. true)) (λ _. more)

abbrev pub a_path : Layout → Layout
a_path more = Then (AText is_path) (λ _. more)

abbrev pub a_part : Layout → Layout
a_part more = Then (AText is_part) (λ _. more)

abbrev pub part_fields : List ℕ → List Field
part_fields part = Text part ∷ []

-- a part, or none
abbrev pub an_after : Layout → Layout
an_after more = Then AnAfter (λ _. more)

-- what a name stands for
abbrev pub kind_byte : Kind → ℕ
kind_byte Dir = 0
kind_byte File = 1
kind_byte Queue = 2
kind_byte Table = 3

abbrev pub is_kind : ℕ → Bool
is_kind byte = nat_lt byte 4

abbrev pub a_kind : Layout → Layout
a_kind more = Then (AByte is_kind) (λ _. more)

-- a byte 0 and nothing, or a byte 1 and a number
abbrev pub optional_rows : List (ℕ × Layout)
optional_rows = (0, Stop) ∷ (1, a_long Stop) ∷ []

abbrev pub optional_long : Layout
optional_long = tagged optional_rows

abbrev pub optional_fields : Option ℕ → List Field
optional_fields None = Byte 0 ∷ []
optional_fields (Some n) = Byte 1 ∷ Long n ∷ []

-- a count, and so many rows
abbrev pub count_of : Field → ℕ
count_of (Word n) = n
count_of field = 0

abbrev pub rows_of : Layout → Layout
rows_of row = Then AWord (λ field. times (count_of field) row)

abbrev pub fields_of_rows : {X : Type 0} → (X → List Field) → List X → List Field
fields_of_rows fields [] = []
fields_of_rows fields (row ∷ rows) = fields row ++ fields_of_rows fields rows

-- the place of a block
abbrev pub place : Layout
place = a_word (a_long (a_long Stop))

abbrev pub place_fields : Place → List Field
place_fields row = Word row.slice ∷ Long row.number ∷ Long row.index ∷ []
