-- Frames: a length of four bytes, and so many bytes, which are a kind and the fields of that kind.
use Rattle.std.specs.Prelude.{◌≡◌, ℕ, ◌+◌, ◌<◌, ◌≤◌, ◌^◌, List, [], ◌∷◌, ◌++◌, length, take}
use Rattle.std.specs.Int.{w32, from_be_bytes}
use Rattle.frame_fields.specs.Fields.{Field, Text, spelling, spelled}
use Rattle.frame_fields.specs.FrameLayouts.{Layout, Table, tagged, Fits, IsBad}
use Rattle.frame_fields.specs.declared.lengths.TheConstants.{MOST_IN_FRAME}

-- the frame of these fields, of which the first is the kind: they stand behind the count of their bytes
abbrev pub frame_of : List Field → List ℕ
frame_of fields = spelling (Text (spelled fields))

-- they are no more bytes than a frame may have after its length
abbrev pub AreShort : List Field → Type 0
AreShort fields = length (spelled fields) ≤ MOST_IN_FRAME

-- each of their texts is short enough for its count
abbrev pub HaveShortTexts : List Field → Type 0
HaveShortTexts [] = Unit {0}
HaveShortTexts (Text text ∷ fields) = (length text < 2 ^ 32) × HaveShortTexts fields
HaveShortTexts (field ∷ fields) = HaveShortTexts fields

-- and they are fields of the table
pub record IsFrameBody (table : Table) (fields : List Field) : Type 0 where
  pub fits : Fits (tagged table) fields
  pub short : AreShort fields

-- what stood in front stays there
abbrev pub Extends : List ℕ → List ℕ → Type 0
Extends old new = (more : List ℕ) × (new ≡ old ++ more)

-- these fields of the layout were added at the end
abbrev pub IsPut : Layout → List Field → List ℕ → List ℕ → Type 0
IsPut layout fields old new = (new ≡ old ++ spelled fields) × Fits layout fields

-- the length that the first four bytes say
abbrev pub said : List ℕ → ℕ
said bytes = from_be_bytes w32 (take 4 bytes)

-- the bytes are as long as they say, and no longer than a frame may be
pub record IsFrame (bytes : List ℕ) : Type 0 where
  pub long : length bytes ≡ 4 + said bytes
  pub short : said bytes ≤ MOST_IN_FRAME

-- The frame is none of the table, and its bad place is `place`: so many of its bytes, the length field included, come
-- before the first field that is cut off, outside its grammar or no kind, or where all are well, before the first byte
-- that is left.
pub record IsBadFrame (table : Table) (frame : List ℕ) (place : ℕ) : Type 0 where
  pub body : List ℕ
  pub left : ℕ
  pub framed : frame ≡ spelling (Text body)
  pub bad : IsBad (tagged table) body left
  pub place_is : place + left ≡ length frame
