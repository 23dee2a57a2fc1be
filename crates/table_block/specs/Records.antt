-- A table's block: records one after the other, with nothing after the last.
use Rattle.std.specs.Prelude.{◌≡◌, ℕ, ◌+◌, ◌<◌, ◌^◌, List, [], ◌∷◌, ◌++◌, length, All}
use Rattle.std.specs.Int.{w16, to_be_bytes}

-- a key and its value
abbrev pub Record : Type 0
Record = List ℕ × List ℕ

-- how many bytes stand before a record's key
abbrev pub head : ℕ
head = 4

-- how many bytes a record is, and how many records are one after the other
abbrev pub record_size : Record → ℕ
record_size r = head + length r.0 + length r.1

abbrev pub records_size : List Record → ℕ
records_size [] = 0
records_size (r ∷ rs) = record_size r + records_size rs

-- its counts fit the two bytes that each has
pub record Fits (r : Record) : Type 0 where
  pub key : length r.0 < 2 ^ 16
  pub value : length r.1 < 2 ^ 16

-- the one spelling of a record: the counts of both, most significant byte first, the key and the value
unfoldable pub spelling : Record → List ℕ
spelling r = to_be_bytes w16 (length r.0) ++ to_be_bytes w16 (length r.1) ++ r.0 ++ r.1

-- records one after the other
abbrev pub spelled : List Record → List ℕ
spelled [] = []
spelled (r ∷ rs) = spelling r ++ spelled rs

-- the bytes are these records
pub record IsBlock (bytes : List ℕ) (records : List Record) : Type 0 where
  pub fit : All Fits records
  pub bytes_are : bytes ≡ spelled records

-- no whole record stands at the front
abbrev pub NoRecord : List ℕ → Type 0
NoRecord bytes = (r : Record) (rest : List ℕ) → Fits r → bytes ≡ spelling r ++ rest → ⊥

-- the bytes aren't records one after the other: so many bytes come before the first that isn't whole
pub record IsUnfit (bytes : List ℕ) (place : ℕ) : Type 0 where
  pub before : List Record
  pub rest : List ℕ
  pub fit : All Fits before
  pub parts : bytes ≡ spelled before ++ rest
  pub some : 0 < length rest
  pub broken : NoRecord rest
  pub place_is : place ≡ length (spelled before)
