-- A request is told by its fields, and so is a reply.
use Rattle.std.proofs.Common.{◌≡◌, ℕ, ◌-◌, eqb, cond, drop, Option, Some, None, List, [], ◌∷◌, refl, ap, sym, ◌∙◌}
use Rattle.frame_fields.specs.Fields.{Field, Byte, Word, Long, Digest, Text, After}
use Rattle.frame_fields.specs.Parts.{kind_byte, optional_fields, part_fields, place_fields, fields_of_rows}
use Rattle.frame_fields.specs.Stamps.{fault_fields, found_fields}
use Rattle.far_words.specs.declared.kind.Kind.{Kind}
use Rattle.far_words.specs.declared.kind.Kind.TheVariants.{Dir, File, Queue, Table}
use Rattle.far_words.specs.declared.place.Place.{Place}
use Rattle.far_asks.specs.declared.frames.Request.{Request}
use Rattle.far_asks.specs.declared.frames.Request.TheVariants as asked
use Rattle.far_asks.specs.declared.frames.Reply.{Reply}
use Rattle.far_asks.specs.declared.frames.Reply.TheVariants as told
use Rattle.far_words.specs.declared.stamp.Stamp.{Stamp}
use Rattle.far_words.specs.declared.stamp.ImageFault.{ImageFault}
use Rattle.far_words.specs.declared.stamp.ImageFault.TheVariants as faults
use Rattle.far_words.specs.declared.stamp.Found.{Found}
use Rattle.far_words.specs.declared.stamp.Found.TheVariants as founds
use Rattle.req_frames.specs.declared.kinds.RequestKind.{RequestKind}
use Rattle.req_frames.specs.declared.kinds.RequestKind.TheVariants as kinds
use Rattle.req_frames.specs.declared.kinds.ReplyKind.{ReplyKind}
use Rattle.req_frames.specs.declared.kinds.ReplyKind.TheVariants as told_kinds
use Rattle.req_frames.specs.Requests.{request_kind, request_rest, request_fields}
use Rattle.req_frames.specs.Replies.{reply_kind, reply_rest, reply_fields}
use Rattle.req_frames.proofs.KindLaws.{request_kind_one, reply_kind_one}

-- the value in a field
abbrev number_of : Field → ℕ
number_of (Byte n) = n
number_of (Word n) = n
number_of (Long n) = n
number_of field = 0

abbrev text_of : Field → List ℕ
text_of (Text text) = text
text_of (Digest bytes) = bytes
text_of field = []

abbrev after_of : Field → Option (List ℕ)
after_of (After part) = part
after_of field = None

-- the field at a place
abbrev nth : List Field → ℕ → Field
nth [] n = Byte 0
nth (field ∷ fields) n = cond (eqb n 0) field (nth fields (n - 1))

abbrev number_at : List Field → ℕ → ℕ
number_at fields n = number_of (nth fields n)

abbrev text_at : List Field → ℕ → List ℕ
text_at fields n = text_of (nth fields n)

abbrev after_at : List Field → ℕ → Option (List ℕ)
after_at fields n = after_of (nth fields n)

-- the row of a tag
abbrev choice : {X : Type 0} → List (ℕ × X) → X → ℕ → X
choice [] other tag = other
choice (row ∷ rows) other tag = cond (eqb tag row.0) row.1 (choice rows other tag)

abbrev kind_at : List Field → ℕ → Kind
kind_at fields n = choice ((0, Dir) ∷ (1, File) ∷ (2, Queue) ∷ []) Table (number_at fields n)

abbrev kind_again : (kind : Kind) → kind_at (Byte (kind_byte kind) ∷ []) 0 ≡ kind
kind_again Dir = refl
kind_again File = refl
kind_again Queue = refl
kind_again Table = refl

-- ---- requests

-- what a kind and the fields that follow it tell
abbrev request_of : RequestKind → List Field → Request
request_of kinds.Hello fs = asked.Hello (number_at fs 0)
request_of kinds.Make fs = asked.Make (text_at fs 0) (kind_at fs 1) (number_at fs 2)
request_of kinds.DropTree fs = asked.DropTree (text_at fs 0)
request_of kinds.List fs = asked.List (text_at fs 0) (after_at fs 1)
request_of kinds.Top fs = asked.Top (after_at fs 0)
request_of kinds.Renew fs = asked.Renew (text_at fs 0) (number_at fs 1)
request_of kinds.Lease fs = asked.Lease (text_at fs 0)
request_of kinds.Append fs = asked.Append (text_at fs 0) (text_at fs 1)
request_of kinds.Read fs = asked.Read (text_at fs 0) (number_at fs 1) (number_at fs 2)
request_of kinds.Length fs = asked.Length (text_at fs 0)
request_of kinds.Push fs = asked.Push (text_at fs 0) (text_at fs 1)
request_of kinds.Pop fs = asked.Pop (text_at fs 0)
request_of kinds.Front fs = asked.Front (text_at fs 0)
request_of kinds.Count fs = asked.Count (text_at fs 0)
request_of kinds.Put fs = asked.Put (text_at fs 0) (text_at fs 1) (text_at fs 2)
request_of kinds.Get fs = asked.Get (text_at fs 0) (text_at fs 1)
request_of kinds.Remove fs = asked.Remove (text_at fs 0) (text_at fs 1)
request_of kinds.Park fs = asked.Park (text_at fs 0)
request_of kinds.Load fs = asked.Load (text_at fs 0)
request_of kinds.Map fs = asked.Map (text_at fs 0) (number_at fs 1)
request_of kinds.ReadSlice fs = asked.ReadSlice (number_at fs 0) (number_at fs 1) (number_at fs 2) (number_at fs 3)
request_of kinds.GetSlice fs = asked.GetSlice (number_at fs 0) (number_at fs 1) (text_at fs 2)
request_of kinds.PutSlice fs = asked.PutSlice (number_at fs 0) (number_at fs 1) (text_at fs 2) (text_at fs 3)
request_of kinds.Report fs = asked.Report (number_at fs 0)
request_of kinds.Share fs = asked.Share
request_of kinds.Bye fs = asked.Bye

request_again : (r : Request) → request_of (request_kind r) (request_rest r) ≡ r
request_again (asked.Hello user) = refl
request_again (asked.Make path kind span) = ap (λ (k : Kind). asked.Make path k span) (kind_again kind)
request_again (asked.DropTree path) = refl
request_again (asked.List path after) = refl
request_again (asked.Top after) = refl
request_again (asked.Renew path span) = refl
request_again (asked.Lease path) = refl
request_again (asked.Append path bytes) = refl
request_again (asked.Read path from len) = refl
request_again (asked.Length path) = refl
request_again (asked.Push path item) = refl
request_again (asked.Pop path) = refl
request_again (asked.Front path) = refl
request_again (asked.Count path) = refl
request_again (asked.Put path key value) = refl
request_again (asked.Get path key) = refl
request_again (asked.Remove path key) = refl
request_again (asked.Park path) = refl
request_again (asked.Load path) = refl
request_again (asked.Map path from) = refl
request_again (asked.ReadSlice slice number from len) = refl
request_again (asked.GetSlice slice number key) = refl
request_again (asked.PutSlice slice number key value) = refl
request_again (asked.Report demand) = refl
request_again asked.Share = refl
request_again asked.Bye = refl

pub request_one : (r s : Request) → request_fields r ≡ request_fields s → r ≡ s
request_one r s same =
    let kind = request_kind_one (request_kind r) (request_kind s) (ap (λ (fs : List Field). number_at fs 0) same) in
    sym (request_again r) ∙ (λ i. request_of (kind i) (drop 1 (same i))) ∙ request_again s

-- ---- parts of replies

abbrev optional_of : List Field → Option ℕ
optional_of fs = cond (eqb (number_at fs 0) 0) None (Some (number_at fs 1))

optional_again : (o : Option ℕ) → optional_of (optional_fields o) ≡ o
optional_again None = refl
optional_again (Some n) = refl

abbrev parts_of : List Field → List (List ℕ)
parts_of [] = []
parts_of (part ∷ fs) = text_of part ∷ parts_of fs

parts_again : (names : List (List ℕ)) → parts_of (fields_of_rows part_fields names) ≡ names
parts_again [] = refl
parts_again (part ∷ names) = ap (λ (others : List (List ℕ)). part ∷ others) (parts_again names)

abbrev places_of : List Field → List Place
places_of (slice ∷ number ∷ index ∷ fs) =
    record { slice = number_of slice; number = number_of number; index = number_of index } ∷ places_of fs
places_of fs = []

places_again : (rows : List Place) → places_of (fields_of_rows place_fields rows) ≡ rows
places_again [] = refl
places_again (row ∷ rows) = ap (λ (others : List Place). row ∷ others) (places_again rows)

abbrev stamp_of : List Field → Stamp
stamp_of fs = record { user = number_at fs 0; block = number_at fs 1; length = number_at fs 2; digest = text_at fs 3 }

abbrev fault_of : List Field → ImageFault
fault_of fs =
    choice (
    (0, faults.Short (number_at fs 1))
    ∷ (1, faults.Magic)
    ∷ (2, faults.Version (number_at fs 1))
    ∷ (3, faults.Length (number_at fs 1) (number_at fs 2))
    ∷ []
    ) (faults.Digest (text_at fs 1) (text_at fs 2)) (number_at fs 0)

fault_again : (f : ImageFault) → fault_of (fault_fields f) ≡ f
fault_again (faults.Short have) = refl
fault_again faults.Magic = refl
fault_again (faults.Version found) = refl
fault_again (faults.Length said have) = refl
fault_again (faults.Digest kept found) = refl

abbrev found_of : List Field → Found
found_of fs =
    choice (
    (0, founds.Absent)
    ∷ (1, founds.Broken (fault_of (drop 1 fs)))
    ∷ (2, founds.Longer (number_at fs 1))
    ∷ (3, founds.Other (stamp_of (drop 1 fs)))
    ∷ []
    ) (founds.Unfit (number_at fs 1)) (number_at fs 0)

found_again : (f : Found) → found_of (found_fields f) ≡ f
found_again founds.Absent = refl
found_again (founds.Broken (faults.Short have)) = refl
found_again (founds.Broken faults.Magic) = refl
found_again (founds.Broken (faults.Version found)) = refl
found_again (founds.Broken (faults.Length said have)) = refl
found_again (founds.Broken (faults.Digest kept found)) = refl
found_again (founds.Longer len) = refl
found_again (founds.Other stamp) = refl
found_again (founds.Unfit place) = refl

-- ---- replies

-- what a kind and the fields that follow it tell
abbrev reply_of : ReplyKind → List Field → Reply
reply_of told_kinds.Done fs = told.Done
reply_of told_kinds.Number fs = told.Number (number_at fs 0)
reply_of told_kinds.Bytes fs = told.Bytes (text_at fs 0)
reply_of told_kinds.Item fs = told.Item (text_at fs 0)
reply_of told_kinds.Nothing fs = told.Nothing
reply_of told_kinds.Names fs = told.Names (parts_of (drop 1 fs))
reply_of told_kinds.Places fs = told.Places (places_of (drop 1 fs))
reply_of told_kinds.Share fs = told.Share (number_at fs 0) (number_at fs 1) (number_at fs 2)
reply_of told_kinds.TooLong fs = told.TooLong (number_at fs 0)
reply_of told_kinds.Absent fs = told.Absent
reply_of told_kinds.WrongKind fs = told.WrongKind
reply_of told_kinds.Exists fs = told.Exists
reply_of told_kinds.Exhausted fs = told.Exhausted (number_at fs 0) (number_at fs 1) (number_at fs 2)
reply_of told_kinds.StoreFault fs = told.StoreFault
reply_of told_kinds.Damaged fs = told.Damaged (stamp_of fs) (found_of (drop 4 fs))
reply_of told_kinds.Stale fs = told.Stale (number_at fs 0) (optional_of (drop 1 fs))
reply_of told_kinds.AbsentUser fs = told.AbsentUser (number_at fs 0)
reply_of told_kinds.TooMuch fs = told.TooMuch (number_at fs 0)
reply_of told_kinds.NoMemory fs = told.NoMemory
reply_of told_kinds.Full fs = told.Full (number_at fs 0)

reply_again : (r : Reply) → reply_of (reply_kind r) (reply_rest r) ≡ r
reply_again told.Done = refl
reply_again (told.Number n) = refl
reply_again (told.Bytes bytes) = refl
reply_again (told.Item bytes) = refl
reply_again told.Nothing = refl
reply_again (told.Names names) = ap (λ (others : List (List ℕ)). told.Names others) (parts_again names)
reply_again (told.Places rows) = ap (λ (others : List Place). told.Places others) (places_again rows)
reply_again (told.Share demand credits given) = refl
reply_again (told.TooLong n) = refl
reply_again told.Absent = refl
reply_again told.WrongKind = refl
reply_again told.Exists = refl
reply_again (told.Exhausted need used granted) = refl
reply_again told.StoreFault = refl
reply_again (told.Damaged kept found) = ap (λ (f : Found). told.Damaged kept f) (found_again found)
reply_again (told.Stale asked now) = ap (λ (o : Option ℕ). told.Stale asked o) (optional_again now)
reply_again (told.AbsentUser n) = refl
reply_again (told.TooMuch n) = refl
reply_again told.NoMemory = refl
reply_again (told.Full n) = refl

pub reply_one : (r s : Reply) → reply_fields r ≡ reply_fields s → r ≡ s
reply_one r s same =
    let kind = reply_kind_one (reply_kind r) (reply_kind s) (ap (λ (fs : List Field). number_at fs 0) same) in
    sym (reply_again r) ∙ (λ i. reply_of (kind i) (drop 1 (same i))) ∙ reply_again s
