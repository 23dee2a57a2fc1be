-- The table of replies.
use Rattle.std.specs.Prelude.{ℕ, ◌<◌, ◌^◌, Bool, true, false, List, [], ◌∷◌, ◌++◌, length}
use Rattle.std.specs.declared.result.Result.{Result}
use Rattle.far_asks.specs.declared.frames.Reply.{Reply}
use Rattle.far_asks.specs.declared.frames.Reply.TheVariants.{Done, Number, Bytes, Item, Nothing, Names, Places, Share, TooLong, Absent, WrongKind, Exists, Exhausted, StoreFault, Damaged, Stale, AbsentUser, TooMuch, NoMemory, Full}
use Rattle.req_frames.specs.declared.kinds.ReplyKind.{ReplyKind}
use Rattle.req_frames.specs.declared.kinds.ReplyKind.TheVariants as kinds
use Rattle.frame_fields.specs.declared.ends.ReadEnd.{ReadEnd}
use Rattle.frame_fields.specs.Fields.{Field, Byte, Word, Long, Text}
use Rattle.frame_fields.specs.FrameLayouts.{Layout, Stop, both, Table}
use Rattle.req_frames.specs.Tables.{table_of}
use Rattle.frame_fields.specs.Reads.{ReadsKind}
use Rattle.frame_fields.specs.Parts.{a_word, a_long, a_blob, a_part, part_fields, rows_of, fields_of_rows, place, place_fields, optional_long, optional_fields}
use Rattle.frame_fields.specs.Stamps.{stamp, stamp_fields, found, found_fields}
use Rattle.frame_fields.specs.Frames.{frame_of, IsFrameBody, IsBadFrame}

-- the byte of a kind
abbrev pub reply_byte : ReplyKind → ℕ
reply_byte kinds.Done = 64
reply_byte kinds.Number = 65
reply_byte kinds.Bytes = 66
reply_byte kinds.Item = 67
reply_byte kinds.Nothing = 68
reply_byte kinds.Names = 69
reply_byte kinds.Places = 70
reply_byte kinds.Share = 71
reply_byte kinds.TooLong = 80
reply_byte kinds.Absent = 81
reply_byte kinds.WrongKind = 82
reply_byte kinds.Exists = 83
reply_byte kinds.Exhausted = 84
reply_byte kinds.StoreFault = 85
reply_byte kinds.Damaged = 86
reply_byte kinds.Stale = 87
reply_byte kinds.AbsentUser = 88
reply_byte kinds.TooMuch = 89
reply_byte kinds.NoMemory = 90
reply_byte kinds.Full = 91

-- what follows a kind
abbrev pub reply_layout : ReplyKind → Layout
reply_layout kinds.Done = Stop
reply_layout kinds.Number = a_long Stop
reply_layout kinds.Bytes = a_blob Stop
reply_layout kinds.Item = a_blob Stop
reply_layout kinds.Nothing = Stop
reply_layout kinds.Names = rows_of (a_part Stop)
reply_layout kinds.Places = rows_of place
reply_layout kinds.Share = a_long (a_long (a_long Stop))
reply_layout kinds.TooLong = a_long Stop
reply_layout kinds.Absent = Stop
reply_layout kinds.WrongKind = Stop
reply_layout kinds.Exists = Stop
reply_layout kinds.Exhausted = a_long (a_long (a_long Stop))
reply_layout kinds.StoreFault = Stop
reply_layout kinds.Damaged = both stamp found
reply_layout kinds.Stale = a_long optional_long
reply_layout kinds.AbsentUser = a_word Stop
reply_layout kinds.TooMuch = a_long Stop
reply_layout kinds.NoMemory = Stop
reply_layout kinds.Full = a_long Stop

abbrev pub all_replies : List ReplyKind
all_replies =
    kinds.Done ∷ kinds.Number ∷ kinds.Bytes ∷ kinds.Item ∷ kinds.Nothing ∷ kinds.Names ∷ kinds.Places ∷
    kinds.Share ∷ kinds.TooLong ∷ kinds.Absent ∷ kinds.WrongKind ∷ kinds.Exists ∷ kinds.Exhausted ∷
    kinds.StoreFault ∷ kinds.Damaged ∷ kinds.Stale ∷ kinds.AbsentUser ∷ kinds.TooMuch ∷ kinds.NoMemory ∷
    kinds.Full ∷ []

-- a row for each kind
abbrev pub replies : Table
replies = table_of reply_byte reply_layout all_replies

-- nothing follows the kind
abbrev pub is_alone : ReplyKind → Bool
is_alone kinds.Done = true
is_alone kinds.Nothing = true
is_alone kinds.Absent = true
is_alone kinds.WrongKind = true
is_alone kinds.Exists = true
is_alone kinds.StoreFault = true
is_alone kinds.NoMemory = true
is_alone kind = false

-- a number follows the kind
abbrev pub is_number : ReplyKind → Bool
is_number kinds.Number = true
is_number kinds.TooLong = true
is_number kinds.TooMuch = true
is_number kinds.Full = true
is_number kind = false

-- the kind of a reply, and the fields that follow it
abbrev pub reply_kind : Reply → ReplyKind
reply_kind Done = kinds.Done
reply_kind (Number number) = kinds.Number
reply_kind (Bytes bytes) = kinds.Bytes
reply_kind (Item item) = kinds.Item
reply_kind Nothing = kinds.Nothing
reply_kind (Names names) = kinds.Names
reply_kind (Places places) = kinds.Places
reply_kind (Share demand credits given) = kinds.Share
reply_kind (TooLong limit) = kinds.TooLong
reply_kind Absent = kinds.Absent
reply_kind WrongKind = kinds.WrongKind
reply_kind Exists = kinds.Exists
reply_kind (Exhausted need used granted) = kinds.Exhausted
reply_kind StoreFault = kinds.StoreFault
reply_kind (Damaged kept found) = kinds.Damaged
reply_kind (Stale asked now) = kinds.Stale
reply_kind (AbsentUser users) = kinds.AbsentUser
reply_kind (TooMuch limit) = kinds.TooMuch
reply_kind NoMemory = kinds.NoMemory
reply_kind (Full limit) = kinds.Full

abbrev pub reply_rest : Reply → List Field
reply_rest Done = []
reply_rest (Number number) = Long number ∷ []
reply_rest (Bytes bytes) = Text bytes ∷ []
reply_rest (Item item) = Text item ∷ []
reply_rest Nothing = []
reply_rest (Names names) = Word (length names) ∷ fields_of_rows part_fields names
reply_rest (Places places) = Word (length places) ∷ fields_of_rows place_fields places
reply_rest (Share demand credits given) = Long demand ∷ Long credits ∷ Long given ∷ []
reply_rest (TooLong limit) = Long limit ∷ []
reply_rest Absent = []
reply_rest WrongKind = []
reply_rest Exists = []
reply_rest (Exhausted need used granted) = Long need ∷ Long used ∷ Long granted ∷ []
reply_rest StoreFault = []
reply_rest (Damaged kept found) = stamp_fields kept ++ found_fields found
reply_rest (Stale asked now) = Long asked ∷ optional_fields now
reply_rest (AbsentUser users) = Word users ∷ []
reply_rest (TooMuch limit) = Long limit ∷ []
reply_rest NoMemory = []
reply_rest (Full limit) = Long limit ∷ []

abbrev pub reply_fields : Reply → List Field
reply_fields reply = Byte (reply_byte (reply_kind reply)) ∷ reply_rest reply

-- a count has room for its rows
abbrev pub HasFewRows : Reply → Type 0
HasFewRows (Names names) = length names < 2 ^ 32
HasFewRows (Places places) = length places < 2 ^ 32
HasFewRows reply = Unit {0}

-- the one frame of a reply
unfoldable pub reply_frame : Reply → List ℕ
reply_frame reply = frame_of (reply_fields reply)

-- the reply has a frame: each field is within its grammar, and they are no more bytes than a frame may have
abbrev pub HasReplyFrame : Reply → Type 0
HasReplyFrame reply = IsFrameBody replies (reply_fields reply)

-- the frame is that of no reply, and this is its bad place
abbrev pub IsBadReply : List ℕ → ℕ → Type 0
IsBadReply = IsBadFrame replies

-- what reading the fields that follow a kind answers
abbrev pub ReadsReply : ReplyKind → List ℕ → Result Reply ReadEnd → Type 0
ReadsReply kind = ReadsKind reply_kind reply_rest kind (reply_layout kind)
