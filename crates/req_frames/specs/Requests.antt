-- The table of requests.
use Rattle.std.specs.Prelude.{ℕ, Bool, true, false, List, [], ◌∷◌}
use Rattle.std.specs.declared.result.Result.{Result}
use Rattle.far_asks.specs.declared.frames.Request.{Request}
use Rattle.far_asks.specs.declared.frames.Request.TheVariants.{Hello, Make, DropTree, Top, Renew, Lease, Append, Read, Length, Push, Pop, Front, Count, Put, Get, Remove, Park, Load, Map, ReadSlice, GetSlice, PutSlice, Report, Share, Bye}
use Rattle.far_asks.specs.declared.frames.Request.TheVariants as asked
use Rattle.req_frames.specs.declared.kinds.RequestKind.{RequestKind}
use Rattle.req_frames.specs.declared.kinds.RequestKind.TheVariants as kinds
use Rattle.frame_fields.specs.declared.ends.ReadEnd.{ReadEnd}
use Rattle.frame_fields.specs.Fields.{Field, Byte, Word, Long, Text, After}
use Rattle.frame_fields.specs.FrameLayouts.{Layout, Stop, Table}
use Rattle.req_frames.specs.Tables.{table_of}
use Rattle.frame_fields.specs.Reads.{ReadsKind}
use Rattle.frame_fields.specs.Parts.{a_word, a_long, a_blob, a_path, an_after, a_kind, kind_byte}
use Rattle.frame_fields.specs.Frames.{frame_of, IsFrameBody, IsBadFrame}

-- the byte of a kind
abbrev pub request_byte : RequestKind → ℕ
request_byte kinds.Hello = 1
request_byte kinds.Make = 2
request_byte kinds.DropTree = 3
request_byte kinds.List = 4
request_byte kinds.Top = 5
request_byte kinds.Renew = 6
request_byte kinds.Lease = 7
request_byte kinds.Append = 8
request_byte kinds.Read = 9
request_byte kinds.Length = 10
request_byte kinds.Push = 11
request_byte kinds.Pop = 12
request_byte kinds.Front = 13
request_byte kinds.Count = 14
request_byte kinds.Put = 15
request_byte kinds.Get = 16
request_byte kinds.Remove = 17
request_byte kinds.Park = 18
request_byte kinds.Load = 19
request_byte kinds.Map = 20
request_byte kinds.ReadSlice = 21
request_byte kinds.GetSlice = 22
request_byte kinds.PutSlice = 23
request_byte kinds.Report = 24
request_byte kinds.Share = 25
request_byte kinds.Bye = 26

-- what follows a kind
abbrev pub request_layout : RequestKind → Layout
request_layout kinds.Hello = a_word Stop
request_layout kinds.Make = a_path (a_kind (a_long Stop))
request_layout kinds.DropTree = a_path Stop
request_layout kinds.List = a_path (an_after Stop)
request_layout kinds.Top = an_after Stop
request_layout kinds.Renew = a_path (a_long Stop)
request_layout kinds.Lease = a_path Stop
request_layout kinds.Append = a_path (a_blob Stop)
request_layout kinds.Read = a_path (a_long (a_word Stop))
request_layout kinds.Length = a_path Stop
request_layout kinds.Push = a_path (a_blob Stop)
request_layout kinds.Pop = a_path Stop
request_layout kinds.Front = a_path Stop
request_layout kinds.Count = a_path Stop
request_layout kinds.Put = a_path (a_blob (a_blob Stop))
request_layout kinds.Get = a_path (a_blob Stop)
request_layout kinds.Remove = a_path (a_blob Stop)
request_layout kinds.Park = a_path Stop
request_layout kinds.Load = a_path Stop
request_layout kinds.Map = a_path (a_long Stop)
request_layout kinds.ReadSlice = a_word (a_long (a_word (a_word Stop)))
request_layout kinds.GetSlice = a_word (a_long (a_blob Stop))
request_layout kinds.PutSlice = a_word (a_long (a_blob (a_blob Stop)))
request_layout kinds.Report = a_long Stop
request_layout kinds.Share = Stop
request_layout kinds.Bye = Stop

abbrev pub all_requests : List RequestKind
all_requests =
    kinds.Hello ∷ kinds.Make ∷ kinds.DropTree ∷ kinds.List ∷ kinds.Top ∷ kinds.Renew ∷ kinds.Lease ∷ kinds.Append ∷
    kinds.Read ∷ kinds.Length ∷ kinds.Push ∷ kinds.Pop ∷ kinds.Front ∷ kinds.Count ∷ kinds.Put ∷ kinds.Get ∷
    kinds.Remove ∷ kinds.Park ∷ kinds.Load ∷ kinds.Map ∷ kinds.ReadSlice ∷ kinds.GetSlice ∷ kinds.PutSlice ∷
    kinds.Report ∷ kinds.Share ∷ kinds.Bye ∷ []

-- a row for each kind
abbrev pub requests : Table
requests = table_of request_byte request_layout all_requests

-- a name and no more follows the kind
abbrev pub is_named : RequestKind → Bool
is_named kinds.DropTree = true
is_named kinds.Lease = true
is_named kinds.Length = true
is_named kinds.Pop = true
is_named kinds.Front = true
is_named kinds.Count = true
is_named kinds.Park = true
is_named kinds.Load = true
is_named kind = false

-- a name and bytes follow the kind
abbrev pub is_named_blob : RequestKind → Bool
is_named_blob kinds.Append = true
is_named_blob kinds.Push = true
is_named_blob kinds.Get = true
is_named_blob kinds.Remove = true
is_named_blob kind = false

-- the kind of a request, and the fields that follow it
abbrev pub request_kind : Request → RequestKind
request_kind (Hello user) = kinds.Hello
request_kind (Make path kind span) = kinds.Make
request_kind (DropTree path) = kinds.DropTree
request_kind (asked.List path after) = kinds.List
request_kind (Top after) = kinds.Top
request_kind (Renew path span) = kinds.Renew
request_kind (Lease path) = kinds.Lease
request_kind (Append path bytes) = kinds.Append
request_kind (Read path from len) = kinds.Read
request_kind (Length path) = kinds.Length
request_kind (Push path item) = kinds.Push
request_kind (Pop path) = kinds.Pop
request_kind (Front path) = kinds.Front
request_kind (Count path) = kinds.Count
request_kind (Put path key value) = kinds.Put
request_kind (Get path key) = kinds.Get
request_kind (Remove path key) = kinds.Remove
request_kind (Park path) = kinds.Park
request_kind (Load path) = kinds.Load
request_kind (Map path from) = kinds.Map
request_kind (ReadSlice slice number from len) = kinds.ReadSlice
request_kind (GetSlice slice number key) = kinds.GetSlice
request_kind (PutSlice slice number key value) = kinds.PutSlice
request_kind (Report demand) = kinds.Report
request_kind Share = kinds.Share
request_kind Bye = kinds.Bye

abbrev pub request_rest : Request → List Field
request_rest (Hello user) = Word user ∷ []
request_rest (Make path kind span) = Text path ∷ Byte (kind_byte kind) ∷ Long span ∷ []
request_rest (DropTree path) = Text path ∷ []
request_rest (asked.List path after) = Text path ∷ After after ∷ []
request_rest (Top after) = After after ∷ []
request_rest (Renew path span) = Text path ∷ Long span ∷ []
request_rest (Lease path) = Text path ∷ []
request_rest (Append path bytes) = Text path ∷ Text bytes ∷ []
request_rest (Read path from len) = Text path ∷ Long from ∷ Word len ∷ []
request_rest (Length path) = Text path ∷ []
request_rest (Push path item) = Text path ∷ Text item ∷ []
request_rest (Pop path) = Text path ∷ []
request_rest (Front path) = Text path ∷ []
request_rest (Count path) = Text path ∷ []
request_rest (Put path key value) = Text path ∷ Text key ∷ Text value ∷ []
request_rest (Get path key) = Text path ∷ Text key ∷ []
request_rest (Remove path key) = Text path ∷ Text key ∷ []
request_rest (Park path) = Text path ∷ []
request_rest (Load path) = Text path ∷ []
request_rest (Map path from) = Text path ∷ Long from ∷ []
request_rest (ReadSlice slice number from len) = Word slice ∷ Long number ∷ Word from ∷ Word len ∷ []
request_rest (GetSlice slice number key) = Word slice ∷ Long number ∷ Text key ∷ []
request_rest (PutSlice slice number key value) = Word slice ∷ Long number ∷ Text key ∷ Text value ∷ []
request_rest (Report demand) = Long demand ∷ []
request_rest Share = []
request_rest Bye = []

abbrev pub request_fields : Request → List Field
request_fields request = Byte (request_byte (request_kind request)) ∷ request_rest request

-- the one frame of a request
unfoldable pub request_frame : Request → List ℕ
request_frame request = frame_of (request_fields request)

-- the request has a frame: each field is within its grammar, and they are no more bytes than a frame may have
abbrev pub HasRequestFrame : Request → Type 0
HasRequestFrame request = IsFrameBody requests (request_fields request)

-- the frame is that of no request, and this is its bad place
abbrev pub IsBadRequest : List ℕ → ℕ → Type 0
IsBadRequest = IsBadFrame requests

-- what reading the fields that follow a kind answers
abbrev pub ReadsRequest : RequestKind → List ℕ → Result Request ReadEnd → Type 0
ReadsRequest kind = ReadsKind request_kind request_rest kind (request_layout kind)
