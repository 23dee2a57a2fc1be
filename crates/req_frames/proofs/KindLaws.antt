-- No two kinds have one byte, and each has a row in its table.
use Rattle.std.proofs.Common.{◌≡◌, ℕ, eqb, cond, List, [], ◌∷◌, ◌++◌, Result, Ok, Err, refl, ap, sym, subst, ◌∙◌}
use Rattle.std.specs.Prelude.{IsTrue, OnOk}
use Rattle.frame_fields.specs.Fields.{Field, Byte, spelling}
use Rattle.frame_fields.specs.FrameLayouts.{Layout, Table, is_in, row_of, tagged}
use Rattle.frame_fields.specs.Frames.{IsPut}
use Rattle.frame_fields.proofs.LayoutLaws.{put_after_tag}
use Rattle.req_frames.specs.declared.kinds.RequestKind.{RequestKind}
use Rattle.req_frames.specs.declared.kinds.RequestKind.TheVariants as asked
use Rattle.req_frames.specs.declared.kinds.ReplyKind.{ReplyKind}
use Rattle.req_frames.specs.declared.kinds.ReplyKind.TheVariants as told
use Rattle.req_frames.specs.Requests.{requests, all_requests, request_byte, request_layout}
use Rattle.req_frames.specs.Replies.{replies, all_replies, reply_byte, reply_layout}

-- the first of these kinds that has this byte
abbrev kind_of : {K : Type 0} → (K → ℕ) → K → List K → ℕ → K
kind_of byte_of other [] byte = other
kind_of byte_of other (kind ∷ kinds) byte = cond (eqb byte (byte_of kind)) kind (kind_of byte_of other kinds byte)

-- what was put behind the byte of a kind, with the byte
pub put_kind : {R E : Type 0} (table : Table) (tag : ℕ) (layout : Layout) (fields : List Field)
    (old half new : List ℕ) (result : Result R E)
    → IsTrue (is_in table tag) → row_of table tag ≡ layout → half ≡ old ++ spelling (Byte tag)
    → OnOk result (IsPut layout fields half new) → OnOk result (IsPut (tagged table) (Byte tag ∷ fields) old new)
put_kind table tag layout fields old half new (Ok x) known row begun put =
    put_after_tag table tag fields old half new known begun
    (subst (λ (l : Layout). IsPut l fields half new) (sym row) put)
put_kind table tag layout fields old half new (Err e) known row begun put = tt

-- ---- kinds of requests

-- each is found by its byte, and its row has what follows it
request_found : (kind : RequestKind)
    → (kind_of request_byte asked.Hello all_requests (request_byte kind) ≡ kind) × IsTrue (is_in requests (request_byte kind))
    × (row_of requests (request_byte kind) ≡ request_layout kind)
request_found asked.Hello = (refl, refl, refl)
request_found asked.Make = (refl, refl, refl)
request_found asked.DropTree = (refl, refl, refl)
request_found asked.List = (refl, refl, refl)
request_found asked.Top = (refl, refl, refl)
request_found asked.Renew = (refl, refl, refl)
request_found asked.Lease = (refl, refl, refl)
request_found asked.Append = (refl, refl, refl)
request_found asked.Read = (refl, refl, refl)
request_found asked.Length = (refl, refl, refl)
request_found asked.Push = (refl, refl, refl)
request_found asked.Pop = (refl, refl, refl)
request_found asked.Front = (refl, refl, refl)
request_found asked.Count = (refl, refl, refl)
request_found asked.Put = (refl, refl, refl)
request_found asked.Get = (refl, refl, refl)
request_found asked.Remove = (refl, refl, refl)
request_found asked.Park = (refl, refl, refl)
request_found asked.Load = (refl, refl, refl)
request_found asked.Map = (refl, refl, refl)
request_found asked.ReadSlice = (refl, refl, refl)
request_found asked.GetSlice = (refl, refl, refl)
request_found asked.PutSlice = (refl, refl, refl)
request_found asked.Report = (refl, refl, refl)
request_found asked.Share = (refl, refl, refl)
request_found asked.Bye = (refl, refl, refl)

pub request_kind_one : (kind other : RequestKind) → request_byte kind ≡ request_byte other → kind ≡ other
request_kind_one kind other same =
    sym (request_found kind).0 ∙ ap (kind_of request_byte asked.Hello all_requests) same ∙ (request_found other).0

pub request_known : (kind : RequestKind) → IsTrue (is_in requests (request_byte kind))
request_known kind = (request_found kind).1

pub request_row : (kind : RequestKind) → row_of requests (request_byte kind) ≡ request_layout kind
request_row kind = (request_found kind).2

-- ---- kinds of replies

-- each is found by its byte, and its row has what follows it
reply_found : (kind : ReplyKind)
    → (kind_of reply_byte told.Done all_replies (reply_byte kind) ≡ kind) × IsTrue (is_in replies (reply_byte kind))
    × (row_of replies (reply_byte kind) ≡ reply_layout kind)
reply_found told.Done = (refl, refl, refl)
reply_found told.Number = (refl, refl, refl)
reply_found told.Bytes = (refl, refl, refl)
reply_found told.Item = (refl, refl, refl)
reply_found told.Nothing = (refl, refl, refl)
reply_found told.Names = (refl, refl, refl)
reply_found told.Places = (refl, refl, refl)
reply_found told.Share = (refl, refl, refl)
reply_found told.TooLong = (refl, refl, refl)
reply_found told.Absent = (refl, refl, refl)
reply_found told.WrongKind = (refl, refl, refl)
reply_found told.Exists = (refl, refl, refl)
reply_found told.Exhausted = (refl, refl, refl)
reply_found told.StoreFault = (refl, refl, refl)
reply_found told.Damaged = (refl, refl, refl)
reply_found told.Stale = (refl, refl, refl)
reply_found told.AbsentUser = (refl, refl, refl)
reply_found told.TooMuch = (refl, refl, refl)
reply_found told.NoMemory = (refl, refl, refl)
reply_found told.Full = (refl, refl, refl)

pub reply_kind_one : (kind other : ReplyKind) → reply_byte kind ≡ reply_byte other → kind ≡ other
reply_kind_one kind other same =
    sym (reply_found kind).0 ∙ ap (kind_of reply_byte told.Done all_replies) same ∙ (reply_found other).0

pub reply_known : (kind : ReplyKind) → IsTrue (is_in replies (reply_byte kind))
reply_known kind = (reply_found kind).1

pub reply_row : (kind : ReplyKind) → row_of replies (reply_byte kind) ≡ reply_layout kind
reply_row kind = (reply_found kind).2
