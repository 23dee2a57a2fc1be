use Rattle.std.proofs.Common.{ℕ, length, [], ◌∷◌, ◌++◌, ap, ◌∙◌}
use Rattle.far_asks.specs.declared.frames.Reply.{Reply}
use Rattle.far_asks.specs.declared.frames.Reply.TheVariants.{Names, Places}
use Rattle.frame_fields.specs.Fields.{Byte, Word, spelling}
use Rattle.frame_fields.specs.Parts.{part_fields, place_fields}
use Rattle.frame_fields.specs.Frames.{AreShort}
use Rattle.frame_fields.proofs.FrameLaws.{short_texts, few_rows}
use Rattle.frame_fields.proofs.RowLaws.{part_some_byte, place_some_byte}
use Rattle.req_frames.specs.Replies.{replies, reply_kind, reply_byte, reply_layout, reply_rest, reply_fields, HasFewRows}
use Rattle.req_frames.proofs.KindLaws.{put_kind, reply_known, reply_row}
use Rattle.req_frames.proofs.put_replies.put_reply.Goals as goal

has_few_rows : (reply : Reply) → AreShort (reply_fields reply) → HasFewRows reply
has_few_rows (Names names) short =
    few_rows part_fields part_some_byte (Byte (reply_byte (reply_kind (Names names))) ∷ Word (length names) ∷ [])
    names short
has_few_rows (Places places) short =
    few_rows place_fields place_some_byte (Byte (reply_byte (reply_kind (Places places))) ∷ Word (length places) ∷ [])
    places short
has_few_rows reply short = tt

pub put_rest-requires-clause-texts : goal.put_rest-requires-clause-texts
put_rest-requires-clause-texts c = short_texts (reply_fields c.args.reply.now) c.requires

pub put_rest-requires-clause-rows : goal.put_rest-requires-clause-rows
put_rest-requires-clause-rows c = has_few_rows c.args.reply.now c.requires

pub returns-clause-put : goal.returns-clause-put
returns-clause-put c =
    let value = c.args.reply.now in
    let kind = reply_kind value in
    let out = c.args.out.now in
    put_kind replies (reply_byte kind) (reply_layout kind) (reply_rest value) out c.put_byte.new.out
    c.put_rest.new.out c.put_rest.result (reply_known kind) (reply_row kind)
    (c.in_ok-put_byte.ensures.put
    ∙ ap (λ (n : ℕ). out ++ spelling (Byte n)) (c.byte.ensures.is ∙ ap reply_byte c.of.ensures))
    c.put_rest.ensures.put
