use Rattle.std.proofs.Common.{sym, subst}
use Rattle.frame_fields.specs.FrameLayouts.{Layout}
use Rattle.frame_fields.specs.Reads.{ReadsKind}
use Rattle.frame_fields.proofs.LayoutLaws.{kind_read}
use Rattle.req_frames.specs.Replies.{replies, reply_byte, reply_kind, reply_rest}
use Rattle.req_frames.proofs.KindLaws.{reply_row}
use Rattle.req_frames.proofs.replies.read_reply.Goals as goal

pub returns : goal.returns
returns c =
    let kind = c.in-Some.kind in
    let rest = c.in-Some.rest.now in
    let result = c.reply_of.result in
    kind_read replies reply_byte reply_kind reply_rest kind c.args.body.now rest result c.in-Some.ensures.0
    c.in-Some.ensures.1
    (subst (λ (l : Layout). ReadsKind reply_kind reply_rest kind l rest result) (sym (reply_row kind))
    c.reply_of.ensures)
