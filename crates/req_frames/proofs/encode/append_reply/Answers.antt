use Rattle.std.proofs.Common.{ℕ, List, ◌++◌, length, ap, ◌∙◌}
use Rattle.frame_fields.specs.Frames.{frame_of}
use Rattle.req_frames.specs.Replies.{reply_frame, reply_fields, replies}
use Rattle.req_frames.proofs.Closing.{opened, has_room, is_short, closed}
use Rattle.req_frames.proofs.encode.append_reply.Goals as goal

pub close_frame-requires-clause-room : goal.close_frame-requires-clause-room
close_frame-requires-clause-room c =
    let fields = reply_fields c.args.reply.now in
    let put = c.put_reply.new.out in
    let half = opened replies c.reserve.new.self c.put_word.new.out put fields c.in_ok-put_word.ensures.put
    c.in_ok-put_reply.ensures.put c.requires in
    has_room replies c.reserve.new.self put fields half (length c.items-at.result.now) (ap length c.items-at.ensures)

pub close_frame-requires-clause-short : goal.close_frame-requires-clause-short
close_frame-requires-clause-short c =
    let fields = reply_fields c.args.reply.now in
    let put = c.put_reply.new.out in
    let half = opened replies c.reserve.new.self c.put_word.new.out put fields c.in_ok-put_word.ensures.put
    c.in_ok-put_reply.ensures.put c.requires in
    is_short replies c.reserve.new.self put fields half (length c.items-at.result.now) (ap length c.items-at.ensures)

pub returns-clause-put : goal.returns-clause-put
unfolding reply_frame
returns-clause-put c =
    let fields = reply_fields c.args.reply.now in
    let put = c.put_reply.new.out in
    let half = opened replies c.reserve.new.self c.put_word.new.out put fields c.in_ok-put_word.ensures.put
    c.in_ok-put_reply.ensures.put c.requires in
    closed replies c.reserve.new.self put fields half (length c.items-at.result.now) c.close_frame.new.out
    (ap length c.items-at.ensures) c.close_frame.ensures
    ∙ ap (λ (t : List ℕ). t ++ frame_of fields) c.reserve.ensures

pub returns-clause-within : goal.returns-clause-within
returns-clause-within c = record { fits = c.in_ok-put_reply.ensures.put.1; short = c.requires }
