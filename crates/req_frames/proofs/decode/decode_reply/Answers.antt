use Rattle.std.proofs.Common.{arith}
use Rattle.std.proofs.lemmas.List.{take_rest}
use Rattle.frame_fields.proofs.FrameLaws.{whole_frame}
use Rattle.req_frames.specs.Replies.{reply_frame, reply_fields, replies}
use Rattle.req_frames.proofs.Values.{reply_one}
use Rattle.req_frames.proofs.Decoded.{decoded_end, bad_end, only_one, only_none, none_bad, end_below}
use Rattle.req_frames.proofs.decode.decode_reply.Goals as goal

pub end_of-requires-clause-within : goal.end_of-requires-clause-within
end_of-requires-clause-within c = end_below replies c.args.frame.now c.in-Err.end
    (rw (take_rest c.args.frame.now 4) at c.in-Err.ensures)

pub returns-in-Ok-clause-decoded : goal.returns-in-Ok-clause-decoded
unfolding reply_frame
returns-in-Ok-clause-decoded c =
    whole_frame replies c.args.frame.now (reply_fields c.in-Ok.reply) (λ i. omega (arith, c.type_inv.frame i))
    c.requires (rw (take_rest c.args.frame.now 4) at c.in-Ok.ensures)

pub returns-in-Ok-clause-only : goal.returns-in-Ok-clause-only
unfolding reply_frame
returns-in-Ok-clause-only c = λ x fits same.
    let read = whole_frame replies c.args.frame.now (reply_fields c.in-Ok.reply)
    (λ i. omega (arith, c.type_inv.frame i)) c.requires (rw (take_rest c.args.frame.now 4) at c.in-Ok.ensures) in
    only_one replies c.args.frame.now reply_fields reply_one c.in-Ok.reply x read fits same

pub returns-in-Ok-clause-bad : goal.returns-in-Ok-clause-bad
returns-in-Ok-clause-bad c = λ place bad.
    let read = whole_frame replies c.args.frame.now (reply_fields c.in-Ok.reply)
    (λ i. omega (arith, c.type_inv.frame i)) c.requires (rw (take_rest c.args.frame.now 4) at c.in-Ok.ensures) in
    none_bad replies c.args.frame.now reply_fields c.in-Ok.reply place c.requires read bad

pub returns-in-Err-clause-decoded : goal.returns-in-Err-clause-decoded
returns-in-Err-clause-decoded c =
    decoded_end replies c.args.frame.now c.in-Err.end c.end_of.result (λ i. omega (arith, c.type_inv.frame i))
    c.requires (rw (take_rest c.args.frame.now 4) at c.in-Err.ensures) c.end_of.ensures

pub returns-in-Err-clause-only : goal.returns-in-Err-clause-only
unfolding reply_frame
returns-in-Err-clause-only c = λ x fits same.
    let told = decoded_end replies c.args.frame.now c.in-Err.end c.end_of.result
    (λ i. omega (arith, c.type_inv.frame i)) c.requires (rw (take_rest c.args.frame.now 4) at c.in-Err.ensures)
    c.end_of.ensures in
    only_none replies c.args.frame.now reply_fields c.end_of.result x c.requires told fits same

pub returns-in-Err-clause-bad : goal.returns-in-Err-clause-bad
returns-in-Err-clause-bad c = λ place bad.
    let told = decoded_end replies c.args.frame.now c.in-Err.end c.end_of.result
    (λ i. omega (arith, c.type_inv.frame i)) c.requires (rw (take_rest c.args.frame.now 4) at c.in-Err.ensures)
    c.end_of.ensures in
    bad_end replies c.args.frame.now c.end_of.result place c.requires told bad
