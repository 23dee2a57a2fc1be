use Rattle.req_frames.specs.Replies.{reply_frame, reply_fields, replies}
use Rattle.req_frames.proofs.Values.{reply_one}
use Rattle.req_frames.proofs.Decoded.{one_reading}
use Rattle.req_frames.proofs.encode.encode_reply.Goals as goal

pub returns-clause-one : goal.returns-clause-one
unfolding reply_frame
returns-clause-one c = one_reading replies reply_fields reply_one
