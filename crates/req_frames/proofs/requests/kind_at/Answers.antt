use Rattle.frame_fields.specs.FrameLayouts.{is_in}
use Rattle.frame_fields.proofs.FieldLaws.{not_byte}
use Rattle.req_frames.specs.Requests.{requests}
use Rattle.req_frames.proofs.requests.kind_at.Goals as goal

pub returns-in_default-from_byte : goal.returns-in_default-from_byte
returns-in_default-from_byte c =
    not_byte (is_in requests) c.in-Some.byte c.args.body.now c.in-Some.rest.now c.in-Some.ensures.0
    c.in_default-from_byte.ensures.none
