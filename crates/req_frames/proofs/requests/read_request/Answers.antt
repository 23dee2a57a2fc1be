use Rattle.std.proofs.Common.{sym, subst}
use Rattle.frame_fields.specs.FrameLayouts.{Layout}
use Rattle.frame_fields.specs.Reads.{ReadsKind}
use Rattle.frame_fields.proofs.LayoutLaws.{kind_read}
use Rattle.req_frames.specs.Requests.{requests, request_byte, request_kind, request_rest}
use Rattle.req_frames.proofs.KindLaws.{request_row}
use Rattle.req_frames.proofs.requests.read_request.Goals as goal

pub returns : goal.returns
returns c =
    let kind = c.in-Some.kind in
    let rest = c.in-Some.rest.now in
    let result = c.request_of.result in
    kind_read requests request_byte request_kind request_rest kind c.args.body.now rest result c.in-Some.ensures.0
    c.in-Some.ensures.1
    (subst (λ (l : Layout). ReadsKind request_kind request_rest kind l rest result) (sym (request_row kind))
    c.request_of.ensures)
