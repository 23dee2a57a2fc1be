use Rattle.std.proofs.Common.{ℕ, ◌++◌, ap, ◌∙◌}
use Rattle.frame_fields.specs.Fields.{Byte, spelling}
use Rattle.frame_fields.proofs.FrameLaws.{short_texts}
use Rattle.req_frames.specs.Requests.{requests, request_byte, request_layout, request_kind, request_rest, request_fields}
use Rattle.req_frames.proofs.KindLaws.{put_kind, request_known, request_row}
use Rattle.req_frames.proofs.put_requests.put_request.Goals as goal

pub put_rest-requires : goal.put_rest-requires
put_rest-requires c = short_texts (request_fields c.args.request.now) c.requires

pub returns-clause-put : goal.returns-clause-put
returns-clause-put c =
    let value = c.args.request.now in
    let kind = request_kind value in
    let out = c.args.out.now in
    put_kind requests (request_byte kind) (request_layout kind) (request_rest value) out c.put_byte.new.out
    c.put_rest.new.out c.put_rest.result (request_known kind) (request_row kind)
    (c.in_ok-put_byte.ensures.put
    ∙ ap (λ (n : ℕ). out ++ spelling (Byte n)) (c.byte.ensures.is ∙ ap request_byte c.of.ensures))
    c.put_rest.ensures.put
