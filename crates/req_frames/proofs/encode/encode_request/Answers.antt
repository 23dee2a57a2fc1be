use Rattle.req_frames.specs.Requests.{request_frame, request_fields, requests}
use Rattle.req_frames.proofs.Values.{request_one}
use Rattle.req_frames.proofs.Decoded.{one_reading}
use Rattle.req_frames.proofs.encode.encode_request.Goals as goal

pub returns-clause-one : goal.returns-clause-one
unfolding request_frame
returns-clause-one c = one_reading requests request_fields request_one
