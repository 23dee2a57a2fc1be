use Rattle.std.proofs.Common.{◌≤◌, arith}
use Rattle.std.proofs.lemmas.Bool.{le-ltb}
use Rattle.frame_fields.specs.Parts.{is_kind}
use Rattle.frame_fields.proofs.FieldLaws.{not_byte}
use Rattle.frame_fields.proofs.names.kind_at.Goals as goal

pub returns-in_default-byte : goal.returns-in_default-byte
returns-in_default-byte c =
    let high : 4 ≤ c.in-Some.byte = omega arith in
    not_byte is_kind c.in-Some.byte c.args.bytes.now c.in-Some.rest.now c.in-Some.ensures.0
    (le-ltb c.in-Some.byte 4 high)
