use Rattle.std.proofs.Common.{refl, true}
use Rattle.frame_fields.proofs.FieldLaws.{no_byte, byte_front}
use Rattle.frame_fields.proofs.numbers.byte_at.Goals as goal

pub returns-in-empty : goal.returns-in-empty
returns-in-empty c = no_byte (λ _. true) c.args.bytes.now c.in-empty.len_below

pub returns-in-len1-up : goal.returns-in-len1-up
returns-in-len1-up c = (byte_front c.args.bytes.now c.in-len1-up.len_at_least, refl)
