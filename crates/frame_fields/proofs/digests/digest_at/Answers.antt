use Rattle.std.proofs.Common.{◌≡◌, ◌∙◌, length, take, ap, arith}
use Rattle.std.proofs.lemmas.List.{length-take}
use Rattle.frame_fields.proofs.FieldLaws.{no_digest, digest_found}
use Rattle.frame_fields.proofs.digests.digest_at.Goals as goal

pub returns-then-bytes-lt32 : goal.returns-then-bytes-lt32
returns-then-bytes-lt32 c = no_digest c.args.bytes.now c.if-bytes-lt32.true

pub returns : goal.returns
returns c =
    let front : c.copy_from_slice.new.self ≡ take 32 c.args.bytes.now = c.copy_from_slice.ensures.after
    ∙ c.split_at.ensures.front in (
      digest_found c.args.bytes.now c.copy_from_slice.new.self c.split_at.result.1.now front c.split_at.ensures.back,
      omega (arith, ap length front, length-take 32 c.args.bytes.now),
    )
