use Rattle.std.proofs.Common.{◌≡◌, ◌^◌, ◌<◌, ◌++◌, ◌∷◌, [], take, length, ap, ◌∙◌, arith, rules}
use Rattle.sha2.proofs.Facts256.{length-sha256}
use Rattle.block_image.proofs.Fields.{image_of, one_spelling}
use Rattle.block_image.proofs.image.write_image.Goals as goal

-- the fields stand one after the other
pub returns-clause-image : goal.returns-clause-image
returns-clause-image c =
    let long : length c.args.stamp.now.digest ≡ 32 = ap length c.requires.stamped.digested ∙ length-sha256 c.args.bytes.now in
    let user : c.args.stamp.now.user < 2 ^ 32 = search rules in
    let block : c.args.stamp.now.block < 2 ^ 64 = search rules in
    let version = c.put_field-at-2.ensures.written ∙ ap (λ front. front ++ 1 ∷ []) c.put_field-at.ensures.written in
    let whose = c.put_field-at-3.ensures.written ∙ (λ i. version i ++ c.to_be_bytes.ensures i) in
    let which = c.put_field-at-4.ensures.written ∙ (λ i. whose i ++ c.to_be_bytes-2.ensures i) in
    let count = c.put_field-at-5.ensures.written ∙ (λ i. which i ++ c.to_be_bytes-3.ensures i) in
    let digest = c.put_field-at-6.ensures.written ∙ ap (λ front. front ++ c.args.stamp.now.digest) count in
    let all = c.put_field.ensures.written ∙ ap (λ front. front ++ c.args.bytes.now) digest in
    image_of c.args.stamp.now c.args.bytes.now user block long c.requires.some c.requires.within c.requires.stamped (take c.put_field.result c.put_field.new.out) all

pub returns-clause-only : goal.returns-clause-only
returns-clause-only c = λ image is. one_spelling image (take c.put_field.result c.put_field.new.out) c.args.stamp.now c.args.bytes.now is (returns-clause-image c)

-- no field is written past the end of the last
pub returns-clause-rest : goal.returns-clause-rest
returns-clause-rest c =
    let end = c.put_field.result in
    c.put_field.ensures.rest end (omega arith)
    ∙ c.put_field-at-6.ensures.rest end (omega (arith, c.put_field.ensures.end))
    ∙ c.put_field-at-5.ensures.rest end (omega (arith, c.put_field.ensures.end, c.put_field-at-6.ensures.end))
    ∙ c.put_field-at-4.ensures.rest end (omega (arith, c.put_field.ensures.end, c.put_field-at-6.ensures.end, c.put_field-at-5.ensures.end))
    ∙ c.put_field-at-3.ensures.rest end (omega (arith, c.put_field.ensures.end, c.put_field-at-6.ensures.end, c.put_field-at-5.ensures.end, c.put_field-at-4.ensures.end))
    ∙ c.put_field-at-2.ensures.rest end (omega (arith, c.put_field.ensures.end, c.put_field-at-6.ensures.end, c.put_field-at-5.ensures.end, c.put_field-at-4.ensures.end, c.put_field-at-3.ensures.end))
    ∙ c.put_field-at.ensures.rest end (omega (arith, c.put_field.ensures.end, c.put_field-at-6.ensures.end, c.put_field-at-5.ensures.end, c.put_field-at-4.ensures.end, c.put_field-at-3.ensures.end, c.put_field-at-2.ensures.end))
