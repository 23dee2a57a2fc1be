use Rattle.std.proofs.Common.{◌<◌, ◌^◌, length, arith, ap}
use Rattle.far_words.proofs.Grammar.{part_sized}
use Rattle.frame_fields.proofs.names.put_part.Goals as goal

pub put_text-requires : goal.put_text-requires
put_text-requires c =
    omega (arith, ap length c.bytes.ensures.value, (part_sized c.args.part.now c.bytes.ensures.grammar).at_most_32)

pub returns-clause-value : goal.returns-clause-value
returns-clause-value c =
    let low : length c.args.part.now < 2 ^ 32 = omega (
      arith,
      (part_sized c.args.part.now c.bytes.ensures.grammar).at_most_32,
    ) in
    (low, c.bytes.ensures.grammar)
