use Rattle.std.proofs.Common.{arith, ap, length}
use Rattle.far_words.proofs.Grammar.{part_sized}
use Rattle.frame_fields.proofs.names.put_after.Goals as goal

pub put_text-requires : goal.put_text-requires
put_text-requires c =
    omega (arith, ap length c.bytes.ensures.value, (part_sized c.in-Some.part c.bytes.ensures.grammar).at_most_32)
