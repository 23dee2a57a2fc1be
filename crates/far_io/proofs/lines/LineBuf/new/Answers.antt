use Rattle.std.proofs.Common.{[], refl, arith}
use Rattle.std.proofs.lemmas.Grind.{common_steps}
use Rattle.far_io.proofs.LineLaws.{searched_none}
use Rattle.far_io.proofs.lines.LineBuf.new.Goals as goal

pub invariant_of-result : goal.invariant_of-result
invariant_of-result c = (omega arith, omega arith, omega arith, omega arith, grind (arith, common_steps), λ _. refl, searched_none [])
