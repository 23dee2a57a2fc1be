use Rattle.std.proofs.Common.{arith}
use Rattle.frame_fields.specs.Parts.{optional_rows}
use Rattle.frame_fields.proofs.LayoutLaws.{no_tag}
use Rattle.frame_fields.proofs.numbers.OptionU64Framed.read.Goals as goal

pub returns-in_default-flag : goal.returns-in_default-flag
returns-in_default-flag c =
    no_tag optional_rows c.in-Some.flag c.args.bytes.now c.in-Some.rest.now c.in-Some.ensures.0
    (λ e. omega (arith, e), (λ e. omega (arith, e), tt))
