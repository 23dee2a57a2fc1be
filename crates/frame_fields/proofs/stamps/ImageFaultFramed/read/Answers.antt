use Rattle.std.proofs.Common.{arith}
use Rattle.frame_fields.specs.Stamps.{fault_rows}
use Rattle.frame_fields.proofs.LayoutLaws.{no_tag}
use Rattle.frame_fields.proofs.stamps.ImageFaultFramed.read.Goals as goal

pub returns-in_default-tag : goal.returns-in_default-tag
returns-in_default-tag c =
    no_tag fault_rows c.in-Some.tag c.args.bytes.now c.in-Some.rest.now c.in-Some.ensures.0 (
      λ e. omega (arith, e),
      (
        λ e. omega (arith, e),
        (
          λ e. omega (arith, e),
          (λ e. omega (arith, e), (λ e. omega (arith, e), tt)),
        ),
      ),
    )
