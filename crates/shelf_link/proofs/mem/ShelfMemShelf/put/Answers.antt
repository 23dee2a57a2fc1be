use Rattle.std.proofs.Common.{ap, ◌∙◌}
use Rattle.far_io.proofs.Faults.{cause_of, failed_after}
use Rattle.shelf_link.specs.Blocks.{block_at}
use Rattle.shelf_link.proofs.Blocks.{at_with_block, others_with_block}
use Rattle.shelf_link.proofs.mem.ShelfMemShelf.put.Goals as goal

pub returns-in_err-begin-clause-cause : goal.returns-in_err-begin-clause-cause
returns-in_err-begin-clause-cause c = rw (← ap (λ s. s.calls.faults) c.self.view_is) (cause_of _ _ _ _ c.in_err-begin.ensures.cause)

pub returns-in-Ok-clause-held : goal.returns-in-Ok-clause-held
returns-in-Ok-clause-held c = λ _.
    ap (λ blocks. block_at blocks c.args.block) c.in-Ok.ensures.ok ∙ at_with_block c.self.inside.blocks c.args.block c.args.bytes.now

pub returns-in-Ok-clause-others : goal.returns-in-Ok-clause-others
returns-in-Ok-clause-others c = λ other apart.
    ap (λ blocks. block_at blocks other) c.in-Ok.ensures.ok ∙ others_with_block c.self.inside.blocks c.args.block c.args.bytes.now other apart
    ∙ ap (λ s. block_at s.blocks other) c.self.view_is

pub returns-in-Err-clause-cause : goal.returns-in-Err-clause-cause
returns-in-Err-clause-cause c =
    rw (← ap (λ s. s.calls.faults) c.self.view_is) (failed_after _ _ _ _ c.in_ok-begin.ensures.cause.follows c.fail.ensures.follows c.fail.ensures.rose)
