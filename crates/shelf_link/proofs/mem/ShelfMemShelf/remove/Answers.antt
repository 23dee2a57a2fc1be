use Rattle.std.proofs.Common.{ap, ◌∙◌}
use Rattle.far_io.proofs.Faults.{cause_of}
use Rattle.shelf_link.specs.Blocks.{block_at}
use Rattle.shelf_link.proofs.Blocks.{at_without_block, others_without_block}
use Rattle.shelf_link.proofs.mem.ShelfMemShelf.remove.Goals as goal

pub returns-in_err-begin-clause-cause : goal.returns-in_err-begin-clause-cause
returns-in_err-begin-clause-cause c = rw (← ap (λ s. s.calls.faults) c.self.view_is) (cause_of _ _ _ _ c.in_err-begin.ensures.cause)

pub returns-clause-gone : goal.returns-clause-gone
returns-clause-gone c = λ _. ap (λ blocks. block_at blocks c.args.block) c.remove.ensures ∙ at_without_block c.self.inside.blocks c.args.block

pub returns-clause-others : goal.returns-clause-others
returns-clause-others c = λ other apart.
    ap (λ blocks. block_at blocks other) c.remove.ensures ∙ others_without_block c.self.inside.blocks c.args.block other apart
    ∙ ap (λ s. block_at s.blocks other) c.self.view_is
