use Rattle.std.proofs.Common.{ap, ◌∙◌}
use Rattle.block_queue.specs.Queues.{count_of}
use Rattle.block_queue.proofs.Queued.{count_blocks}
use Rattle.block_queue.proofs.QueueBody.count.Goals as goal

pub returns-clause-items : goal.returns-clause-items
returns-clause-items c = λ m blocks is. c.self.invariant.0 ∙ ap count_of c.self.view_is ∙ count_blocks m c.args.self.now blocks is
