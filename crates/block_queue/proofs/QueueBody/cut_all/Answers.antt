use Rattle.std.proofs.Common.{ap, ◌∙◌, subst}
use Rattle.block_home.specs.Holding.{Holds}
use Rattle.block_list.specs.Lists.{without_all}
use Rattle.block_queue.specs.Queues.{numbers_of}
use Rattle.block_queue.proofs.QueueBody.cut_all.Goals as goal

pub returns-clause-holds : goal.returns-clause-holds
returns-clause-holds g c = λ m holds.
    let numbers_are = c.deref.ensures.value ∙ c.list_numbers.ensures.numbers ∙ ap numbers_of c.self.view_is in
    subst (λ ns. Holds (without_all m ns) (g.K.Shelf.told c.cut_blocks.new.home.shelf) c.args.home.now.user c.cut_blocks.new.home.seats.blocks) numbers_are (c.cut_blocks.ensures.holds m holds)
