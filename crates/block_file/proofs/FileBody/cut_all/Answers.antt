use Rattle.std.proofs.Common.{ap, ◌∙◌, subst}
use Rattle.std.specs.Ordering.{nat_cmp}
use Rattle.std.specs.FinMap.{find}
use Rattle.block_home.specs.Holding.{Holds}
use Rattle.block_file.specs.Files.{FileView}
use Rattle.block_list.specs.Lists.{without_all}
use Rattle.block_list.proofs.Going.{find-without_all}
use Rattle.block_file.proofs.FileBody.cut_all.Goals as goal

pub returns-clause-others : goal.returns-clause-others
returns-clause-others g c =
    let blocks_are = c.deref.ensures.value ∙ ap (λ (f : FileView). f.blocks) c.self.view_is in
    let start = c.args.home.now.seats.blocks in
    record { others = λ q apart. ap (find nat_cmp q) (c.cut_blocks.ensures.blocks ∙ ap (without_all start) blocks_are) ∙ find-without_all start c.args.self.now.blocks q apart }

pub returns-clause-holds : goal.returns-clause-holds
returns-clause-holds g c = λ m holds.
    let blocks_are = c.deref.ensures.value ∙ ap (λ (f : FileView). f.blocks) c.self.view_is in
    subst (λ bs. Holds (without_all m bs) (g.K.Shelf.told c.cut_blocks.new.home.shelf) c.args.home.now.user c.cut_blocks.new.home.seats.blocks) blocks_are (c.cut_blocks.ensures.holds m holds)
