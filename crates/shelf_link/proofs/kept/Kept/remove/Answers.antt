use Rattle.std.proofs.Common.{◌∙◌, ap}
use Rattle.shelf_link.specs.Blocks.{without_block}
use Rattle.shelf_link.proofs.Blocks.{remove_is_without}
use Rattle.shelf_link.proofs.kept.Kept.remove.Goals as goal

pub returns : goal.returns
returns c =
    c.remove.ensures.entries ∙ remove_is_without c.self.inside.map.entries c.args.block c.self.invariant
    ∙ ap (λ blocks. without_block blocks c.args.block) c.self.view_is
