use Rattle.std.proofs.Common.{◌∙◌, ap}
use Rattle.shelf_link.specs.Blocks.{with_block}
use Rattle.shelf_link.proofs.Blocks.{insert_is_put}
use Rattle.shelf_link.proofs.kept.Kept.put.Goals as goal

pub returns-in-Ok-clause-ok : goal.returns-in-Ok-clause-ok
returns-in-Ok-clause-ok c =
    c.in-Ok.ensures.entries ∙ insert_is_put c.self.inside.map.entries c.args.block c.in_ok-copy.copy
    ∙ ap (with_block c.self.inside.map.entries c.args.block) c.in_ok-copy.ensures
    ∙ ap (λ blocks. with_block blocks c.args.block c.args.bytes.now) c.self.view_is
