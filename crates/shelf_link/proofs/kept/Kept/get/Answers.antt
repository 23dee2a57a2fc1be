use Rattle.std.proofs.Common.{◌∙◌, ap, Some}
use Rattle.shelf_link.specs.Blocks.{block_at}
use Rattle.shelf_link.proofs.Blocks.{lookup_is_find}
use Rattle.shelf_link.proofs.kept.Kept.get.Goals as goal

pub returns-in-Some : goal.returns-in-Some
returns-in-Some c =
    ap Some c.items.ensures ∙ c.in-Some.ensures.value ∙ lookup_is_find c.self.inside.map.entries c.args.block
    ∙ ap (λ blocks. block_at blocks c.args.block) c.self.view_is

pub returns-in-None : goal.returns-in-None
returns-in-None c =
    c.in-None.ensures.value ∙ lookup_is_find c.self.inside.map.entries c.args.block ∙ ap (λ blocks. block_at blocks c.args.block) c.self.view_is
