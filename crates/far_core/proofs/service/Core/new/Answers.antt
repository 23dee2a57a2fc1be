use Rattle.std.proofs.Common.{◌*◌, reverse, refl, ap, ◌∙◌}
use Rattle.far_core.specs.Runs.{fresh_pool}
use Rattle.far_core.specs.Cores.{sized}
use Rattle.far_core.proofs.Stands.{first_stands, one_shelf}
use Rattle.far_core.proofs.service.Core.new.Goals as goal

pub returns-clause-stands : goal.returns-clause-stands
returns-clause-stands g c =
    let shape = c.args.shape in
    first_stands g.K.Shelf.told g.K.Shelf.faults c.args.shelves.items _ _ shape (one_shelf _ _ _ _ c.pop.ensures.items c.in-Some.is (c.requires.shelves ∙ c.requires.one_user)) refl
    (c.in_ok-slices.ensures.pool ∙ ap (λ users. sized shape.slice (fresh_pool (users * shape.share.fair))) c.from.ensures)
    (ap reverse c.in_ok-slices.ensures.hand) c.in_ok-tenant.ensures.terms c.in_ok-tenant.ensures.shelf c.in_ok-tenant.ensures.stands
