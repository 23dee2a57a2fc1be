use Rattle.std.proofs.Common.{refl, sym}
use Rattle.tenant_world.proofs.Steps.{still_in, keeps_home, unmoved_itself}
use Rattle.tenant_world.proofs.Asking.{make_under, make_nowhere}
use Rattle.tenant_world.proofs.tenant.Tenant.refuse_under.Goals as goal

pub returns-in-Some : goal.returns-in-Some
returns-in-Some g c =
    let i = c.self.inside in
    rw (← c.self.view_is)
    (λ path kind span under. make_under g.K.Shelf.told g.K.Shelf.faults _ _ (still_in i c.self.view_is c.requires) (keeps_home _ _ _ _ refl refl) c.args.parent.now (unmoved_itself _ _) c.in-Some.field-0.now path kind span (sym c.in-Some.ensures.value) under)

pub returns-in-None : goal.returns-in-None
returns-in-None g c =
    let i = c.self.inside in
    rw (← c.self.view_is)
    (λ path kind span under. make_nowhere g.K.Shelf.told g.K.Shelf.faults _ _ (still_in i c.self.view_is c.requires) (keeps_home _ _ _ _ refl refl) c.args.parent.now (unmoved_itself _ _) path kind span (sym c.in-None.ensures.value) under)
