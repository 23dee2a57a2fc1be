use Rattle.std.proofs.Common.{refl, sym}
use Rattle.tenant_world.proofs.Steps.{still_in, keeps_home, unmoved_itself}
use Rattle.tenant_world.proofs.Asking.{length_nowhere, length_in_content}
use Rattle.tenant_world.proofs.tenant.Tenant.length.Goals as goal

pub returns-in_default : goal.returns-in_default
returns-in_default g c =
    let i = c.self.inside in
    rw (← c.self.view_is)
    (length_nowhere g.K.Shelf.told g.K.Shelf.faults _ _ (still_in i c.self.view_is c.requires) (keeps_home _ _ _ _ refl refl) c.args.path.now (unmoved_itself _ _) (sym c.in_default.ensures.value))

pub returns : goal.returns
returns g c =
    let i = c.self.inside in
    rw (c.length_in.ensures, ← c.self.view_is)
    (length_in_content g.K.Shelf.told g.K.Shelf.faults _ _ (still_in i c.self.view_is c.requires) (keeps_home _ _ _ _ refl refl) c.args.path.now (unmoved_itself _ _) c.in-Some.named.now (sym c.in-Some.ensures.value))
