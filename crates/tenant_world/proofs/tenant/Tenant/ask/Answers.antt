use Rattle.tenant_world.proofs.Steps.{asked, asked_keeps, asked_telling, asked_void}
use Rattle.tenant_world.specs.Well.{tenant_view}
use Rattle.tenant_world.proofs.tenant.Tenant.ask.Goals as goal

pub returns-clause-step : goal.returns-clause-step
returns-clause-step g c =
    rw (← c.self.view_is) (asked g.K.Shelf.told g.K.Shelf.faults (tenant_view c.self.inside) c.max-self-inside.result c.args.moment c.max-self-inside.ensures c.args.request c.serve.result _ c.serve.ensures)

pub returns-clause-keeps : goal.returns-clause-keeps
returns-clause-keeps g c =
    rw (← c.self.view_is) (asked_keeps g.K.Shelf.told g.K.Shelf.faults (tenant_view c.self.inside) c.max-self-inside.result c.args.moment c.max-self-inside.ensures c.args.request c.serve.result _ c.serve.ensures)

pub returns-clause-telling : goal.returns-clause-telling
returns-clause-telling g c =
    rw (← c.self.view_is) (asked_telling g.K.Shelf.told g.K.Shelf.faults (tenant_view c.self.inside) c.max-self-inside.result c.args.moment c.max-self-inside.ensures c.args.request c.serve.result _ c.serve.ensures)

pub returns-clause-void : goal.returns-clause-void
returns-clause-void g c =
    rw (← c.self.view_is) (asked_void g.K.Shelf.told g.K.Shelf.faults (tenant_view c.self.inside) c.max-self-inside.result c.args.moment c.max-self-inside.ensures c.args.request c.serve.result _ c.serve.ensures)
