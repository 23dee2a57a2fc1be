use Rattle.std.proofs.Common.{sym}
use Rattle.tenant_world.proofs.tenant.Tenant.make.Goals as goal

pub returns-in-Some : goal.returns-in-Some
returns-in-Some g c = c.refuse_under.ensures c.args.path c.args.kind c.args.span (sym c.in-Some.ensures)
