use Rattle.tenant_world.proofs.Served.{nothing_moved}
use Rattle.far_core.proofs.service.Core.moves.Goals as goal

pub returns-else-self-clause-order : goal.returns-else-self-clause-order
returns-else-self-clause-order g c = nothing_moved _ 0 c.self.invariant.still
