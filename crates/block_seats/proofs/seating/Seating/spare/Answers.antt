use Rattle.std.proofs.Common.{◌∙◌}
use Rattle.block_seats.proofs.Views.{vacant_count}
use Rattle.block_seats.proofs.seating.Seating.spare.Goals as goal

pub returns : goal.returns
returns c = c.count.ensures ∙ vacant_count c.self.inside _ c.self.view_is c.self.invariant
