use Rattle.std.proofs.Common.{length, ap, ◌∙◌}
use Rattle.block_pool.proofs.Places.{counted}
use Rattle.block_pool.proofs.pool.Pool.count.Goals as goal

pub returns : goal.returns
returns c = c.count.ensures ∙ counted c.self.inside.places.items c.self.inside.free c.self.invariant.free ∙ ap (λ v. length v.slices) c.self.view_is
