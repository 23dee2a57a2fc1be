use Rattle.block_home.proofs.Held.{held_with}
use Rattle.block_home.proofs.home.Home.write.Goals as goal

pub returns-clause-holds : goal.returns-clause-holds
returns-clause-holds g c = rw (← c.self.view_is) (λ m holds. rw c.write.ensures.blocks (held_with m _ _ _ _ _ _ holds))
