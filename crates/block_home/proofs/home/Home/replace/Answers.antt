use Rattle.block_home.proofs.Held.{held_with}
use Rattle.block_home.proofs.home.Home.replace.Goals as goal

pub returns-then-is_some-clause-holds : goal.returns-then-is_some-clause-holds
returns-then-is_some-clause-holds g c = rw (← c.self.view_is) (λ m holds. rw c.set.ensures.blocks (held_with m _ _ _ _ _ _ holds))

pub returns-else-is_some-clause-holds : goal.returns-else-is_some-clause-holds
returns-else-is_some-clause-holds g c = rw (← c.self.view_is) (λ m holds. rw c.place_again.ensures.blocks (held_with m _ _ _ _ _ _ holds))
