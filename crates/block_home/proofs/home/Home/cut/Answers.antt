use Rattle.block_home.proofs.Held.{held_without}
use Rattle.block_home.proofs.home.Home.cut.Goals as goal

pub returns-clause-holds : goal.returns-clause-holds
returns-clause-holds g c =
    rw (← c.self.view_is)
    (λ m holds. rw c.cut.ensures.blocks (held_without m _ _ _ _ _ c.remove_image.ensures.kind c.remove_image.ensures.others holds))
