use Rattle.std.proofs.Common.{◌≡◌, refl, sym, subst}
use Rattle.block_seats.specs.Seatings.{SeatingView}
use Rattle.block_home.specs.Holding.{Holds}
use Rattle.block_home.proofs.home.Home.yield_one.Goals as goal

pub returns-in-None-clause-holds : goal.returns-in-None-clause-holds
returns-in-None-clause-holds g c =
    let same : c.take_idle.new.self ≡ c.self.inside.seats = c.in-None.ensures.same refl in
    rw (← c.self.view_is)
    (λ m holds. c.yield_seated.ensures.holds m (subst (λ (v : SeatingView). Holds m (g.K.Shelf.told c.self.inside.shelf) c.self.inside.user v.blocks) (sym same) holds))
