use Rattle.std.proofs.Common.{◌≡◌, length, Some, None, refl, sym, ap, subst, ◌∙◌, arith}
use Rattle.shelf_link.specs.Told.{Told}
use Rattle.block_seats.specs.Blocks.{Blocks}
use Rattle.block_seats.specs.Purses.{next_idle, first_block}
use Rattle.block_seats.specs.Seatings.{SeatingView, granted_of}
use Rattle.block_home.specs.Holding.{Holds}
use Rattle.block_home.proofs.Yielded.{nothing_held, yields_parked}
use Rattle.block_home.proofs.home.Home.yield_seated.Goals as goal

pub returns-in_default-clause-none : goal.returns-in_default-clause-none
returns-in_default-clause-none g c =
    let seats = c.self.inside.seats in
    let full : next_idle seats.purse ≡ None = rw (← c.self.view_is) at c.requires.full in
    let none : length seats.purse ≡ 0 = nothing_held seats.purse full (sym c.lowest_seated.ensures.block ∙ c.in_default.is) in
    let strays : seats.strays ≡ 0 = rw (← c.self.view_is) at c.requires.in_order in
    let granted : granted_of seats ≡ 0 = omega arith in
    rw (← c.self.view_is) (λ _. granted, λ _. refl)

pub returns-in-Some-take_idle-clause-yielded : goal.returns-in-Some-take_idle-clause-yielded
returns-in-Some-take_idle-clause-yielded g c =
    let seats = c.self.inside.seats in
    let full : next_idle seats.purse ≡ None = rw (← c.self.view_is) at c.requires.full in
    let strays : seats.strays ≡ 0 = rw (← c.self.view_is) at c.requires.in_order in
    let lowest : first_block seats.purse ≡ Some c.in-Some.block = sym c.lowest_seated.ensures.block ∙ c.in-Some.is in
    let parked = rw (← c.self.view_is) at c.in-Ok.ensures.parked in
    let went = rw (← c.self-2.view_is) at (parked.went c.in-Some.ensures.seated.0) in
    rw (← c.self.view_is) (yields_parked c.self.inside.user c.in-Some.block c.in-Some-take_idle.slice seats c.self-2.inside.seats c.take_idle.new.self lowest full strays went c.in-Some-take_idle.ensures.taken)

pub returns-in-Some-take_idle-clause-holds : goal.returns-in-Some-take_idle-clause-holds
returns-in-Some-take_idle-clause-holds g c =
    let now : Told = g.K.Shelf.told c.self-2.inside.shelf in
    let blocks : c.take_idle.new.self.blocks ≡ c.self-2.inside.seats.blocks = ap (λ (v : SeatingView). v.blocks) c.in-Some-take_idle.ensures.rest in
    λ m holds.
    let parked = rw (← c.self-2.view_is) at (c.in-Ok.ensures.holds m holds) in
    subst (λ (bs : Blocks). Holds m now c.args.self.now.user bs) (sym blocks) parked
