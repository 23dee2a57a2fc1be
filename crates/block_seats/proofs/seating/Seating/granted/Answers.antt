use Rattle.std.proofs.Common.{◌≡◌, ◌+◌, ◌-◌, length, map, ap, subst, ◌∙◌, arith}
use Rattle.id_set.specs.IdSet as set
use Rattle.block_seats.specs.Seats.{is_empty, purse_of, strays_of}
use Rattle.block_seats.specs.Seatings.{SeatingView, granted_of}
use Rattle.block_seats.proofs.Seats.{length-purse}
use Rattle.block_seats.proofs.seating.Seating.granted.Goals as goal

pub returns : goal.returns
returns c =
    let seating = c.self.inside in
    let seats = seating.seats.items in
    let count : c.count.result ≡ set.count (map is_empty seats) = c.count.ensures ∙ ap set.count c.self.invariant.empty_are in
    let all : length (purse_of seats) + strays_of seats + set.count (map is_empty seats) ≡ length seats = length-purse seats in
    let seats_are : length seats ≡ seating.slices = c.self.invariant.tables.seats_for_all in
    let is : seating.slices - c.count.result ≡ length (purse_of seats) + strays_of seats = omega arith in
    subst (λ (v : SeatingView). seating.slices - c.count.result ≡ granted_of v) c.self.view_is is
