use Rattle.std.proofs.Common.{◌≡◌, Some, get_or, sym, ◌∙◌}
use Rattle.block_seats.specs.declared.seat.Seat.TheVariants.{Empty}
use Rattle.block_seats.specs.Seats.{block_of}
use Rattle.block_seats.proofs.Views.{none_busy, busy_here, busy_names, lowest_block, seated_block, seated_is_there}
use Rattle.block_seats.proofs.seating.Seating.lowest_seated.Goals as goal

pub returns-in_err-id-clause-block : goal.returns-in_err-id-clause-block
returns-in_err-id-clause-block c = c.from_residual.ensures ∙ sym (none_busy c.self.inside _ c.self.view_is c.self.invariant (sym c.first.ensures ∙ c.in_err-id.was))

pub returns-in_err-block-clause-block : goal.returns-in_err-block-clause-block
returns-in_err-block-clause-block c =
    absurd (busy_names (get_or c.self.inside.seats.items c.in_ok-id.id Empty) (busy_here c.self.inside _ c.self.view_is c.self.invariant c.in_ok-id.id (sym c.first.ensures ∙ c.in_ok-id.was))
    (sym c.seat_block.ensures ∙ c.in_err-block.was))

pub returns-clause-block : goal.returns-clause-block
returns-clause-block c =
    sym (lowest_block c.self.inside _ c.self.view_is c.self.invariant c.in_ok-id.id c.in_ok-block.block c.in_ok-block._number (sym c.first.ensures ∙ c.in_ok-id.was) (sym c.seat_block.ensures ∙ c.in_ok-block.was))

pub returns-clause-seated : goal.returns-clause-seated
returns-clause-seated c =
    let here : block_of (get_or c.self.inside.seats.items c.in_ok-id.id Empty) ≡ Some (c.in_ok-block.block, c.in_ok-block._number) = sym c.seat_block.ensures ∙ c.in_ok-block.was in
    let seated = seated_block c.self.inside _ c.self.view_is c.self.invariant c.in_ok-id.id c.in_ok-block.block c.in_ok-block._number here in
    (seated, seated_is_there c.self.inside _ c.self.view_is c.self.invariant c.in_ok-block.block seated)
