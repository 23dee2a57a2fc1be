use Rattle.std.proofs.Common.{◌≡◌, subst, sym, ◌∙◌}
use Rattle.block_seats.specs.Purses.{block_in}
use Rattle.block_seats.specs.Seatings.{SeatingView}
use Rattle.block_seats.proofs.Seats.{block_is}
use Rattle.block_seats.proofs.seating.Seating.block_at.Goals as goal

pub returns : goal.returns
returns c =
    subst (λ (v : SeatingView). c.seat_block.result ≡ block_in v.purse c.args.slice) c.self.view_is
    (c.seat_block.ensures ∙ sym (block_is c.self.inside.seats.items c.args.slice))
