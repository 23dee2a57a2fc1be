use Rattle.std.proofs.Common.{◌≡◌, subst, sym, ap, ◌∙◌}
use Rattle.std.specs.FinMap.{find}
use Rattle.std.specs.Option.{option_map}
use Rattle.std.specs.Ordering.{nat_cmp}
use Rattle.slice_seq.specs.Purses.{Held}
use Rattle.block_seats.specs.Seatings.{SeatingView}
use Rattle.block_seats.proofs.Seats.{find-purse}
use Rattle.block_seats.proofs.seating.Seating.number.Goals as goal

pub returns : goal.returns
returns c =
    subst (λ (v : SeatingView). c.number_at.result ≡ option_map (λ (held : Held). held.number) (find nat_cmp c.args.slice v.purse)) c.self.view_is
    (c.number_at.ensures ∙ ap (λ o. option_map (λ (held : Held). held.number) o) (sym (find-purse c.self.inside.seats.items c.args.slice)))
