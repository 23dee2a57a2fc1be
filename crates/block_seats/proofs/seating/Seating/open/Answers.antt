use Rattle.std.proofs.Common.{◌≡◌, map, ap, sym, subst, ◌∙◌}
use Rattle.std.specs.Ordering.{nat_cmp}
use Rattle.std.specs.List.Sorted.{IsStrictlySortedBy}
use Rattle.std.specs.Map.{keys_of}
use Rattle.id_set.specs.IdSet as set
use Rattle.slice_seq.specs.Purses.{Purse}
use Rattle.block_seats.specs.Seats.{held_in, is_open}
use Rattle.block_seats.specs.Seatings.{SeatingView, open_of}
use Rattle.id_set.proofs.Tables.{entries_ascend}
use Rattle.block_seats.proofs.Seats.{length-open_purse}
use Rattle.block_seats.proofs.Views.{purse_in}
use Rattle.block_seats.proofs.seating.Seating.open.Goals as goal

pub returns-clause-value : goal.returns-clause-value
returns-clause-value c =
    let seats = c.self.inside.seats.items in
    let count : c.count.result ≡ set.count (map is_open seats) = c.count.ensures ∙ ap set.count c.self.invariant.open_are in
    subst (λ (v : SeatingView). c.count.result ≡ open_of v) c.self.view_is (count ∙ sym (length-open_purse seats))

pub returns-clause-ordered : goal.returns-clause-ordered
returns-clause-ordered c =
    subst (λ (p : Purse). IsStrictlySortedBy nat_cmp (keys_of p)) (purse_in c.self.inside _ c.self.view_is c.self.invariant)
    (entries_ascend 0 (map held_in c.self.inside.seats.items))
