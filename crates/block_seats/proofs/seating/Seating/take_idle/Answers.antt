use Rattle.std.proofs.Common.{◌≡◌, ℕ, Bool, true, false, get_or, ap, sym, ◌∙◌, arith, refl, Some}
use Rattle.std.specs.List.{position}
use Rattle.block_seats.specs.declared.seat.Seat.TheVariants.{Empty}
use Rattle.block_seats.specs.Seats.{is_open, is_empty, is_busy, keeps_slice, purse_of, strays_of}
use Rattle.block_seats.specs.Seatings.{SeatingView}
use Rattle.block_seats.proofs.Views.{kept_seat, kept_low, none_kept, empty_length, flags-set, flags_same}
use Rattle.block_seats.proofs.Taken.{kept_not_busy, taken_tables, taken_places, taken_granted, taken_is}
use Rattle.block_seats.proofs.seating.Seating.take_idle.Goals as goal

pub take_slice-slice-requires : goal.take_slice-slice-requires
take_slice-slice-requires c = kept_seat c.self.inside _ c.self.view_is c.self.invariant c.in-Some.id (sym c.first.ensures ∙ c.in-Some.is)

pub insert-requires : goal.insert-requires
insert-requires c =
    let low = kept_low c.self.inside _ c.self.view_is c.self.invariant c.in-Some.id (sym c.first.ensures ∙ c.in-Some.is) in
    omega (arith, low, empty_length c.self.inside _ c.self.view_is c.self.invariant, c.self.invariant.tables.seats_for_all)

pub invariant_of-self : goal.invariant_of-self
invariant_of-self c =
    let seating = c.self.inside in
    let id : ℕ = c.in-Some.id in
    let first : position (λ (b : Bool). b) seating.idle_seats ≡ Some id = sym c.first.ensures ∙ c.in-Some.is in
    let kept : keeps_slice (get_or seating.seats.items id Empty) ≡ true = kept_seat seating _ c.self.view_is c.self.invariant id first in
    record {
      some = c.self.invariant.some;
      size = c.self.invariant.size;
      slices = c.self.invariant.slices;
      few = c.self.invariant.few;
      tables = taken_tables seating _ c.self.view_is c.self.invariant id first _ c.take_slice-slice.ensures.seats;
      open_are = c.remove-2.ensures.members ∙ flags-set is_open seating.open_seats seating.seats.items c.take_slice-slice.new.seats.items id Empty false c.self.invariant.open_are c.take_slice-slice.ensures.seats refl;
      empty_are = c.insert.ensures.members ∙ flags-set is_empty seating.empty_seats seating.seats.items c.take_slice-slice.new.seats.items id Empty true c.self.invariant.empty_are c.take_slice-slice.ensures.seats refl;
      idle_are = c.remove.ensures.members ∙ flags-set keeps_slice seating.idle_seats seating.seats.items c.take_slice-slice.new.seats.items id Empty false c.self.invariant.idle_are c.take_slice-slice.ensures.seats refl;
      busy_are = flags_same is_busy seating.busy_seats seating.seats.items c.take_slice-slice.new.seats.items id Empty Empty c.self.invariant.busy_are c.take_slice-slice.ensures.seats
          (sym (kept_not_busy (get_or seating.seats.items id Empty) kept));
      vacant_are = c.self.invariant.vacant_are;
      most = c.self.invariant.most;
    }

pub returns-in_default-clause-none : goal.returns-in_default-clause-none
returns-in_default-clause-none c = λ _. none_kept c.self.inside _ c.self.view_is c.self.invariant (sym c.first.ensures ∙ c.in_default.is)

pub returns-clause-taken : goal.returns-clause-taken
returns-clause-taken c =
    taken_is c.self.inside _ c.self.view_is c.self.invariant c.in-Some.id (sym c.first.ensures ∙ c.in-Some.is) _ c.take_slice-slice.ensures.seats c.take_slice-slice.result c.take_slice-slice.ensures.slice _
    (λ i. record {
      size = ap (λ (w : SeatingView). w.size) c.self.view_is i;
      slices = ap (λ (w : SeatingView). w.slices) c.self.view_is i;
      blocks = ap (λ (w : SeatingView). w.blocks) c.self.view_is i;
      purse = purse_of c.take_slice-slice.new.seats.items;
      strays = strays_of c.take_slice-slice.new.seats.items;
      numbers = ap (λ (w : SeatingView). w.numbers) c.self.view_is i;
      moves = ap (λ (w : SeatingView). w.moves) c.self.view_is i;
    })

pub returns-clause-granted : goal.returns-clause-granted
returns-clause-granted c = λ _. taken_granted c.self.inside _ c.self.view_is c.self.invariant c.in-Some.id (sym c.first.ensures ∙ c.in-Some.is) _ c.take_slice-slice.ensures.seats

pub returns-clause-places : goal.returns-clause-places
returns-clause-places c = taken_places c.self.inside _ c.self.view_is c.self.invariant c.in-Some.id (sym c.first.ensures ∙ c.in-Some.is) _ c.take_slice-slice.ensures.seats
