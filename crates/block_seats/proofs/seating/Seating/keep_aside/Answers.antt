use Rattle.std.proofs.Common.{◌≡◌, ℕ, ◌+◌, ◌<◌, Bool, List, length, get_or, set, ap, sym, subst, ◌∙◌, arith, true, false, refl, Some}
use Rattle.std.specs.List.{position}
use Rattle.block_seats.specs.declared.seat.Seat.{Seat}
use Rattle.block_seats.specs.declared.seat.Seat.TheVariants.{Empty, Stray}
use Rattle.block_seats.specs.Seats.{purse_of, strays_of, held_in, block_of, is_open, is_empty, is_busy, keeps_slice, is_stray, is_bare}
use Rattle.block_seats.specs.Seatings.{SeatingView}
use Rattle.block_seats.specs.Well.{AreTables}
use Rattle.block_seats.proofs.Views.{purse_in, some_empty, empty_seat, empty_low, idle_length, flags-set, flags_same}
use Rattle.block_seats.proofs.Updates.{seat_tables, purse_same, strays_more}
use Rattle.block_seats.proofs.seating.Seating.keep_aside.Goals as goal

pub unreachable-requires : goal.unreachable-requires
unreachable-requires c = some_empty c.self.inside _ c.self.view_is c.self.invariant c.requires (sym c.first.ensures ∙ c.in_default.is)

pub insert-requires : goal.insert-requires
insert-requires c =
    let low : c.in-Some.id < c.self.inside.slices = empty_low c.self.inside _ c.self.view_is c.self.invariant c.in-Some.id (sym c.first.ensures ∙ c.in-Some.is) in
    omega (arith, idle_length c.self.inside _ c.self.view_is c.self.invariant)

pub put_seat-requires-clause-within : goal.put_seat-requires-clause-within
put_seat-requires-clause-within c =
    let low : c.in-Some.id < c.self.inside.slices = empty_low c.self.inside _ c.self.view_is c.self.invariant c.in-Some.id (sym c.first.ensures ∙ c.in-Some.is) in
    omega (arith, c.self.invariant.tables.seats_for_all)

pub put_seat-requires-clause-bare : goal.put_seat-requires-clause-bare
put_seat-requires-clause-bare c = ap is_bare (empty_seat c.self.inside _ c.self.view_is c.self.invariant c.in-Some.id (sym c.first.ensures ∙ c.in-Some.is))

pub invariant_of-self : goal.invariant_of-self
invariant_of-self c =
    let seating = c.self.inside in
    let id : ℕ = c.in-Some.id in
    let seat : Seat = Stray c.args.slice in
    let first : position (λ (b : Bool). b) seating.empty_seats ≡ Some id = sym c.first.ensures ∙ c.in-Some.is in
    let empty : get_or seating.seats.items id Empty ≡ Empty = empty_seat seating _ c.self.view_is c.self.invariant id first in
    let tables : AreTables seating.size seating.slices (set seating.seats.items id seat) seating.cells.items
    = seat_tables seating.size seating.slices seating.seats.items seating.cells.items c.self.invariant.tables id seat (empty_low seating _ c.self.view_is c.self.invariant id first) (ap block_of empty) refl (λ slice e. cc) in
    record {
      some = c.self.invariant.some;
      size = c.self.invariant.size;
      slices = c.self.invariant.slices;
      few = c.self.invariant.few;
      tables = subst (λ (xs : List Seat). AreTables seating.size seating.slices xs seating.cells.items) (sym c.put_seat.ensures) tables;
      open_are = flags_same is_open seating.open_seats seating.seats.items c.put_seat.new.seats.items id seat Empty c.self.invariant.open_are c.put_seat.ensures (sym (ap is_open empty));
      empty_are = c.remove.ensures.members ∙ flags-set is_empty seating.empty_seats seating.seats.items c.put_seat.new.seats.items id seat false c.self.invariant.empty_are c.put_seat.ensures refl;
      idle_are = c.insert.ensures.members ∙ flags-set keeps_slice seating.idle_seats seating.seats.items c.put_seat.new.seats.items id seat true c.self.invariant.idle_are c.put_seat.ensures refl;
      busy_are = flags_same is_busy seating.busy_seats seating.seats.items c.put_seat.new.seats.items id seat Empty c.self.invariant.busy_are c.put_seat.ensures (sym (ap is_busy empty));
      vacant_are = c.self.invariant.vacant_are;
      most = c.self.invariant.most;
    }

pub returns : goal.returns
returns c =
    let seating = c.self.inside in
    let id : ℕ = c.in-Some.id in
    let first : position (λ (b : Bool). b) seating.empty_seats ≡ Some id = sym c.first.ensures ∙ c.in-Some.is in
    let empty : get_or seating.seats.items id Empty ≡ Empty = empty_seat seating _ c.self.view_is c.self.invariant id first in
    let low : id < seating.slices = empty_low seating _ c.self.view_is c.self.invariant id first in
    let in_seats : id < length seating.seats.items = omega (arith, c.self.invariant.tables.seats_for_all) in
    let purse : purse_of c.put_seat.new.seats.items ≡ c.args.self.now.purse =
    ap (λ (xs : List Seat). purse_of xs) c.put_seat.ensures ∙ purse_same seating.seats.items id (Stray c.args.slice) (sym (ap held_in empty)) ∙ purse_in seating _ c.self.view_is c.self.invariant in
    let strays : strays_of c.put_seat.new.seats.items ≡ c.args.self.now.strays + 1 =
    ap (λ (xs : List Seat). strays_of xs) c.put_seat.ensures ∙ strays_more seating.seats.items id c.args.slice in_seats (ap is_stray empty) ∙ ap (λ (w : SeatingView). w.strays + 1) c.self.view_is in
    λ i. record {
      size = ap (λ (w : SeatingView). w.size) c.self.view_is i;
      slices = ap (λ (w : SeatingView). w.slices) c.self.view_is i;
      blocks = ap (λ (w : SeatingView). w.blocks) c.self.view_is i;
      purse = purse i;
      strays = strays i;
      numbers = ap (λ (w : SeatingView). w.numbers) c.self.view_is i;
      moves = ap (λ (w : SeatingView). w.moves) c.self.view_is i;
    }
