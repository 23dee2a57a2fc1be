use Rattle.std.proofs.Common.{◌≡◌, ℕ, ◌+◌, ◌<◌, List, length, get_or, set, ap, sym, subst, ◌∙◌, arith, true, false, is_some, refl, inl, inr, None}
use Rattle.std.specs.FinMap.{put}
use Rattle.std.specs.Ordering.{nat_cmp}
use Rattle.std.proofs.lemmas.Bool.{both_ways}
use Rattle.slice_seq.specs.Slice.{SliceView, raised}
use Rattle.block_seats.specs.declared.seat.Seat.{Seat}
use Rattle.block_seats.specs.declared.seat.Seat.TheVariants.{Empty, Idle}
use Rattle.slice_seq.specs.Purses.{Held, Purse}
use Rattle.block_seats.specs.Purses.{place_of}
use Rattle.block_seats.specs.Seats.{purse_of, strays_of, held_in, block_of, slice_in, is_open, is_empty, is_busy, keeps_slice, is_stray, is_bare}
use Rattle.block_seats.specs.Seatings.{SeatingView, granted_of, with_stray}
use Rattle.block_seats.specs.Well.{AreTables}
use Rattle.block_seats.proofs.Views.{cell_place, purse_in, size_in, open_length, open_flag, empty_flag, can_hold_empty, cannot_hold, idle_length, flags-set, flags_same}
use Rattle.block_seats.proofs.Updates.{seat_tables, purse-set, strays_same, length-purse_more}
use Rattle.block_seats.proofs.Seats.{place_is}
use Rattle.block_seats.proofs.seating.Seating.grant.Goals as goal
use Rattle.block_seats.proofs.seating.Seating.grant.Goals.{After-put_seat}

pub keep_aside-requires : goal.keep_aside-requires
keep_aside-requires c = c.requires.room

pub insert_open-requires-clause-within : goal.insert_open-requires-clause-within
insert_open-requires-clause-within c =
    let free = empty_flag c.self.inside _ c.self.view_is c.self.invariant c.id-id.result (sym c.contains.ensures ∙ c.if-contains.true) in
    omega (arith, free.0, c.id-id.ensures, open_length c.self.inside _ c.self.view_is c.self.invariant, c.self.invariant.tables.seats_for_all)

pub insert_open-requires-clause-shut : goal.insert_open-requires-clause-shut
insert_open-requires-clause-shut c =
    let seating = c.self.inside in
    let free = empty_flag seating _ c.self.view_is c.self.invariant c.id-id.result (sym c.contains.ensures ∙ c.if-contains.true) in
    ap (λ (n : ℕ). get_or seating.open_seats n false) (sym c.id-id.ensures) ∙ open_flag seating _ c.self.view_is c.self.invariant c.id-id.result ∙ ap is_open free.1

pub insert-requires : goal.insert-requires
insert-requires c =
    let free = empty_flag c.self.inside _ c.self.view_is c.self.invariant c.id-id.result (sym c.contains.ensures ∙ c.if-contains.true) in
    omega (arith, free.0, idle_length c.self.inside _ c.self.view_is c.self.invariant, c.self.invariant.tables.seats_for_all)

pub put_seat-requires-clause-within : goal.put_seat-requires-clause-within
put_seat-requires-clause-within c =
    let free = empty_flag c.self.inside _ c.self.view_is c.self.invariant c.id-id.result (sym c.contains.ensures ∙ c.if-contains.true) in
    omega (arith, free.0)

pub put_seat-requires-clause-bare : goal.put_seat-requires-clause-bare
put_seat-requires-clause-bare c = ap is_bare (empty_flag c.self.inside _ c.self.view_is c.self.invariant c.id-id.result (sym c.contains.ensures ∙ c.if-contains.true)).1

id_is : (c : After-put_seat) → c.id-id.result ≡ c.args.slice.id
id_is c = c.id-id.ensures ∙ ap (λ (s : SliceView). s.id) c.grant-slice.ensures.number

free_at : (c : After-put_seat) → (c.args.slice.id < length c.self.inside.seats.items) × (get_or c.self.inside.seats.items c.args.slice.id Empty ≡ Empty)
free_at c = empty_flag c.self.inside _ c.self.view_is c.self.invariant c.args.slice.id (ap (λ (n : ℕ). get_or c.self.inside.empty_seats n false) (sym (id_is c)) ∙ sym c.contains.ensures ∙ c.if-contains.true)

-- the seats afterwards
seats_are : (c : After-put_seat) → c.put_seat.new.seats.items ≡ set c.self.inside.seats.items c.args.slice.id (Idle (record { id = c.args.slice.id; size = c.args.slice.size; number = raised c.args.slice.number }))
seats_are c =
    c.put_seat.ensures ∙ ap (λ (n : ℕ). set c.self.inside.seats.items n (Idle c.grant-slice.result)) (id_is c)
    ∙ ap (λ (s : SliceView). set c.self.inside.seats.items c.args.slice.id (Idle s)) c.grant-slice.ensures.number

tables_are : (c : After-put_seat) → AreTables c.self.inside.size c.self.inside.slices c.put_seat.new.seats.items c.self.inside.cells.items
tables_are c =
    let seating = c.self.inside in
    let id : ℕ = c.args.slice.id in
    let slice : SliceView = record { id = id; size = c.args.slice.size; number = raised c.args.slice.number } in
    let free = free_at c in
    let low : id < seating.slices = omega (arith, free.0, c.self.invariant.tables.seats_for_all) in
    let size : c.args.slice.size ≡ seating.size = c.requires.size ∙ sym (size_in seating _ c.self.view_is c.self.invariant) in
    let tables : AreTables seating.size seating.slices (set seating.seats.items id (Idle slice)) seating.cells.items
    = seat_tables seating.size seating.slices seating.seats.items seating.cells.items c.self.invariant.tables id (Idle slice) low (ap block_of free.1) refl
    (λ s e. (ap (λ x. (slice_in x).id) (sym e), ap (λ x. (slice_in x).size) (sym e) ∙ size)) in
    subst (λ (xs : List Seat). AreTables seating.size seating.slices xs seating.cells.items) (sym (seats_are c)) tables

pub invariant_of-self : goal.invariant_of-self
invariant_of-self c =
    let seating = c.self.inside in
    let id : ℕ = c.args.slice.id in
    let slice : SliceView = record { id = id; size = c.args.slice.size; number = raised c.args.slice.number } in
    record {
      some = c.self.invariant.some;
      size = c.self.invariant.size;
      slices = c.self.invariant.slices;
      few = c.self.invariant.few;
      tables = tables_are c;
      open_are = c.insert_open.ensures ∙ ap (λ (s : SliceView). set seating.open_seats s.id (is_open (Idle s))) c.grant-slice.ensures.number
          ∙ flags-set is_open seating.open_seats seating.seats.items c.put_seat.new.seats.items id (Idle slice) (is_open (Idle slice)) c.self.invariant.open_are (seats_are c) refl;
      empty_are = c.remove.ensures.members ∙ ap (λ (n : ℕ). set seating.empty_seats n false) (id_is c)
          ∙ flags-set is_empty seating.empty_seats seating.seats.items c.put_seat.new.seats.items id (Idle slice) false c.self.invariant.empty_are (seats_are c) refl;
      idle_are = c.insert.ensures.members ∙ ap (λ (n : ℕ). set seating.idle_seats n true) (id_is c)
          ∙ flags-set keeps_slice seating.idle_seats seating.seats.items c.put_seat.new.seats.items id (Idle slice) true c.self.invariant.idle_are (seats_are c) refl;
      busy_are = flags_same is_busy seating.busy_seats seating.seats.items c.put_seat.new.seats.items id (Idle slice) Empty c.self.invariant.busy_are (seats_are c) (sym (ap is_busy (free_at c).1));
      vacant_are = c.self.invariant.vacant_are;
      most = c.self.invariant.most;
    }

-- the purse and what is kept aside afterwards
purse_now : (c : After-put_seat) → purse_of c.put_seat.new.seats.items ≡ put nat_cmp c.args.slice.id (record { number = raised c.args.slice.number; block = None }) c.args.self.now.purse
purse_now c =
    let id : ℕ = c.args.slice.id in
    let held : Held = record { number = raised c.args.slice.number; block = None } in
    ap (λ (xs : List Seat). purse_of xs) (seats_are c)
    ∙ purse-set c.self.inside.seats.items id (Idle (record { id = id; size = c.args.slice.size; number = raised c.args.slice.number })) held (free_at c).0 refl
    ∙ ap (λ (p : Purse). put nat_cmp id held p) (purse_in c.self.inside _ c.self.view_is c.self.invariant)

strays_now : (c : After-put_seat) → strays_of c.put_seat.new.seats.items ≡ c.args.self.now.strays
strays_now c =
    ap (λ (xs : List Seat). strays_of xs) (seats_are c)
    ∙ strays_same c.self.inside.seats.items c.args.slice.id (Idle (record { id = c.args.slice.id; size = c.args.slice.size; number = raised c.args.slice.number })) (free_at c).0 (sym (ap is_stray (free_at c).1))
    ∙ ap (λ (w : SeatingView). w.strays) c.self.view_is

pub returns-then-contains-clause-held : goal.returns-then-contains-clause-held
returns-then-contains-clause-held c = λ can none i. record {
  size = ap (λ (w : SeatingView). w.size) c.self.view_is i;
  slices = ap (λ (w : SeatingView). w.slices) c.self.view_is i;
  blocks = ap (λ (w : SeatingView). w.blocks) c.self.view_is i;
  purse = purse_now c i;
  strays = strays_now c i;
  numbers = ap (λ (w : SeatingView). w.numbers) c.self.view_is i;
  moves = ap (λ (w : SeatingView). w.moves) c.self.view_is i;
}

pub returns-then-contains-clause-aside : goal.returns-then-contains-clause-aside
returns-then-contains-clause-aside c = λ cannot. absurd (both_ways _ cannot (can_hold_empty c.self.inside _ c.self.view_is c.self.invariant c.args.slice.id (free_at c).0 (free_at c).1))

pub returns-then-contains-clause-either : goal.returns-then-contains-clause-either
returns-then-contains-clause-either c = inl (λ i. record {
  size = ap (λ (w : SeatingView). w.size) c.self.view_is i;
  slices = ap (λ (w : SeatingView). w.slices) c.self.view_is i;
  blocks = ap (λ (w : SeatingView). w.blocks) c.self.view_is i;
  purse = purse_now c i;
  strays = strays_now c i;
  numbers = ap (λ (w : SeatingView). w.numbers) c.self.view_is i;
  moves = ap (λ (w : SeatingView). w.moves) c.self.view_is i;
})

pub returns-then-contains-clause-granted : goal.returns-then-contains-clause-granted
returns-then-contains-clause-granted c =
    let seat : Seat = Idle (record { id = c.args.slice.id; size = c.args.slice.size; number = raised c.args.slice.number }) in
    let more : length (purse_of c.put_seat.new.seats.items) ≡ length (purse_of c.self.inside.seats.items) + 1
    = ap (λ (xs : List Seat). length (purse_of xs)) (seats_are c) ∙ length-purse_more c.self.inside.seats.items c.args.slice.id seat (free_at c).0 refl (ap (λ s. is_some (held_in s)) (free_at c).1) in
    let same : length (purse_of c.self.inside.seats.items) ≡ length c.args.self.now.purse = ap (λ (p : Purse). length p) (purse_in c.self.inside _ c.self.view_is c.self.invariant) in
    omega (arith, strays_now c)

pub returns-else-contains-clause-held : goal.returns-else-contains-clause-held
returns-else-contains-clause-held c =
    let id : c.id-id.result ≡ c.args.slice.id = c.id-id.ensures ∙ ap (λ (s : SliceView). s.id) c.grant-slice.ensures.number in
    λ can none. absurd (cannot_hold c.self.inside _ c.self.view_is c.self.invariant c.args.slice.id (ap (λ (n : ℕ). get_or c.self.inside.empty_seats n false) (sym id) ∙ sym c.contains.ensures ∙ c.if-contains.false) none can)

pub returns-else-contains-clause-aside : goal.returns-else-contains-clause-aside
returns-else-contains-clause-aside c = λ cannot. c.keep_aside.ensures

pub returns-else-contains-clause-either : goal.returns-else-contains-clause-either
returns-else-contains-clause-either c = inr c.keep_aside.ensures

pub returns-else-contains-clause-granted : goal.returns-else-contains-clause-granted
returns-else-contains-clause-granted c = ap granted_of c.keep_aside.ensures ∙ (let sum : granted_of (with_stray c.args.self.now) ≡ granted_of c.args.self.now + 1 = omega arith in sum)

pub returns-then-contains-clause-places : goal.returns-then-contains-clause-places
returns-then-contains-clause-places c = λ block.
    place_is c.self.inside.size c.self.inside.slices c.put_seat.new.seats.items c.self.inside.cells.items (tables_are c) block
    ∙ sym (cell_place c.self.inside _ c.self.view_is c.self.invariant block)

pub returns-else-contains-clause-places : goal.returns-else-contains-clause-places
returns-else-contains-clause-places c = λ block. ap (λ (w : SeatingView). place_of w.purse block) c.keep_aside.ensures

pub returns-then-contains-clause-rest : goal.returns-then-contains-clause-rest
returns-then-contains-clause-rest c = λ i. record {
  size = ap (λ (w : SeatingView). w.size) c.self.view_is i;
  slices = ap (λ (w : SeatingView). w.slices) c.self.view_is i;
  blocks = ap (λ (w : SeatingView). w.blocks) c.self.view_is i;
  purse = purse_of c.put_seat.new.seats.items;
  strays = strays_of c.put_seat.new.seats.items;
  numbers = ap (λ (w : SeatingView). w.numbers) c.self.view_is i;
  moves = ap (λ (w : SeatingView). w.moves) c.self.view_is i;
}

pub returns-else-contains-clause-rest : goal.returns-else-contains-clause-rest
returns-else-contains-clause-rest c = subst (λ (w : SeatingView). w ≡ record c.args.self.now { purse = w.purse; strays = w.strays }) (sym c.keep_aside.ensures) refl
