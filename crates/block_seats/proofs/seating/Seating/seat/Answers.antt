use Rattle.std.proofs.Common.{◌≡◌, ℕ, ◌+◌, ◌<◌, ◌≤◌, Bool, List, length, get_or, set, ap, sym, subst, ◌∙◌, arith, true, false, refl, Some, None}
use Rattle.std.specs.declared.option.Option.{Option}
use Rattle.std.specs.Option.{option_map_or}
use Rattle.std.specs.FinMap.{put}
use Rattle.std.specs.Ordering.{nat_cmp}
use Rattle.std.specs.List.{position}
use Rattle.slice_seq.specs.Slice.{SliceView}
use Rattle.slice_seq.specs.Used.{UsedView}
use Rattle.block_seats.specs.declared.seat.Seat.{Seat}
use Rattle.block_seats.specs.declared.seat.Seat.TheVariants.{Empty, Busy}
use Rattle.block_seats.specs.declared.cell.Cell.{Cell}
use Rattle.block_seats.specs.declared.cell.Cell.TheVariants.{Vacant, Resident}
use Rattle.block_seats.specs.Blocks.{InSlice}
use Rattle.slice_seq.specs.Purses.{Held, Purse, holding, open_slices}
use Rattle.block_seats.specs.Purses.{next_place, place_of}
use Rattle.block_seats.specs.Noted.{NotedView, noting_placed}
use Rattle.block_seats.specs.Seats.{blocks_of, purse_of, strays_of, slice_in, slice_of, is_open, is_empty, is_busy, keeps_slice, is_vacant, is_stray}
use Rattle.block_seats.specs.Seatings.{SeatingView}
use Rattle.block_seats.specs.Well.{AreTables}
use Rattle.block_seats.proofs.Views.{cell_place, number_low, blocks_in, purse_in, size_in, open_seat, open_low, open_fits, open_next, some_open, busy_length, flags-set, flags_same, idle_is}
use Rattle.block_seats.proofs.Rewrites.{few_written, numbers_written, spare_taken}
use Rattle.block_seats.proofs.Updates.{one_if, length-open_set, placed_tables, blocks-set, purse-set, strays_same}
use Rattle.std.proofs.lemmas.List.{get_or-set_same, get_or-set_other}
use Rattle.block_seats.proofs.Seats.{by_same, place_is}
use Rattle.block_seats.proofs.seating.Seating.seat.Goals as goal
use Rattle.block_seats.proofs.seating.Seating.seat.Goals.{After-note_placed}

pub overflow_cast-cell : goal.overflow_cast-cell
overflow_cast-cell c = let few = c.self.invariant.few in omega (arith, few, number_low c.self.inside _ c.self.view_is c.self.invariant c.args.block c.requires.number)

pub unreachable-requires : goal.unreachable-requires
unreachable-requires c = some_open c.self.inside _ c.self.view_is c.self.invariant c.requires.open (sym c.first.ensures ∙ c.in_default.is)

pub begin_use-used-requires-clause-within : goal.begin_use-used-requires-clause-within
begin_use-used-requires-clause-within c =
    let low : c.in-Some.slice < c.self.inside.slices = open_low c.self.inside _ c.self.view_is c.self.invariant c.in-Some.slice (sym c.first.ensures ∙ c.in-Some.is) in
    omega (arith, c.self.invariant.tables.seats_for_all)

pub begin_use-used-requires-clause-open : goal.begin_use-used-requires-clause-open
begin_use-used-requires-clause-open c = open_seat c.self.inside _ c.self.view_is c.self.invariant c.in-Some.slice (sym c.first.ensures ∙ c.in-Some.is)

pub begin_use-used-requires-clause-fits : goal.begin_use-used-requires-clause-fits
begin_use-used-requires-clause-fits c =
    let fits = open_fits c.self.inside _ c.self.view_is c.self.invariant c.in-Some.slice (sym c.first.ensures ∙ c.in-Some.is) in
    subst (λ (size : ℕ). length c.args.bytes.now ≤ size) (sym (fits.1 ∙ size_in c.self.inside _ c.self.view_is c.self.invariant)) c.requires.fits

-- the cell that the block comes into
cell_within : (c : After-note_placed) → c.args.block < length c.self.inside.cells.items
cell_within c = number_low c.self.inside _ c.self.view_is c.self.invariant c.args.block c.requires.number

pub insert-requires : goal.insert-requires
insert-requires c =
    let low : c.in-Some.slice < c.self.inside.slices = open_low c.self.inside _ c.self.view_is c.self.invariant c.in-Some.slice (sym c.first.ensures ∙ c.in-Some.is) in
    omega (arith, busy_length c.self.inside _ c.self.view_is c.self.invariant)

pub put_cell-requires-clause-within : goal.put_cell-requires-clause-within
put_cell-requires-clause-within c = omega (arith, number_low c.self.inside _ c.self.view_is c.self.invariant c.args.block c.requires.number)

pub put_cell-requires-clause-away : goal.put_cell-requires-clause-away
put_cell-requires-clause-away c = sym (cell_place c.self.inside _ c.self.view_is c.self.invariant c.args.block) ∙ c.requires.away

-- the tables afterwards
cells_are : (c : After-note_placed) → (let slice : SliceView = slice_in (get_or c.self.inside.seats.items c.in-Some.slice Empty) in
    c.put_cell.new.cells.items ≡ set c.self.inside.cells.items c.args.block (Resident (record { id = slice.id; size = slice.size; number = slice.number + 1; bytes = c.args.bytes.now }) c.args.was))
cells_are c = c.put_cell.ensures ∙ ap (λ (u : UsedView). set c.self.inside.cells.items c.args.block (Resident u c.args.was)) c.begin_use-used.ensures.used

tables_are : (c : After-note_placed) → AreTables c.self.inside.size c.self.inside.slices c.begin_use-used.new.seats.items c.put_cell.new.cells.items
tables_are c =
    let seating = c.self.inside in
    let id : ℕ = c.in-Some.slice in
    let block : ℕ = c.args.block in
    let first : position (λ (b : Bool). b) seating.open_seats ≡ Some id = sym c.first.ensures ∙ c.in-Some.is in
    let slice : SliceView = slice_in (get_or seating.seats.items id Empty) in
    let used : UsedView = record { id = slice.id; size = slice.size; number = slice.number + 1; bytes = c.args.bytes.now } in
    let fits = open_fits seating _ c.self.view_is c.self.invariant id first in
    let opened : is_open (get_or seating.seats.items id Empty) ≡ true = open_seat seating _ c.self.view_is c.self.invariant id first in
    let away : slice_of (get_or seating.cells.items block Vacant) ≡ None = sym (cell_place seating _ c.self.view_is c.self.invariant block) ∙ c.requires.away in
    let tables : AreTables seating.size seating.slices (set seating.seats.items id (Busy block (slice.number + 1))) (set seating.cells.items block (Resident used c.args.was))
    = placed_tables seating.size seating.slices seating.seats.items seating.cells.items c.self.invariant.tables id block used c.args.was
    (open_low seating _ c.self.view_is c.self.invariant id first) (cell_within c) opened away fits.0
    (fits.1, c.requires.some, subst (λ (size : ℕ). length c.args.bytes.now ≤ size) (sym (size_in seating _ c.self.view_is c.self.invariant)) c.requires.fits) in
    subst (λ (xs : List Seat). AreTables seating.size seating.slices xs c.put_cell.new.cells.items) (sym c.begin_use-used.ensures.seats)
    (subst (λ (ys : List Cell). AreTables seating.size seating.slices (set seating.seats.items id (Busy block (slice.number + 1))) ys) (sym (cells_are c)) tables)

pub invariant_of-self : goal.invariant_of-self
invariant_of-self c =
    let seating = c.self.inside in
    let id : ℕ = c.in-Some.slice in
    let block : ℕ = c.args.block in
    let first : position (λ (b : Bool). b) seating.open_seats ≡ Some id = sym c.first.ensures ∙ c.in-Some.is in
    let slice : SliceView = slice_in (get_or seating.seats.items id Empty) in
    let used : UsedView = record { id = slice.id; size = slice.size; number = slice.number + 1; bytes = c.args.bytes.now } in
    let opened : is_open (get_or seating.seats.items id Empty) ≡ true = open_seat seating _ c.self.view_is c.self.invariant id first in
    record {
      some = c.self.invariant.some;
      size = c.self.invariant.size;
      slices = c.self.invariant.slices;
      few = few_written seating _ c.self.view_is c.self.invariant block (cell_within c) (Resident used c.args.was) _ (cells_are c);
      tables = tables_are c;
      open_are = c.remove.ensures.members ∙ flags-set is_open seating.open_seats seating.seats.items c.begin_use-used.new.seats.items id (Busy block (slice.number + 1)) false c.self.invariant.open_are c.begin_use-used.ensures.seats refl;
      empty_are = flags_same is_empty seating.empty_seats seating.seats.items c.begin_use-used.new.seats.items id (Busy block (slice.number + 1)) Empty c.self.invariant.empty_are c.begin_use-used.ensures.seats
          (sym (ap is_empty (idle_is (get_or seating.seats.items id Empty) opened)));
      idle_are = c.remove-3.ensures.members ∙ flags-set keeps_slice seating.idle_seats seating.seats.items c.begin_use-used.new.seats.items id (Busy block (slice.number + 1)) false c.self.invariant.idle_are c.begin_use-used.ensures.seats refl;
      busy_are = c.insert.ensures.members ∙ flags-set is_busy seating.busy_seats seating.seats.items c.begin_use-used.new.seats.items id (Busy block (slice.number + 1)) true c.self.invariant.busy_are c.begin_use-used.ensures.seats refl;
      vacant_are = c.remove-2.ensures.members ∙ flags-set is_vacant seating.vacant_cells seating.cells.items c.put_cell.new.cells.items block (Resident used c.args.was) false c.self.invariant.vacant_are (cells_are c) refl;
      most = ap (λ (m : NotedView). m.most) c.note_placed.ensures ∙ c.self.invariant.most;
    }

pub returns-clause-places : goal.returns-clause-places
returns-clause-places c =
    let seating = c.self.inside in
    let id : ℕ = c.in-Some.slice in
    let block : ℕ = c.args.block in
    let first : position (λ (b : Bool). b) seating.open_seats ≡ Some id = sym c.first.ensures ∙ c.in-Some.is in
    let in_cells : block < length seating.cells.items = cell_within c in
    let slice : SliceView = slice_in (get_or seating.seats.items id Empty) in
    let used : UsedView = record { id = slice.id; size = slice.size; number = slice.number + 1; bytes = c.args.bytes.now } in
    let fits = open_fits seating _ c.self.view_is c.self.invariant id first in
    λ other. by_same other c.args.block (next_place c.args.self.now.purse) (place_of c.args.self.now.purse other) (place_of (purse_of c.begin_use-used.new.seats.items) other)
    (λ same.
    place_is seating.size seating.slices c.begin_use-used.new.seats.items c.put_cell.new.cells.items (tables_are c) other
    ∙ ap (λ (ys : List Cell). slice_of (get_or ys other Vacant)) (cells_are c)
    ∙ ap (λ (n : ℕ). slice_of (get_or (set seating.cells.items block (Resident used c.args.was)) n Vacant)) same
    ∙ ap slice_of (get_or-set_same seating.cells.items block (Resident used c.args.was) Vacant in_cells)
    ∙ ap (λ (n : ℕ). Some (n, slice.number + 1)) fits.0
    ∙ sym (open_next seating _ c.self.view_is c.self.invariant id first))
    (λ apart.
    place_is seating.size seating.slices c.begin_use-used.new.seats.items c.put_cell.new.cells.items (tables_are c) other
    ∙ ap (λ (ys : List Cell). slice_of (get_or ys other Vacant)) (cells_are c)
    ∙ ap slice_of (get_or-set_other seating.cells.items block other (Resident used c.args.was) Vacant apart)
    ∙ sym (cell_place seating _ c.self.view_is c.self.invariant other))

pub returns-clause-open : goal.returns-clause-open
returns-clause-open c =
    let seating = c.self.inside in
    let id : ℕ = c.in-Some.slice in
    let block : ℕ = c.args.block in
    let first : position (λ (b : Bool). b) seating.open_seats ≡ Some id = sym c.first.ensures ∙ c.in-Some.is in
    let opened : one_if (is_open (get_or seating.seats.items id Empty)) ≡ 1 = ap one_if (open_seat seating _ c.self.view_is c.self.invariant id first) in
    let low : id < seating.slices = open_low seating _ c.self.view_is c.self.invariant id first in
    let in_seats : id < length seating.seats.items = omega (arith, c.self.invariant.tables.seats_for_all) in
    let seat : Seat = Busy block ((slice_in (get_or seating.seats.items id Empty)).number + 1) in
    let sum : length (open_slices (purse_of (set seating.seats.items id seat))) + one_if (is_open (get_or seating.seats.items id Empty)) ≡ length (open_slices (purse_of seating.seats.items)) + 0 = length-open_set seating.seats.items id seat in_seats in
    let after : length (open_slices (purse_of c.begin_use-used.new.seats.items)) ≡ length (open_slices (purse_of (set seating.seats.items id seat))) = ap (λ (xs : List Seat). length (open_slices (purse_of xs))) c.begin_use-used.ensures.seats in
    let before : length (open_slices (purse_of seating.seats.items)) ≡ length (open_slices c.args.self.now.purse) = ap (λ (p : Purse). length (open_slices p)) (purse_in seating _ c.self.view_is c.self.invariant) in
    omega arith

pub returns-clause-spare : goal.returns-clause-spare
returns-clause-spare c = spare_taken c.self.inside _ c.self.view_is c.self.invariant c.args.block (cell_within c) _ _ (cells_are c) refl

pub returns-clause-blocks : goal.returns-clause-blocks
returns-clause-blocks c =
    ap (λ (ys : List Cell). blocks_of ys) (cells_are c)
    ∙ blocks-set c.self.inside.cells.items c.args.block _ (InSlice c.args.bytes.now c.args.was) (cell_within c) refl
    ∙ ap (λ bs. put nat_cmp c.args.block (InSlice c.args.bytes.now c.args.was) bs) (blocks_in c.self.inside _ c.self.view_is c.self.invariant)

pub returns-clause-purse : goal.returns-clause-purse
returns-clause-purse c =
    let seating = c.self.inside in
    let id : ℕ = c.in-Some.slice in
    let block : ℕ = c.args.block in
    let first : position (λ (b : Bool). b) seating.open_seats ≡ Some id = sym c.first.ensures ∙ c.in-Some.is in
    let slice : SliceView = slice_in (get_or seating.seats.items id Empty) in
    let low : id < seating.slices = open_low seating _ c.self.view_is c.self.invariant id first in
    let in_seats : id < length seating.seats.items = omega (arith, c.self.invariant.tables.seats_for_all) in
    let held : Held = record { number = slice.number + 1; block = Some block } in
    ap (λ (xs : List Seat). purse_of xs) c.begin_use-used.ensures.seats ∙ purse-set seating.seats.items id (Busy block (slice.number + 1)) held in_seats refl
    ∙ ap (λ (p : Purse). put nat_cmp id held p) (purse_in seating _ c.self.view_is c.self.invariant)
    ∙ ap (λ (o : Option (ℕ × ℕ)). option_map_or (λ place. holding c.args.self.now.purse place.0 place.1 (Some c.args.block)) o c.args.self.now.purse) (sym (open_next seating _ c.self.view_is c.self.invariant id first))

pub returns-clause-moves : goal.returns-clause-moves
returns-clause-moves c =
    let seating = c.self.inside in
    let id : ℕ = c.in-Some.slice in
    let first : position (λ (b : Bool). b) seating.open_seats ≡ Some id = sym c.first.ensures ∙ c.in-Some.is in
    let slice : SliceView = slice_in (get_or seating.seats.items id Empty) in
    let number : c.number-number.result ≡ slice.number + 1 = c.number-number.ensures.value ∙ ap (λ (u : UsedView). u.number) c.begin_use-used.ensures.used in
    c.note_placed.ensures
    ∙ ap (λ (n : ℕ). noting_placed seating.moves (Some (id, n)) c.args.block) number
    ∙ ap (λ (m : NotedView). noting_placed m (Some (id, slice.number + 1)) c.args.block) (ap (λ (w : SeatingView). w.moves) c.self.view_is)
    ∙ ap (λ (o : Option (ℕ × ℕ)). noting_placed c.args.self.now.moves o c.args.block) (sym (open_next seating _ c.self.view_is c.self.invariant id first))

pub returns-clause-rest : goal.returns-clause-rest
returns-clause-rest c =
    let seating = c.self.inside in
    let id : ℕ = c.in-Some.slice in
    let block : ℕ = c.args.block in
    let first : position (λ (b : Bool). b) seating.open_seats ≡ Some id = sym c.first.ensures ∙ c.in-Some.is in
    let opened : is_open (get_or seating.seats.items id Empty) ≡ true = open_seat seating _ c.self.view_is c.self.invariant id first in
    let low : id < seating.slices = open_low seating _ c.self.view_is c.self.invariant id first in
    let in_seats : id < length seating.seats.items = omega (arith, c.self.invariant.tables.seats_for_all) in
    let strays : strays_of c.begin_use-used.new.seats.items ≡ c.args.self.now.strays =
    ap (λ (xs : List Seat). strays_of xs) c.begin_use-used.ensures.seats
    ∙ strays_same seating.seats.items id (Busy block ((slice_in (get_or seating.seats.items id Empty)).number + 1)) in_seats (sym (ap is_stray (idle_is (get_or seating.seats.items id Empty) opened)))
    ∙ ap (λ (w : SeatingView). w.strays) c.self.view_is in
    λ i. record {
      size = ap (λ (w : SeatingView). w.size) c.self.view_is i;
      slices = ap (λ (w : SeatingView). w.slices) c.self.view_is i;
      blocks = blocks_of c.put_cell.new.cells.items;
      purse = purse_of c.begin_use-used.new.seats.items;
      strays = strays i;
      numbers = numbers_written seating _ c.self.view_is c.self.invariant block (cell_within c) _ _ (cells_are c) i;
      moves = c.note_placed.new.self;
    }
