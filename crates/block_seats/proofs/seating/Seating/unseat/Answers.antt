use Rattle.std.proofs.Common.{◌≡◌, ℕ, ◌+◌, ◌<◌, ◌≤◌, Bool, cond, not, List, length, get_or, set, ap, sym, subst, ◌∙◌, arith, true, false, refl, Some, None}
use Rattle.std.specs.declared.option.Option.{Option}
use Rattle.std.specs.Option.{option_map_or}
use Rattle.std.specs.FinMap.{put}
use Rattle.std.specs.Ordering.{nat_cmp}
use Rattle.slice_seq.specs.Slice.{SliceView}
use Rattle.slice_seq.specs.Used.{UsedView}
use Rattle.block_seats.specs.declared.seat.Seat.{Seat}
use Rattle.block_seats.specs.declared.seat.Seat.TheVariants.{Empty, Idle, Busy}
use Rattle.block_seats.specs.declared.cell.Cell.{Cell}
use Rattle.block_seats.specs.declared.cell.Cell.TheVariants.{Vacant, Resident}
use Rattle.block_seats.specs.Seatings.{leaving}
use Rattle.slice_seq.specs.Purses.{Held, Purse, holding, is_worn, open_slices}
use Rattle.slice_seq.specs.Idle.{is_idle}
use Rattle.block_seats.specs.Purses.{next_idle, place_of}
use Rattle.block_seats.specs.Noted.{NotedView, noting_freed}
use Rattle.block_seats.specs.Seats.{blocks_of, purse_of, strays_of, used_in, put_in, left_cell, slice_of, held_in, is_open, is_empty, is_busy, keeps_slice, is_vacant, is_stray, is_bare}
use Rattle.block_seats.specs.Seatings.{SeatingView}
use Rattle.block_seats.specs.Well.{AreTables}
use Rattle.block_seats.proofs.Purses.{passes}
use Rattle.block_seats.proofs.Seats.{by_same, place_is, next_idle_is}
use Rattle.block_seats.proofs.Rewrites.{few_written, numbers_written, spare_kept, spare_freed}
use Rattle.block_seats.proofs.Views.{size_in, cell_place, cell_slice, seated_is_there, blocks_in, purse_in, cell_at, cell_low, cut_seat, cut_low, cut_place, open_length, idle_length, idle_everywhere, vacant_length, open_flag, flags-set, flags_same}
use Rattle.block_seats.proofs.Updates.{one_if, length-open_set, left_tables, left_away, left_fits, left_vacant, by_stamp, blocks-leave, purse-set, strays_same}
use Rattle.std.specs.Option.{IfSome}
use Rattle.std.proofs.lemmas.List.{get_or-set_same, get_or-set_other}
use Rattle.block_seats.proofs.seating.Seating.unseat.Goals as goal
use Rattle.block_seats.proofs.seating.Seating.unseat.Goals.{After-put_seat}

pub end_use-freed-requires : goal.end_use-freed-requires
end_use-freed-requires c = cell_slice c.self.inside _ c.self.view_is c.self.invariant c.args.block c.requires.seated

pub insert_open-requires-clause-within : goal.insert_open-requires-clause-within
insert_open-requires-clause-within c =
    let low : (used_in (get_or c.self.inside.cells.items c.args.block Vacant)).id < length c.self.inside.seats.items = cut_low c.self.inside _ c.self.view_is c.self.invariant c.args.block c.requires.seated in
    let id : c.end_use-freed.result.id ≡ (used_in (get_or c.self.inside.cells.items c.args.block Vacant)).id = ap (λ (s : SliceView). s.id) c.end_use-freed.ensures.slice in
    omega (arith, open_length c.self.inside _ c.self.view_is c.self.invariant, c.self.invariant.tables.seats_for_all)

pub insert_open-requires-clause-shut : goal.insert_open-requires-clause-shut
insert_open-requires-clause-shut c =
    let seating = c.self.inside in
    ap (λ (s : SliceView). get_or seating.open_seats s.id false) c.end_use-freed.ensures.slice
    ∙ open_flag seating _ c.self.view_is c.self.invariant (used_in (get_or seating.cells.items c.args.block Vacant)).id
    ∙ ap is_open (cut_seat seating _ c.self.view_is c.self.invariant c.args.block c.requires.seated)

pub overflow_cast-block : goal.overflow_cast-block
overflow_cast-block c =
    let low : c.args.block < length c.self.inside.cells.items = cell_low c.self.inside _ c.self.view_is c.self.invariant c.args.block c.requires.seated in
    let few = c.self.invariant.few in
    omega (arith, low, few)

pub set-requires : goal.set-requires
set-requires c =
    let low : c.args.block < length c.self.inside.cells.items = cell_low c.self.inside _ c.self.view_is c.self.invariant c.args.block c.requires.seated in
    omega (arith, vacant_length c.self.inside _ c.self.view_is c.self.invariant)

pub insert-requires : goal.insert-requires
insert-requires c =
    let low : (used_in (get_or c.self.inside.cells.items c.args.block Vacant)).id < length c.self.inside.seats.items = cut_low c.self.inside _ c.self.view_is c.self.invariant c.args.block c.requires.seated in
    let id : c.id-id.result ≡ (used_in (get_or c.self.inside.cells.items c.args.block Vacant)).id = c.id-id.ensures ∙ ap (λ (s : SliceView). s.id) c.end_use-freed.ensures.slice in
    omega (arith, idle_length c.self.inside _ c.self.view_is c.self.invariant, c.self.invariant.tables.seats_for_all)

pub put_seat-requires-clause-within : goal.put_seat-requires-clause-within
put_seat-requires-clause-within c =
    let low : (used_in (get_or c.self.inside.cells.items c.args.block Vacant)).id < length c.self.inside.seats.items = cut_low c.self.inside _ c.self.view_is c.self.invariant c.args.block c.requires.seated in
    let id : c.id-id.result ≡ (used_in (get_or c.self.inside.cells.items c.args.block Vacant)).id = c.id-id.ensures ∙ ap (λ (s : SliceView). s.id) c.end_use-freed.ensures.slice in
    omega arith

pub put_seat-requires-clause-bare : goal.put_seat-requires-clause-bare
put_seat-requires-clause-bare c =
    let seating = c.self.inside in
    let id : c.id-id.result ≡ (used_in (get_or seating.cells.items c.args.block Vacant)).id = c.id-id.ensures ∙ ap (λ (s : SliceView). s.id) c.end_use-freed.ensures.slice in
    ap (λ (n : ℕ). is_bare (get_or seating.seats.items n Empty)) id ∙ ap is_bare (cut_seat seating _ c.self.view_is c.self.invariant c.args.block c.requires.seated)

not_not : (b : Bool) → not (not b) ≡ b
not_not true = refl
not_not false = refl

id_is : (c : After-put_seat) → c.id-id.result ≡ (used_in (get_or c.self.inside.cells.items c.args.block Vacant)).id
id_is c = c.id-id.ensures ∙ ap (λ (s : SliceView). s.id) c.end_use-freed.ensures.slice

-- the seats afterwards
seats_are : (c : After-put_seat) → (let used : UsedView = used_in (get_or c.self.inside.cells.items c.args.block Vacant) in
    c.put_seat.new.seats.items ≡ set c.self.inside.seats.items used.id (Idle (record { id = used.id; size = used.size; number = used.number })))
seats_are c =
    let seating = c.self.inside in
    let used : UsedView = used_in (get_or seating.cells.items c.args.block Vacant) in
    let id : c.id-id.result ≡ used.id = c.id-id.ensures ∙ ap (λ (s : SliceView). s.id) c.end_use-freed.ensures.slice in
    c.put_seat.ensures ∙ ap (λ (n : ℕ). set seating.seats.items n (Idle c.end_use-freed.result)) id ∙ ap (λ (s : SliceView). set seating.seats.items used.id (Idle s)) c.end_use-freed.ensures.slice

tables_are : (c : After-put_seat) → AreTables c.self.inside.size c.self.inside.slices c.put_seat.new.seats.items c.end_use-freed.new.cells.items
tables_are c =
    let seating = c.self.inside in
    let used : UsedView = used_in (get_or seating.cells.items c.args.block Vacant) in
    let slice : SliceView = record { id = used.id; size = used.size; number = used.number } in
    let here : get_or seating.cells.items c.args.block Vacant ≡ Resident used (put_in (get_or seating.cells.items c.args.block Vacant)) = cell_at seating _ c.self.view_is c.self.invariant c.args.block c.requires.seated in
    let tables : AreTables seating.size seating.slices (set seating.seats.items used.id (Idle slice)) (set seating.cells.items c.args.block (left_cell c.args.stamp))
    = left_tables seating.size seating.slices seating.seats.items seating.cells.items c.self.invariant.tables c.args.block used _ slice (left_cell c.args.stamp) here refl refl
    (left_away c.args.stamp) (left_fits seating.size c.args.stamp (subst (λ (size : ℕ). IfSome c.args.stamp (λ s. (1 ≤ s.length) × (s.length ≤ size))) (sym (size_in seating _ c.self.view_is c.self.invariant)) c.requires.fits)) in
    subst (λ (xs : List Seat). AreTables seating.size seating.slices xs c.end_use-freed.new.cells.items) (sym (seats_are c))
    (subst (λ (ys : List Cell). AreTables seating.size seating.slices (set seating.seats.items used.id (Idle slice)) ys) (sym c.end_use-freed.ensures.cells) tables)

pub invariant_of-self : goal.invariant_of-self
invariant_of-self c =
    let seating = c.self.inside in
    let used : UsedView = used_in (get_or seating.cells.items c.args.block Vacant) in
    let slice : SliceView = record { id = used.id; size = used.size; number = used.number } in
    let seat : get_or seating.seats.items used.id Empty ≡ Busy c.args.block used.number = cut_seat seating _ c.self.view_is c.self.invariant c.args.block c.requires.seated in
    record {
      some = c.self.invariant.some;
      size = c.self.invariant.size;
      slices = c.self.invariant.slices;
      few = few_written seating _ c.self.view_is c.self.invariant c.args.block (cell_low seating _ c.self.view_is c.self.invariant c.args.block c.requires.seated) _ _ c.end_use-freed.ensures.cells;
      tables = tables_are c;
      open_are = c.insert_open.ensures ∙ ap (λ (s : SliceView). set seating.open_seats s.id (is_open (Idle s))) c.end_use-freed.ensures.slice
          ∙ flags-set is_open seating.open_seats seating.seats.items c.put_seat.new.seats.items used.id (Idle slice) (is_open (Idle slice)) c.self.invariant.open_are (seats_are c) refl;
      empty_are = flags_same is_empty seating.empty_seats seating.seats.items c.put_seat.new.seats.items used.id (Idle slice) Empty c.self.invariant.empty_are (seats_are c) (sym (ap is_empty seat));
      idle_are = c.insert.ensures.members ∙ ap (λ (n : ℕ). set seating.idle_seats n true) (id_is c)
          ∙ flags-set keeps_slice seating.idle_seats seating.seats.items c.put_seat.new.seats.items used.id (Idle slice) true c.self.invariant.idle_are (seats_are c) refl;
      busy_are = c.remove.ensures.members ∙ ap (λ (n : ℕ). set seating.busy_seats n false) (id_is c)
          ∙ flags-set is_busy seating.busy_seats seating.seats.items c.put_seat.new.seats.items used.id (Idle slice) false c.self.invariant.busy_are (seats_are c) refl;
      vacant_are = c.set.ensures ∙ flags-set is_vacant seating.vacant_cells seating.cells.items c.end_use-freed.new.cells.items c.args.block (left_cell c.args.stamp) c.is_none.result c.self.invariant.vacant_are c.end_use-freed.ensures.cells
          (left_vacant c.args.stamp ∙ ap not c.is_none.ensures ∙ not_not c.is_none.result);
      most = ap (λ (m : NotedView). m.most) c.note_freed.ensures ∙ c.self.invariant.most;
    }

pub returns-clause-blocks : goal.returns-clause-blocks
returns-clause-blocks c =
    let seating = c.self.inside in
    ap (λ (ys : List Cell). blocks_of ys) c.end_use-freed.ensures.cells
    ∙ blocks-leave seating.cells.items c.args.block c.args.stamp (cell_low seating _ c.self.view_is c.self.invariant c.args.block c.requires.seated)
    ∙ ap (λ bs. leaving c.args.stamp c.args.block bs) (blocks_in seating _ c.self.view_is c.self.invariant)

pub returns-clause-spare : goal.returns-clause-spare
returns-clause-spare c =
    let seating = c.self.inside in
    let low = cell_low seating _ c.self.view_is c.self.invariant c.args.block c.requires.seated in
    let there = seated_is_there seating _ c.self.view_is c.self.invariant c.args.block c.requires.seated in
    by_stamp c.args.stamp _ _
    (λ some. spare_kept seating _ c.self.view_is c.self.invariant c.args.block low _ _ c.end_use-freed.ensures.cells some there)
    (λ none. spare_freed seating _ c.self.view_is c.self.invariant c.args.block low _ _ c.end_use-freed.ensures.cells none there)

pub returns-clause-purse : goal.returns-clause-purse
returns-clause-purse c =
    let seating = c.self.inside in
    let used : UsedView = used_in (get_or seating.cells.items c.args.block Vacant) in
    let held : Held = record { number = used.number; block = None } in
    ap (λ (xs : List Seat). purse_of xs) (seats_are c)
    ∙ purse-set seating.seats.items used.id (Idle (record { id = used.id; size = used.size; number = used.number })) held (cut_low seating _ c.self.view_is c.self.invariant c.args.block c.requires.seated) refl
    ∙ ap (λ (p : Purse). put nat_cmp used.id held p) (purse_in seating _ c.self.view_is c.self.invariant)
    ∙ ap (λ (o : Option (ℕ × ℕ)). option_map_or (λ place. holding c.args.self.now.purse place.0 place.1 None) o c.args.self.now.purse) (sym (cut_place seating _ c.self.view_is c.self.invariant c.args.block c.requires.seated))

-- the slice that is free is the first without a block, where each had one
pub returns-clause-idle : goal.returns-clause-idle
returns-clause-idle c = λ none.
    let seating = c.self.inside in
    let used : UsedView = used_in (get_or seating.cells.items c.args.block Vacant) in
    let seat : Seat = Idle (record { id = used.id; size = used.size; number = used.number }) in
    let in_seats : used.id < length seating.seats.items = cut_low seating _ c.self.view_is c.self.invariant c.args.block c.requires.seated in
    ap (λ (xs : List Seat). next_idle (purse_of xs)) (seats_are c)
    ∙ next_idle_is (set seating.seats.items used.id seat) used.id (record { number = used.number; block = None })
    (λ j low. ap (λ s. passes is_idle (held_in s)) (get_or-set_other seating.seats.items used.id j seat Empty (λ same. absurd (omega arith)))
    ∙ idle_everywhere seating _ c.self.view_is c.self.invariant none j)
    (ap held_in (get_or-set_same seating.seats.items used.id seat Empty in_seats)) refl
    ∙ sym (cut_place seating _ c.self.view_is c.self.invariant c.args.block c.requires.seated)

pub returns-clause-places : goal.returns-clause-places
returns-clause-places c =
    let seating = c.self.inside in
    let in_cells : c.args.block < length seating.cells.items = cell_low seating _ c.self.view_is c.self.invariant c.args.block c.requires.seated in
    λ other. by_same other c.args.block None (place_of c.args.self.now.purse other) (place_of (purse_of c.put_seat.new.seats.items) other)
    (λ same.
    place_is seating.size seating.slices c.put_seat.new.seats.items c.end_use-freed.new.cells.items (tables_are c) other
    ∙ ap (λ (ys : List Cell). slice_of (get_or ys other Vacant)) c.end_use-freed.ensures.cells
    ∙ ap (λ (n : ℕ). slice_of (get_or (set seating.cells.items c.args.block (left_cell c.args.stamp)) n Vacant)) same
    ∙ ap slice_of (get_or-set_same seating.cells.items c.args.block (left_cell c.args.stamp) Vacant in_cells)
    ∙ left_away c.args.stamp)
    (λ apart.
    place_is seating.size seating.slices c.put_seat.new.seats.items c.end_use-freed.new.cells.items (tables_are c) other
    ∙ ap (λ (ys : List Cell). slice_of (get_or ys other Vacant)) c.end_use-freed.ensures.cells
    ∙ ap slice_of (get_or-set_other seating.cells.items c.args.block other (left_cell c.args.stamp) Vacant apart)
    ∙ sym (cell_place seating _ c.self.view_is c.self.invariant other))

one_unless : (b : Bool) → one_if (not b) ≡ cond b 0 1
one_unless true = refl
one_unless false = refl

pub returns-clause-left : goal.returns-clause-left
returns-clause-left c =
    let seating = c.self.inside in
    let used : UsedView = used_in (get_or seating.cells.items c.args.block Vacant) in
    let seat : Seat = Idle (record { id = used.id; size = used.size; number = used.number }) in
    let in_seats : used.id < length seating.seats.items = cut_low seating _ c.self.view_is c.self.invariant c.args.block c.requires.seated in
    let shut : one_if (is_open (get_or seating.seats.items used.id Empty)) ≡ 0 = ap (λ s. one_if (is_open s)) (cut_seat seating _ c.self.view_is c.self.invariant c.args.block c.requires.seated) in
    let sum : length (open_slices (purse_of (set seating.seats.items used.id seat))) + one_if (is_open (get_or seating.seats.items used.id Empty)) ≡ length (open_slices (purse_of seating.seats.items)) + one_if (not (is_worn used.number)) = length-open_set seating.seats.items used.id seat in_seats in
    let after : length (open_slices (purse_of c.put_seat.new.seats.items)) ≡ length (open_slices (purse_of (set seating.seats.items used.id seat))) = ap (λ (xs : List Seat). length (open_slices (purse_of xs))) (seats_are c) in
    let before : length (open_slices (purse_of seating.seats.items)) ≡ length (open_slices c.args.self.now.purse) = ap (λ (p : Purse). length (open_slices p)) (purse_in seating _ c.self.view_is c.self.invariant) in
    let worn : one_if (not (is_worn used.number)) ≡ cond (is_worn used.number) 0 1 = one_unless (is_worn used.number) in
    let total : length (open_slices (purse_of c.put_seat.new.seats.items)) ≡ length (open_slices c.args.self.now.purse) + cond (is_worn used.number) 0 1 = omega arith in
    subst (λ (o : Option (ℕ × ℕ)). IfSome o (λ place. length (open_slices (purse_of c.put_seat.new.seats.items)) ≡ length (open_slices c.args.self.now.purse) + cond (is_worn place.1) 0 1))
    (sym (cut_place seating _ c.self.view_is c.self.invariant c.args.block c.requires.seated)) total

pub returns-clause-moves : goal.returns-clause-moves
returns-clause-moves c =
    let seating = c.self.inside in
    let used : UsedView = used_in (get_or seating.cells.items c.args.block Vacant) in
    let id : c.id-id.result ≡ used.id = c.id-id.ensures ∙ ap (λ (s : SliceView). s.id) c.end_use-freed.ensures.slice in
    let number : c.number.result ≡ used.number = c.number.ensures.value ∙ ap (λ (s : SliceView). s.number) c.end_use-freed.ensures.slice in
    c.note_freed.ensures
    ∙ ap (λ (n : ℕ). noting_freed seating.moves (Some (n, c.number.result))) id
    ∙ ap (λ (n : ℕ). noting_freed seating.moves (Some (used.id, n))) number
    ∙ ap (λ (m : NotedView). noting_freed m (Some (used.id, used.number))) (ap (λ (w : SeatingView). w.moves) c.self.view_is)
    ∙ ap (λ (o : Option (ℕ × ℕ)). noting_freed c.args.self.now.moves o) (sym (cut_place seating _ c.self.view_is c.self.invariant c.args.block c.requires.seated))

pub returns-clause-rest : goal.returns-clause-rest
returns-clause-rest c =
    let seating = c.self.inside in
    let used : UsedView = used_in (get_or seating.cells.items c.args.block Vacant) in
    let seat : get_or seating.seats.items used.id Empty ≡ Busy c.args.block used.number = cut_seat seating _ c.self.view_is c.self.invariant c.args.block c.requires.seated in
    let strays : strays_of c.put_seat.new.seats.items ≡ c.args.self.now.strays =
    ap (λ (xs : List Seat). strays_of xs) (seats_are c)
    ∙ strays_same seating.seats.items used.id (Idle (record { id = used.id; size = used.size; number = used.number })) (cut_low seating _ c.self.view_is c.self.invariant c.args.block c.requires.seated) (sym (ap is_stray seat))
    ∙ ap (λ (w : SeatingView). w.strays) c.self.view_is in
    λ i. record {
      size = ap (λ (w : SeatingView). w.size) c.self.view_is i;
      slices = ap (λ (w : SeatingView). w.slices) c.self.view_is i;
      blocks = blocks_of c.end_use-freed.new.cells.items;
      purse = purse_of c.put_seat.new.seats.items;
      strays = strays i;
      numbers = numbers_written seating _ c.self.view_is c.self.invariant c.args.block (cell_low seating _ c.self.view_is c.self.invariant c.args.block c.requires.seated) _ _ c.end_use-freed.ensures.cells i;
      moves = c.note_freed.new.self;
    }
