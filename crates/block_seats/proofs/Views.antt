-- What a seating's view says of its tables.
use Rattle.std.proofs.Common.{◌≡◌, ℕ, ◌+◌, ◌<◌, ◌≤◌, Bool, true, false, cond, not, ◌&&◌, nat_lt, List, length, map, count_by, get_or, set, ap, sym, ◌∙◌, ◌-◌, arith, is_some, refl, subst, ◌⊎◌, inl, inr, Some, None}
use Rattle.std.specs.declared.option.Option.{Option}
use Rattle.std.specs.Option.{option_map, option_and_then, IfSome}
use Rattle.std.specs.FinMap.{find}
use Rattle.std.specs.Ordering.{nat_cmp}
use Rattle.std.specs.List.{position}
use Rattle.std.proofs.Math.ListN.{get_or-map}
use Rattle.std.proofs.Math.Seq.{map-set_same}
use Rattle.std.proofs.lemmas.Bool.{both_ways}
use Rattle.std.proofs.lemmas.Bool.Decides.{nat_tests}
use Rattle.std.proofs.lemmas.List.{length-map, map-set, get_or-map as get_or-map_within}
use Rattle.std.proofs.lemmas.List.Sums.{get_or-le-sum_by}
use Rattle.std.proofs.lemmas.List.Quantifiers.{position-Some}
use Rattle.slice_seq.specs.Used.{UsedView}
use Rattle.block_seats.specs.declared.seating.Seating.TheInside.{Inside}
use Rattle.block_seats.specs.declared.seat.Seat.{Seat}
use Rattle.block_seats.specs.declared.seat.Seat.TheVariants.{Empty, Idle, Busy, Stray}
use Rattle.block_seats.specs.declared.cell.Cell.{Cell}
use Rattle.block_seats.specs.declared.cell.Cell.TheVariants.{Vacant, Resident, Parked}
use Rattle.block_seats.specs.Blocks.{BlockView, InSlice, seen, block_at, length_of, stamp_of}
use Rattle.slice_seq.specs.Purses.{Held, Purse, open_slices}
use Rattle.slice_seq.specs.Idle.{is_idle, idle_slices}
use Rattle.block_seats.specs.Purses.{lowest, next_place, next_idle, first_block, place_of}
use Rattle.block_seats.specs.Seats.{blocks_of, view_in, put_in, purse_of, strays_of, used_in, slice_of, slice_in, is_open, is_empty, is_busy, keeps_slice, is_vacant, is_stray, block_of, held_in}
use Rattle.block_seats.specs.Seatings.{SeatingView, open_of, spare_of, granted_of, can_hold, IsNewNumber}
use Rattle.block_seats.specs.Well.{view_of, CellFits, IsWell}
use Rattle.id_set.proofs.Tables.{count_by-map, position_none, position_there}
use Rattle.block_seats.proofs.Purses.{passes, none_passing}
use Rattle.block_seats.proofs.Seats.{cell_there, cell_within, has_cell, has_within, block_seen, seated_there, length-blocks, place_is, find-purse, within_by, next_is, length-open_purse, length-purse, find-blocks, first_of_pair, second_of_pair, no_idle, no_block, first_block_is, seat_names, cell_names}
use Rattle.block_seats.proofs.Updates.{one_if, lends, lends_within}

-- what the flags of a table say after a write
pub flags-set : {X : Type 0} (test : X → Bool) (flags : List Bool) (xs ys : List X) (i : ℕ) (x : X) (b : Bool) → flags ≡ map test xs → ys ≡ set xs i x → test x ≡ b → set flags i b ≡ map test ys
flags-set test flags xs ys i x b are is passes =
    ap (λ (f : List Bool). set f i b) are ∙ ap (λ (t : Bool). set (map test xs) i t) (sym passes) ∙ sym (map-set test xs i x) ∙ ap (λ zs. map test zs) (sym is)

pub flags_same : {X : Type 0} (test : X → Bool) (flags : List Bool) (xs ys : List X) (i : ℕ) (x d : X) → flags ≡ map test xs → ys ≡ set xs i x → test x ≡ test (get_or xs i d) → flags ≡ map test ys
flags_same test flags xs ys i x d are is same = are ∙ sym (ap (λ zs. map test zs) is ∙ map-set_same test xs i x d same)

pub idle_is : (seat : Seat) → is_open seat ≡ true → seat ≡ Idle (slice_in seat)
idle_is Empty e = cc
idle_is (Idle slice) e = refl
idle_is (Busy block number) e = cc
idle_is (Stray slice) e = cc

pub empty_is : (seat : Seat) → is_empty seat ≡ true → seat ≡ Empty
empty_is Empty e = refl
empty_is (Idle slice) e = cc
empty_is (Busy block number) e = cc
empty_is (Stray slice) e = cc

vacant_is : (cell : Cell) → is_vacant cell ≡ true → cell ≡ Vacant
vacant_is Vacant e = refl
vacant_is (Resident used put) e = cc
vacant_is (Parked stamp) e = cc

taken_is : (cell : Cell) → is_vacant cell ≡ false → is_some (view_in cell) ≡ true
taken_is Vacant e = cc
taken_is (Resident used put) e = refl
taken_is (Parked stamp) e = refl

-- what a cell's block has, wherever it is

pub length_fits : (size : ℕ) (cell : Cell) → CellFits size cell → is_some (view_in cell) ≡ true → (1 ≤ length_of (seen (view_in cell))) × (length_of (seen (view_in cell)) ≤ size)
length_fits size Vacant fits e = cc
length_fits size (Resident used put) fits e = (fits.1, fits.2)
length_fits size (Parked stamp) fits e = fits

pub stamp_away : (cell : Cell) → is_some (option_and_then stamp_of (view_in cell)) ≡ true → slice_of cell ≡ None
stamp_away Vacant e = refl
stamp_away (Resident used put) e = cc
stamp_away (Parked stamp) e = refl

pub slice_unstamped : (cell : Cell) → is_some (slice_of cell) ≡ true → option_and_then stamp_of (view_in cell) ≡ None
slice_unstamped Vacant e = cc
slice_unstamped (Resident used put) e = refl
slice_unstamped (Parked stamp) e = cc

pub unstamped_slice : (cell : Cell) → is_some (view_in cell) ≡ true → option_and_then stamp_of (view_in cell) ≡ None → is_some (slice_of cell) ≡ true
unstamped_slice Vacant some e = cc
unstamped_slice (Resident used put) some e = refl
unstamped_slice (Parked stamp) some e = cc

pub stamp_fits : (size : ℕ) (cell : Cell) → CellFits size cell → IfSome (option_and_then stamp_of (view_in cell)) (λ stamp. (1 ≤ stamp.length) × (stamp.length ≤ size))
stamp_fits size Vacant fits = tt
stamp_fits size (Resident used put) fits = tt
stamp_fits size (Parked stamp) fits = fits

-- a seat that names a block
pub busy_is : (seat : Seat) (block number : ℕ) → block_of seat ≡ Some (block, number) → seat ≡ Busy block number
busy_is Empty block number e = cc
busy_is (Idle slice) block number e = cc
busy_is (Busy b n) block number e = λ i. Busy (first_of_pair b n block number e i) (second_of_pair b n block number e i)
busy_is (Stray slice) block number e = cc

no_stray : (seats : List Seat) (id : ℕ) → id < length seats → count_by is_stray seats ≡ 0 → is_some (held_in (get_or seats id Empty)) ≡ false → get_or seats id Empty ≡ Empty
no_stray seats id low zero_is none = by (get_or seats id Empty) refl none
  where
    by : (seat : Seat) → get_or seats id Empty ≡ seat → is_some (held_in seat) ≡ false → seat ≡ Empty
    by Empty e n = refl
    by (Idle slice) e n = cc
    by (Busy block number) e n = cc
    by (Stray slice) e n =
        let some : cond (is_stray (get_or seats id Empty)) 1 0 ≤ count_by is_stray seats = get_or-le-sum_by (λ s. cond (is_stray s) 1 0) seats id Empty low in
        let one : one_if (is_stray (get_or seats id Empty)) ≡ 1 = ap (λ s. one_if (is_stray s)) e in
        absurd (omega arith)

no_vacant : (cells : List Cell) (block : ℕ) → block < length cells → count_by is_vacant cells ≡ 0 → is_vacant (get_or cells block Vacant) ≡ false
no_vacant cells block low zero_is = by (is_vacant (get_or cells block Vacant)) refl
  where
    by : (b : Bool) → is_vacant (get_or cells block Vacant) ≡ b → b ≡ false
    by false e = refl
    by true e =
        let some : cond (is_vacant (get_or cells block Vacant)) 1 0 ≤ count_by is_vacant cells = get_or-le-sum_by (λ s. cond (is_vacant s) 1 0) cells block Vacant low in
        let one : one_if (is_vacant (get_or cells block Vacant)) ≡ 1 = ap one_if e in
        absurd (omega arith)

both_hold : (a b : Bool) → (a && b) ≡ true → (a ≡ true) × (b ≡ true)
both_hold true true e = (refl, refl)
both_hold true false e = cc
both_hold false b e = cc

not_true : (b : Bool) → not b ≡ true → b ≡ false
not_true true e = cc
not_true false e = refl

unmapped : {X Y : Type 0} (f : X → Y) (o : Option X) → option_map f o ≡ None → o ≡ None
unmapped f None e = refl
unmapped f (Some x) e = cc

pub busy_names : (seat : Seat) → is_busy seat ≡ true → block_of seat ≡ None → ⊥
busy_names Empty busy none = cc
busy_names (Idle slice) busy none = cc
busy_names (Busy block number) busy none = cc
busy_names (Stray slice) busy none = cc

module _ (seating : Inside) (v : SeatingView) (is : view_of seating ≡ v) (well : IsWell seating) where
  pub blocks_in : blocks_of seating.cells.items ≡ v.blocks
  blocks_in = ap (λ (w : SeatingView). w.blocks) is

  pub purse_in : purse_of seating.seats.items ≡ v.purse
  purse_in = ap (λ (w : SeatingView). w.purse) is

  pub size_in : seating.size ≡ v.size
  size_in = ap (λ (w : SeatingView). w.size) is

  pub cell_place : (block : ℕ) → place_of v.purse block ≡ slice_of (get_or seating.cells.items block Vacant)
  cell_place block = ap (λ p. place_of p block) (sym purse_in) ∙ place_is seating.size seating.slices seating.seats.items seating.cells.items well.tables block

  -- a block, wherever it is
  pub cell_view : (block : ℕ) → find nat_cmp block v.blocks ≡ view_in (get_or seating.cells.items block Vacant)
  cell_view block = has_cell seating.cells.items v.blocks blocks_in block

  pub there_low : (block : ℕ) → is_some (find nat_cmp block v.blocks) ≡ true → block < length seating.cells.items
  there_low block e = has_within seating.cells.items v.blocks blocks_in block e

  -- a number that there is room for, or that names a block
  pub number_low : (block : ℕ) → (block < v.numbers) ⊎ (is_some (find nat_cmp block v.blocks) ≡ true) → block < length seating.cells.items
  number_low block known = elim known [
    | inl low ↦ omega (arith, low, ap (λ (w : SeatingView). w.numbers) is)
    | inr there ↦ there_low block there
  ]

  -- the cell of a block in a slice
  pub cell_slice : (block : ℕ) → is_some (place_of v.purse block) ≡ true → is_some (slice_of (get_or seating.cells.items block Vacant)) ≡ true
  cell_slice block e = ap (λ (o : Option (ℕ × ℕ)). is_some o) (sym (cell_place block)) ∙ e

  pub seated_is_there : (block : ℕ) → is_some (place_of v.purse block) ≡ true → is_some (find nat_cmp block v.blocks) ≡ true
  seated_is_there block e = ap (λ (o : Option BlockView). is_some o) (cell_view block) ∙ seated_there (get_or seating.cells.items block Vacant) (cell_slice block e)

  pub cell_at : (block : ℕ) → is_some (place_of v.purse block) ≡ true
      → get_or seating.cells.items block Vacant ≡ Resident (used_in (get_or seating.cells.items block Vacant)) (put_in (get_or seating.cells.items block Vacant))
  cell_at block e = cell_there (get_or seating.cells.items block Vacant) (cell_slice block e)

  pub cell_low : (block : ℕ) → is_some (place_of v.purse block) ≡ true → block < length seating.cells.items
  cell_low block e = cell_within seating.cells.items block (cell_slice block e)

  pub cell_fits : (block : ℕ) → is_some (place_of v.purse block) ≡ true
      → ((used_in (get_or seating.cells.items block Vacant)).size ≡ seating.size) × (1 ≤ length (used_in (get_or seating.cells.items block Vacant)).bytes)
      × (length (used_in (get_or seating.cells.items block Vacant)).bytes ≤ seating.size)
  cell_fits block e = subst (λ c. CellFits seating.size c) (cell_at block e) (well.tables.sized.each block)

  pub cell_size : (block : ℕ) → is_some (place_of v.purse block) ≡ true → (used_in (get_or seating.cells.items block Vacant)).size ≡ v.size
  cell_size block e = (cell_fits block e).0 ∙ size_in

  pub cell_block : (block : ℕ) → is_some (place_of v.purse block) ≡ true
      → block_at v.blocks block ≡ InSlice (used_in (get_or seating.cells.items block Vacant)).bytes (put_in (get_or seating.cells.items block Vacant))
  cell_block block e = block_seen seating.cells.items v.blocks blocks_in block (cell_slice block e)

  -- how many vacant numbers there are
  pub spare_is : count_by is_vacant seating.cells.items ≡ spare_of v
  spare_is =
      let all : length (blocks_of seating.cells.items) + count_by is_vacant seating.cells.items ≡ length seating.cells.items = length-blocks seating.cells.items in
      let view : length seating.cells.items - length (blocks_of seating.cells.items) ≡ spare_of v = ap spare_of is in
      omega arith

  pub vacant_count : count_by (λ (b : Bool). b) seating.vacant_cells ≡ spare_of v
  vacant_count = ap (λ (f : List Bool). count_by (λ (b : Bool). b) f) well.vacant_are ∙ count_by-map (λ (b : Bool). b) is_vacant seating.cells.items ∙ spare_is

  -- the first open seat

  first_open : (id : ℕ) → position (λ (b : Bool). b) seating.open_seats ≡ Some id → position (λ (b : Bool). b) (map is_open seating.seats.items) ≡ Some id
  first_open id e = ap (λ (f : List Bool). position (λ (b : Bool). b) f) (sym well.open_are) ∙ e

  pub open_seat : (id : ℕ) → position (λ (b : Bool). b) seating.open_seats ≡ Some id → is_open (get_or seating.seats.items id Empty) ≡ true
  open_seat id e = sym (get_or-map is_open seating.seats.items id Empty) ∙ (position-Some (λ (b : Bool). b) (map is_open seating.seats.items) id false (first_open id e)).1

  pub open_low : (id : ℕ) → position (λ (b : Bool). b) seating.open_seats ≡ Some id → id < seating.slices
  open_low id e = let low : id < length seating.seats.items = within_by is_open seating.seats.items id Empty refl (open_seat id e) in omega (arith, well.tables.seats_for_all)

  pub open_fits : (id : ℕ) → position (λ (b : Bool). b) seating.open_seats ≡ Some id → ((slice_in (get_or seating.seats.items id Empty)).id ≡ id) × ((slice_in (get_or seating.seats.items id Empty)).size ≡ seating.size)
  open_fits id e = well.tables.seated.seated id (slice_in (get_or seating.seats.items id Empty)) (idle_is (get_or seating.seats.items id Empty) (open_seat id e))

  pub open_next : (id : ℕ) → position (λ (b : Bool). b) seating.open_seats ≡ Some id → next_place v.purse ≡ Some (id, (slice_in (get_or seating.seats.items id Empty)).number + 1)
  open_next id e = ap (λ (p : Purse). next_place p) (sym purse_in) ∙ next_is seating.seats.items id (first_open id e)

  pub open_is : open_of v ≡ count_by (λ (b : Bool). b) (map is_open seating.seats.items)
  open_is = ap (λ (p : Purse). length (open_slices p)) (sym purse_in) ∙ length-open_purse seating.seats.items

  pub some_open : 1 ≤ open_of v → position (λ (b : Bool). b) seating.open_seats ≡ None → ⊥
  some_open room none =
      position_there (λ (b : Bool). b) (map is_open seating.seats.items) (omega (arith, open_is)) (ap (λ (f : List Bool). position (λ (b : Bool). b) f) (sym well.open_are) ∙ none)

  -- the first vacant cell

  first_vacant : (block : ℕ) → position (λ (b : Bool). b) seating.vacant_cells ≡ Some block → position (λ (b : Bool). b) (map is_vacant seating.cells.items) ≡ Some block
  first_vacant block e = ap (λ (f : List Bool). position (λ (b : Bool). b) f) (sym well.vacant_are) ∙ e

  pub vacant_cell : (block : ℕ) → position (λ (b : Bool). b) seating.vacant_cells ≡ Some block → get_or seating.cells.items block Vacant ≡ Vacant
  vacant_cell block e =
      vacant_is (get_or seating.cells.items block Vacant) (sym (get_or-map is_vacant seating.cells.items block Vacant) ∙ (position-Some (λ (b : Bool). b) (map is_vacant seating.cells.items) block true (first_vacant block e)).1)

  pub vacant_low : (block : ℕ) → position (λ (b : Bool). b) seating.vacant_cells ≡ Some block → block < length seating.cells.items
  vacant_low block e =
      let low : block < length (map is_vacant seating.cells.items) = (position-Some (λ (b : Bool). b) (map is_vacant seating.cells.items) block true (first_vacant block e)).0 in
      omega (arith, length-map seating.cells.items is_vacant)

  pub vacant_number : (block : ℕ) → position (λ (b : Bool). b) seating.vacant_cells ≡ Some block → IsNewNumber v block
  vacant_number block e = record {
    fresh = ap (λ bs. find nat_cmp block bs) (sym blocks_in) ∙ find-blocks seating.cells.items block ∙ ap view_in (vacant_cell block e);
    least = λ lower low.
        ap (λ bs. is_some (find nat_cmp lower bs)) (sym blocks_in) ∙ ap is_some (find-blocks seating.cells.items lower)
        ∙ taken_is (get_or seating.cells.items lower Vacant)
        (sym (get_or-map is_vacant seating.cells.items lower Vacant) ∙ (position-Some (λ (b : Bool). b) (map is_vacant seating.cells.items) block true (first_vacant block e)).2 lower low);
  }

  vacant_none : position (λ (b : Bool). b) seating.vacant_cells ≡ None → count_by is_vacant seating.cells.items ≡ 0
  vacant_none none =
      sym (count_by-map (λ (b : Bool). b) is_vacant seating.cells.items)
      ∙ position_none (λ (b : Bool). b) (map is_vacant seating.cells.items) (ap (λ (f : List Bool). position (λ (b : Bool). b) f) (sym well.vacant_are) ∙ none)

  -- where none is vacant, the number after all
  pub full_number : position (λ (b : Bool). b) seating.vacant_cells ≡ None → IsNewNumber v (length seating.vacant_cells)
  full_number none = record {
    fresh = gone (find nat_cmp (length seating.vacant_cells) v.blocks) refl;
    least = λ lower low.
        let within : lower < length seating.cells.items = let all : length seating.vacant_cells ≡ length seating.cells.items = ap (λ (f : List Bool). length f) well.vacant_are ∙ length-map seating.cells.items is_vacant in omega arith in
        ap (λ bs. is_some (find nat_cmp lower bs)) (sym blocks_in) ∙ ap is_some (find-blocks seating.cells.items lower)
        ∙ taken_is (get_or seating.cells.items lower Vacant) (no_vacant seating.cells.items lower within (vacant_none none));
  }
    where
      gone : (o : Option BlockView) → find nat_cmp (length seating.vacant_cells) v.blocks ≡ o → o ≡ None
      gone None e = refl
      gone (Some view) e =
          let within = there_low (length seating.vacant_cells) (ap is_some e) in
          absurd (let all : length seating.vacant_cells ≡ length seating.cells.items = ap (λ (f : List Bool). length f) well.vacant_are ∙ length-map seating.cells.items is_vacant in omega arith)

  pub new_nowhere : (block : ℕ) → IsNewNumber v block → place_of v.purse block ≡ None
  new_nowhere block number = by (place_of v.purse block) refl
    where
      by : (o : Option (ℕ × ℕ)) → place_of v.purse block ≡ o → o ≡ None
      by None e = refl
      by (Some place) e = let there = seated_is_there block (ap is_some e) in let fresh = number.fresh in cc

  pub some_vacant : 1 ≤ spare_of v → position (λ (b : Bool). b) seating.vacant_cells ≡ None → ⊥
  some_vacant some none = let nothing = vacant_none none in omega (arith, spare_is)

  -- the first empty seat

  pub some_empty : granted_of v < v.slices → position (λ (b : Bool). b) seating.empty_seats ≡ None → ⊥
  some_empty few none =
      let all : length (purse_of seating.seats.items) + strays_of seating.seats.items + count_by (λ (b : Bool). b) (map is_empty seating.seats.items) ≡ length seating.seats.items = length-purse seating.seats.items in
      let granted : length v.purse + v.strays ≡ length (purse_of seating.seats.items) + strays_of seating.seats.items = ap granted_of (sym is) in
      position_there (λ (b : Bool). b) (map is_empty seating.seats.items) (omega (arith, well.tables.seats_for_all, ap (λ (w : SeatingView). w.slices) is)) (ap (λ (f : List Bool). position (λ (b : Bool). b) f) (sym well.empty_are) ∙ none)

  pub empty_seat : (id : ℕ) → position (λ (b : Bool). b) seating.empty_seats ≡ Some id → get_or seating.seats.items id Empty ≡ Empty
  empty_seat id e =
      let first : position (λ (b : Bool). b) (map is_empty seating.seats.items) ≡ Some id = ap (λ (f : List Bool). position (λ (b : Bool). b) f) (sym well.empty_are) ∙ e in
      empty_is (get_or seating.seats.items id Empty) (sym (get_or-map is_empty seating.seats.items id Empty) ∙ (position-Some (λ (b : Bool). b) (map is_empty seating.seats.items) id true first).1)

  pub empty_low : (id : ℕ) → position (λ (b : Bool). b) seating.empty_seats ≡ Some id → id < seating.slices
  empty_low id e =
      let first : position (λ (b : Bool). b) (map is_empty seating.seats.items) ≡ Some id = ap (λ (f : List Bool). position (λ (b : Bool). b) f) (sym well.empty_are) ∙ e in
      let low : id < length (map is_empty seating.seats.items) = (position-Some (λ (b : Bool). b) (map is_empty seating.seats.items) id true first).0 in
      omega (arith, well.tables.seats_for_all, length-map seating.seats.items is_empty)

  -- the first seat with a slice without a block

  first_kept : (id : ℕ) → position (λ (b : Bool). b) seating.idle_seats ≡ Some id → position (λ (b : Bool). b) (map keeps_slice seating.seats.items) ≡ Some id
  first_kept id e = ap (λ (f : List Bool). position (λ (b : Bool). b) f) (sym well.idle_are) ∙ e

  pub kept_seat : (id : ℕ) → position (λ (b : Bool). b) seating.idle_seats ≡ Some id → keeps_slice (get_or seating.seats.items id Empty) ≡ true
  kept_seat id e = sym (get_or-map keeps_slice seating.seats.items id Empty) ∙ (position-Some (λ (b : Bool). b) (map keeps_slice seating.seats.items) id false (first_kept id e)).1

  pub kept_before : (id : ℕ) → position (λ (b : Bool). b) seating.idle_seats ≡ Some id → (j : ℕ) → j < id → keeps_slice (get_or seating.seats.items j Empty) ≡ false
  kept_before id e j low = sym (get_or-map keeps_slice seating.seats.items j Empty) ∙ (position-Some (λ (b : Bool). b) (map keeps_slice seating.seats.items) id false (first_kept id e)).2 j low

  pub kept_low : (id : ℕ) → position (λ (b : Bool). b) seating.idle_seats ≡ Some id → id < length seating.seats.items
  kept_low id e = within_by keeps_slice seating.seats.items id Empty refl (kept_seat id e)

  pub none_kept : position (λ (b : Bool). b) seating.idle_seats ≡ None → (next_idle v.purse ≡ None) × (v.strays ≡ 0)
  none_kept e =
      let count : count_by keeps_slice seating.seats.items ≡ 0
      = sym (count_by-map (λ (b : Bool). b) keeps_slice seating.seats.items)
      ∙ position_none (λ (b : Bool). b) (map keeps_slice seating.seats.items) (ap (λ (f : List Bool). position (λ (b : Bool). b) f) (sym well.idle_are) ∙ e) in
      let none = no_idle seating.seats.items count in
      (ap (λ (p : Purse). next_idle p) (sym purse_in) ∙ none.0, ap (λ (w : SeatingView). w.strays) (sym is) ∙ none.1)

  -- where each slice has a block, no seat has one without
  pub idle_everywhere : next_idle v.purse ≡ None → (j : ℕ) → passes is_idle (held_in (get_or seating.seats.items j Empty)) ≡ false
  idle_everywhere e j =
      let none : lowest (idle_slices (purse_of seating.seats.items)) ≡ None
      = unmapped (λ (e : ℕ × Held). (e.0, e.1.number)) (lowest (idle_slices (purse_of seating.seats.items))) (ap (λ (p : Purse). next_idle p) purse_in ∙ e) in
      ap (passes is_idle) (sym (get_or-map held_in seating.seats.items j Empty)) ∙ none_passing is_idle (map held_in seating.seats.items) none j

  -- the first seat with a block

  first_busy : (id : ℕ) → position (λ (b : Bool). b) seating.busy_seats ≡ Some id → position (λ (b : Bool). b) (map is_busy seating.seats.items) ≡ Some id
  first_busy id e = ap (λ (f : List Bool). position (λ (b : Bool). b) f) (sym well.busy_are) ∙ e

  pub busy_here : (id : ℕ) → position (λ (b : Bool). b) seating.busy_seats ≡ Some id → is_busy (get_or seating.seats.items id Empty) ≡ true
  busy_here id e = sym (get_or-map is_busy seating.seats.items id Empty) ∙ (position-Some (λ (b : Bool). b) (map is_busy seating.seats.items) id false (first_busy id e)).1

  pub lowest_block : (id block number : ℕ) → position (λ (b : Bool). b) seating.busy_seats ≡ Some id → block_of (get_or seating.seats.items id Empty) ≡ Some (block, number)
      → first_block v.purse ≡ Some block
  lowest_block id block number e here =
      ap (λ (p : Purse). first_block p) (sym purse_in)
      ∙ first_block_is seating.seats.items id block number
      (λ j low. sym (get_or-map is_busy seating.seats.items j Empty) ∙ (position-Some (λ (b : Bool). b) (map is_busy seating.seats.items) id false (first_busy id e)).2 j low)
      (busy_is (get_or seating.seats.items id Empty) block number here)

  pub seated_block : (id block number : ℕ) → block_of (get_or seating.seats.items id Empty) ≡ Some (block, number) → is_some (place_of v.purse block) ≡ true
  seated_block id block number here =
      let back : get_or (map slice_of seating.cells.items) block None ≡ Some (id, number) = well.tables.blocks_lie.back id block number (seat_names seating.seats.items id ∙ here) in
      ap (λ (o : Option (ℕ × ℕ)). is_some o) (cell_place block ∙ sym (cell_names seating.cells.items block) ∙ back)

  pub none_busy : position (λ (b : Bool). b) seating.busy_seats ≡ None → first_block v.purse ≡ None
  none_busy e =
      let count : count_by is_busy seating.seats.items ≡ 0
      = sym (count_by-map (λ (b : Bool). b) is_busy seating.seats.items)
      ∙ position_none (λ (b : Bool). b) (map is_busy seating.seats.items) (ap (λ (f : List Bool). position (λ (b : Bool). b) f) (sym well.busy_are) ∙ e) in
      ap (λ (p : Purse). first_block p) (sym purse_in) ∙ no_block seating.seats.items count

  -- the slice of a block

  pub cut_seat : (block : ℕ) → is_some (place_of v.purse block) ≡ true
      → get_or seating.seats.items (used_in (get_or seating.cells.items block Vacant)).id Empty ≡ Busy block (used_in (get_or seating.cells.items block Vacant)).number
  cut_seat block e =
      let used : UsedView = used_in (get_or seating.cells.items block Vacant) in
      busy_is (get_or seating.seats.items used.id Empty) block used.number (lends seating.size seating.slices seating.seats.items seating.cells.items well.tables block used _ (cell_at block e))

  pub cut_low : (block : ℕ) → is_some (place_of v.purse block) ≡ true → (used_in (get_or seating.cells.items block Vacant)).id < length seating.seats.items
  cut_low block e = lends_within seating.size seating.slices seating.seats.items seating.cells.items well.tables block (used_in (get_or seating.cells.items block Vacant)) _ (cell_at block e)

  pub cut_place : (block : ℕ) → is_some (place_of v.purse block) ≡ true
      → place_of v.purse block ≡ Some ((used_in (get_or seating.cells.items block Vacant)).id, (used_in (get_or seating.cells.items block Vacant)).number)
  cut_place block e = cell_place block ∙ ap slice_of (cell_at block e)

  -- the sets have a place for each seat and for each cell

  pub open_length : length seating.open_seats ≡ seating.slices
  open_length = ap (λ (f : List Bool). length f) well.open_are ∙ length-map seating.seats.items is_open ∙ well.tables.seats_for_all

  pub idle_length : length seating.idle_seats ≡ seating.slices
  idle_length = ap (λ (f : List Bool). length f) well.idle_are ∙ length-map seating.seats.items keeps_slice ∙ well.tables.seats_for_all

  pub busy_length : length seating.busy_seats ≡ seating.slices
  busy_length = ap (λ (f : List Bool). length f) well.busy_are ∙ length-map seating.seats.items is_busy ∙ well.tables.seats_for_all

  pub empty_length : length seating.empty_seats ≡ seating.slices
  empty_length = ap (λ (f : List Bool). length f) well.empty_are ∙ length-map seating.seats.items is_empty ∙ well.tables.seats_for_all

  pub vacant_length : length seating.vacant_cells ≡ length seating.cells.items
  vacant_length = ap (λ (f : List Bool). length f) well.vacant_are ∙ length-map seating.cells.items is_vacant

  pub open_flag : (id : ℕ) → get_or seating.open_seats id false ≡ is_open (get_or seating.seats.items id Empty)
  open_flag id = ap (λ (f : List Bool). get_or f id false) well.open_are ∙ get_or-map is_open seating.seats.items id Empty

  -- an id that is free for a slice

  pub empty_flag : (id : ℕ) → get_or seating.empty_seats id false ≡ true → (id < length seating.seats.items) × (get_or seating.seats.items id Empty ≡ Empty)
  empty_flag id e =
      let flag : get_or (map is_empty seating.seats.items) id false ≡ true = ap (λ (f : List Bool). get_or f id false) (sym well.empty_are) ∙ e in
      let low : id < length (map is_empty seating.seats.items) = within_by (λ (b : Bool). b) (map is_empty seating.seats.items) id false refl flag in
      let in_seats : id < length seating.seats.items = omega (arith, length-map seating.seats.items is_empty) in
      (in_seats, empty_is (get_or seating.seats.items id Empty) (sym (get_or-map_within is_empty seating.seats.items id Empty false in_seats) ∙ flag))

  pub can_hold_empty : (id : ℕ) → id < length seating.seats.items → get_or seating.seats.items id Empty ≡ Empty → can_hold v id ≡ true
  can_hold_empty id low empty =
      let limit : id < v.slices = omega (arith, well.tables.seats_for_all, ap (λ (w : SeatingView). w.slices) is) in
      let below : nat_lt id v.slices ≡ true = grind (arith, nat_tests) in
      let none : is_some (find nat_cmp id v.purse) ≡ false = ap (λ (p : Purse). is_some (find nat_cmp id p)) (sym purse_in) ∙ ap is_some (find-purse seating.seats.items id) ∙ ap (λ s. is_some (held_in s)) empty in
      ap (λ (b : Bool). b && not (is_some (find nat_cmp id v.purse))) below ∙ ap not none

  pub cannot_hold : (id : ℕ) → get_or seating.empty_seats id false ≡ false → v.strays ≡ 0 → can_hold v id ≡ true → ⊥
  cannot_hold id flag strays can =
      let tests = both_hold (nat_lt id v.slices) (not (is_some (find nat_cmp id v.purse))) can in
      let below : nat_lt id v.slices ≡ true = tests.0 in
      let limit : id < v.slices = grind (arith, nat_tests) in
      let low : id < length seating.seats.items = omega (arith, well.tables.seats_for_all, ap (λ (w : SeatingView). w.slices) is) in
      let none : is_some (held_in (get_or seating.seats.items id Empty)) ≡ false
      = ap is_some (sym (find-purse seating.seats.items id)) ∙ ap (λ (p : Purse). is_some (find nat_cmp id p)) purse_in ∙ not_true (is_some (find nat_cmp id v.purse)) tests.1 in
      let empty : get_or seating.seats.items id Empty ≡ Empty = no_stray seating.seats.items id low (ap (λ (w : SeatingView). w.strays) is ∙ strays) none in
      let flagged : get_or seating.empty_seats id false ≡ true
      = ap (λ (f : List Bool). get_or f id false) well.empty_are ∙ get_or-map_within is_empty seating.seats.items id Empty false low ∙ ap is_empty empty in
      both_ways (get_or seating.empty_seats id false) flag flagged
