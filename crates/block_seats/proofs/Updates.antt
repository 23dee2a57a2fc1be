-- What holds of a seating's tables after a write of each.
use Rattle.std.proofs.Common.{◌≡◌, ℕ, ◌+◌, ◌<◌, ◌≤◌, Bool, true, false, not, is_some, cond, List, length, map, count_by, get_or, set, refl, ap, sym, subst, ◌∙◌, arith, Some, None}
use Rattle.std.specs.declared.option.Option.{Option}
use Rattle.std.specs.Option.{IfSome}
use Rattle.std.proofs.lemmas.List.{map-set, length-map, length-set, get_or-set_same, get_or-set_other}
use Rattle.std.proofs.Math.Seq.{map-set_same}
use Rattle.slice_seq.specs.Slice.{SliceView}
use Rattle.slice_seq.specs.Used.{UsedView}
use Rattle.block_seats.specs.declared.seat.Seat.{Seat}
use Rattle.block_seats.specs.declared.seat.Seat.TheVariants.{Empty, Idle, Busy, Stray}
use Rattle.block_seats.specs.declared.cell.Cell.{Cell}
use Rattle.block_seats.specs.declared.cell.Cell.TheVariants.{Vacant, Resident, Parked}
use Rattle.far_words.specs.declared.stamp.Stamp.{Stamp}
use Rattle.block_seats.specs.Blocks.{BlockView}
use Rattle.block_seats.specs.Seatings.{leaving}
use Rattle.block_seats.specs.Seats.{held_in, block_of, slice_of, view_in, left_cell, is_open, is_busy, is_stray, is_vacant, blocks_of, purse_of, strays_of, slice_in}
use Rattle.block_seats.specs.Well.{Mirrors, AreSeated, CellFits, AreSized, AreTables}
use Rattle.std.specs.FinMap.{put}
use Rattle.std.specs.Ordering.{nat_cmp}
use Rattle.block_seats.specs.Tables.{entries_of, without}
use Rattle.slice_seq.specs.Purses.{Held, open_slices}
use Rattle.id_set.proofs.Tables.{length-entries, count_by-map, count_by-set, entries-set_some, entries-set_none}
use Rattle.block_seats.proofs.Seats.{length-open_purse, same_or_not, within_by, seat_names, cell_names, first_of_pair, second_of_pair}

abbrev pub one_if : Bool → ℕ
one_if b = cond b 1 0

-- the map of blocks, and the purse

pub blocks-set : (cells : List Cell) (block : ℕ) (cell : Cell) (view : BlockView) → block < length cells → view_in cell ≡ Some view
    → blocks_of (set cells block cell) ≡ put nat_cmp block view (blocks_of cells)
blocks-set cells block cell view low is =
    ap (λ xs. entries_of xs) (map-set view_in cells block cell ∙ ap (λ o. set (map view_in cells) block o) is)
    ∙ entries-set_some (map view_in cells) block view (omega (arith, length-map cells view_in))

pub blocks-clear : (cells : List Cell) (block : ℕ) → blocks_of (set cells block Vacant) ≡ without block (blocks_of cells)
blocks-clear cells block = ap (λ xs. entries_of xs) (map-set view_in cells block Vacant) ∙ entries-set_none (map view_in cells) block

pub blocks-leave : (cells : List Cell) (block : ℕ) (stamp : Option Stamp) → block < length cells → blocks_of (set cells block (left_cell stamp)) ≡ leaving stamp block (blocks_of cells)
blocks-leave cells block None low = blocks-clear cells block
blocks-leave cells block (Some stamp) low = blocks-set cells block (Parked stamp) _ low refl

-- a block that leaves its slice

pub left_away : (stamp : Option Stamp) → slice_of (left_cell stamp) ≡ None
left_away None = refl
left_away (Some stamp) = refl

pub left_fits : (size : ℕ) (stamp : Option Stamp) → IfSome stamp (λ s. (1 ≤ s.length) × (s.length ≤ size)) → CellFits size (left_cell stamp)
left_fits size None fits = tt
left_fits size (Some stamp) fits = fits

pub left_vacant : (stamp : Option Stamp) → is_vacant (left_cell stamp) ≡ not (is_some stamp)
left_vacant None = refl
left_vacant (Some stamp) = refl

-- a count after it, which the block's number adds to where there is no stamp
pub by_stamp : (stamp : Option Stamp) (now was : ℕ) → (is_some (view_in (left_cell stamp)) ≡ true → now ≡ was) → (is_some (view_in (left_cell stamp)) ≡ false → now ≡ was + 1)
    → now ≡ was + cond (is_some stamp) 0 1
by_stamp None now was kept freed = freed refl
by_stamp (Some stamp) now was kept freed = kept refl ∙ (let same : was ≡ was + 0 = omega arith in same)

-- how many blocks there are after a write of a cell
pub length-blocks_set : (cells : List Cell) (block : ℕ) (cell : Cell) → block < length cells
    → length (blocks_of (set cells block cell)) + one_if (is_some (view_in (get_or cells block Vacant))) ≡ length (blocks_of cells) + one_if (is_some (view_in cell))
length-blocks_set cells block cell low =
    let after : length (blocks_of (set cells block cell)) ≡ count_by (λ c. is_some (view_in c)) (set cells block cell) = length-entries 0 (map view_in (set cells block cell)) ∙ count_by-map (λ (o : Option BlockView). is_some o) view_in (set cells block cell) in
    let before : length (blocks_of cells) ≡ count_by (λ c. is_some (view_in c)) cells = length-entries 0 (map view_in cells) ∙ count_by-map (λ (o : Option BlockView). is_some o) view_in cells in
    let sum : count_by (λ c. is_some (view_in c)) (set cells block cell) + one_if (is_some (view_in (get_or cells block Vacant))) ≡ count_by (λ c. is_some (view_in c)) cells + one_if (is_some (view_in cell))
    = count_by-set (λ c. is_some (view_in c)) cells block cell Vacant low in
    omega arith

pub purse-set : (seats : List Seat) (id : ℕ) (seat : Seat) (held : Held) → id < length seats → held_in seat ≡ Some held → purse_of (set seats id seat) ≡ put nat_cmp id held (purse_of seats)
purse-set seats id seat held low is =
    ap (λ xs. entries_of xs) (map-set held_in seats id seat ∙ ap (λ o. set (map held_in seats) id o) is) ∙ entries-set_some (map held_in seats) id held (omega (arith, length-map seats held_in))

pub purse_same : (seats : List Seat) (id : ℕ) (seat : Seat) → held_in seat ≡ held_in (get_or seats id Empty) → purse_of (set seats id seat) ≡ purse_of seats
purse_same seats id seat same = ap (λ xs. entries_of xs) (map-set_same held_in seats id seat Empty same)

pub strays_same : (seats : List Seat) (id : ℕ) (seat : Seat) → id < length seats → is_stray seat ≡ is_stray (get_or seats id Empty) → strays_of (set seats id seat) ≡ strays_of seats
strays_same seats id seat low same =
    let sum : strays_of (set seats id seat) + one_if (is_stray (get_or seats id Empty)) ≡ strays_of seats + one_if (is_stray seat) = count_by-set is_stray seats id seat Empty low in
    let one : one_if (is_stray seat) ≡ one_if (is_stray (get_or seats id Empty)) = ap one_if same in
    omega arith

pub strays_more : (seats : List Seat) (id : ℕ) (slice : SliceView) → id < length seats → is_stray (get_or seats id Empty) ≡ false → strays_of (set seats id (Stray slice)) ≡ strays_of seats + 1
strays_more seats id slice low none =
    let sum : strays_of (set seats id (Stray slice)) + one_if (is_stray (get_or seats id Empty)) ≡ strays_of seats + 1 = count_by-set is_stray seats id (Stray slice) Empty low in
    let one : one_if (is_stray (get_or seats id Empty)) ≡ 0 = ap one_if none in
    omega arith

length-purse_set : (seats : List Seat) (id : ℕ) (seat : Seat) → id < length seats
    → length (purse_of (set seats id seat)) + one_if (is_some (held_in (get_or seats id Empty))) ≡ length (purse_of seats) + one_if (is_some (held_in seat))
length-purse_set seats id seat low =
    let after : length (purse_of (set seats id seat)) ≡ count_by (λ s. is_some (held_in s)) (set seats id seat) = length-entries 0 (map held_in (set seats id seat)) ∙ count_by-map (λ (o : Option Held). is_some o) held_in (set seats id seat) in
    let before : length (purse_of seats) ≡ count_by (λ s. is_some (held_in s)) seats = length-entries 0 (map held_in seats) ∙ count_by-map (λ (o : Option Held). is_some o) held_in seats in
    let sum : count_by (λ s. is_some (held_in s)) (set seats id seat) + one_if (is_some (held_in (get_or seats id Empty))) ≡ count_by (λ s. is_some (held_in s)) seats + one_if (is_some (held_in seat))
    = count_by-set (λ s. is_some (held_in s)) seats id seat Empty low in
    omega arith

pub length-purse_more : (seats : List Seat) (id : ℕ) (seat : Seat) → id < length seats → is_some (held_in seat) ≡ true → is_some (held_in (get_or seats id Empty)) ≡ false → length (purse_of (set seats id seat)) ≡ length (purse_of seats) + 1
length-purse_more seats id seat low now was =
    let one : one_if (is_some (held_in seat)) ≡ 1 = ap one_if now in
    let none : one_if (is_some (held_in (get_or seats id Empty))) ≡ 0 = ap one_if was in
    omega (arith, length-purse_set seats id seat low)

-- how many are held after a seat was emptied
pub length-purse_less : (seats : List Seat) (id : ℕ) → id < length seats → length (purse_of (set seats id Empty)) + one_if (is_some (held_in (get_or seats id Empty))) ≡ length (purse_of seats)
length-purse_less seats id low = omega (arith, length-purse_set seats id Empty low)

pub strays_less : (seats : List Seat) (id : ℕ) → id < length seats → strays_of (set seats id Empty) + one_if (is_stray (get_or seats id Empty)) ≡ strays_of seats
strays_less seats id low = omega (arith, count_by-set is_stray seats id Empty Empty low)

pub purse-clear : (seats : List Seat) (id : ℕ) → purse_of (set seats id Empty) ≡ without id (purse_of seats)
purse-clear seats id = ap (λ xs. entries_of xs) (map-set held_in seats id Empty) ∙ entries-set_none (map held_in seats) id

-- how many slices can take a block
pub length-open_set : (seats : List Seat) (id : ℕ) (seat : Seat) → id < length seats
    → length (open_slices (purse_of (set seats id seat))) + one_if (is_open (get_or seats id Empty)) ≡ length (open_slices (purse_of seats)) + one_if (is_open seat)
length-open_set seats id seat low =
    let after : length (open_slices (purse_of (set seats id seat))) ≡ count_by is_open (set seats id seat) = length-open_purse (set seats id seat) ∙ count_by-map (λ (b : Bool). b) is_open (set seats id seat) in
    let before : length (open_slices (purse_of seats)) ≡ count_by is_open seats = length-open_purse seats ∙ count_by-map (λ (b : Bool). b) is_open seats in
    let sum : count_by is_open (set seats id seat) + one_if (is_open (get_or seats id Empty)) ≡ count_by is_open seats + one_if (is_open seat) = count_by-set is_open seats id seat Empty low in
    omega arith

-- two tables that name each other, with one more pair of places, or one pair less

mirrors-put : (xs ys : List (Option (ℕ × ℕ))) (i j n : ℕ) → i < length xs → j < length ys → get_or ys j None ≡ None → Mirrors xs ys → Mirrors (set xs i (Some (j, n))) (set ys j (Some (i, n)))
mirrors-put xs ys i j n low_i low_j free m = record {
  back = λ k l number e.
      same_or_not k i (get_or (set ys j (Some (i, n))) l None ≡ Some (k, number))
      (λ same.
      let put_in : ◌≡◌ {A = Option (ℕ × ℕ)} (Some (j, n)) (Some (l, number)) = sym (ap (λ at. get_or (set xs i (Some (j, n))) at None) same ∙ get_or-set_same xs i (Some (j, n)) None low_i) ∙ e in
      let place : j ≡ l = first_of_pair j n l number put_in in
      let numbers : n ≡ number = second_of_pair j n l number put_in in
      ap (λ at. get_or (set ys j (Some (i, n))) at None) (sym place) ∙ get_or-set_same ys j (Some (i, n)) None low_j ∙ (λ t. Some (sym same t, numbers t)))
      (λ other.
      let back : get_or ys l None ≡ Some (k, number) = m.back k l number (sym (get_or-set_other xs i k (Some (j, n)) None other) ∙ e) in
      get_or-set_other ys j l (Some (i, n)) None (λ same. let clash : ◌≡◌ {A = Option (ℕ × ℕ)} None (Some (k, number)) = sym free ∙ ap (λ at. get_or ys at None) (sym same) ∙ back in cc) ∙ back);
}

mirrors-clear : (xs ys : List (Option (ℕ × ℕ))) (i j n : ℕ) → i < length xs → get_or xs i None ≡ Some (j, n) → Mirrors xs ys → Mirrors (set xs i None) (set ys j None)
mirrors-clear xs ys i j n low_i here m = record {
  back = λ k l number e.
      same_or_not k i (get_or (set ys j None) l None ≡ Some (k, number))
      (λ same. let clash : ◌≡◌ {A = Option (ℕ × ℕ)} None (Some (l, number)) = sym (ap (λ at. get_or (set xs i None) at None) same ∙ get_or-set_same xs i None None low_i) ∙ e in cc)
      (λ other.
      let back : get_or ys l None ≡ Some (k, number) = m.back k l number (sym (get_or-set_other xs i k None None other) ∙ e) in
      let mine : get_or ys j None ≡ Some (i, n) = m.back i j n here in
      get_or-set_other ys j l None None (λ same. other (first_of_pair k number i n (sym back ∙ ap (λ at. get_or ys at None) same ∙ mine))) ∙ back);
}

mirrors_by : (xs xs' ys ys' : List (Option (ℕ × ℕ))) → xs ≡ xs' → ys ≡ ys' → Mirrors xs' ys' → Mirrors xs ys
mirrors_by xs xs' ys ys' e f m = subst (λ zs. Mirrors xs zs) (sym f) (subst (λ zs. Mirrors zs ys') (sym e) m)

-- what an idle seat and a block's slice are, after a write

seated-set : (size : ℕ) (seats : List Seat) (id : ℕ) (seat : Seat) → id < length seats → ((slice : SliceView) → seat ≡ Idle slice → (slice.id ≡ id) × (slice.size ≡ size)) → AreSeated size seats → AreSeated size (set seats id seat)
seated-set size seats id seat low fits s = record {
  seated = λ k slice e.
      same_or_not k id ((slice.id ≡ k) × (slice.size ≡ size))
      (λ same.
      let is = fits slice (sym (ap (λ at. get_or (set seats id seat) at Empty) same ∙ get_or-set_same seats id seat Empty low) ∙ e) in
      (is.0 ∙ sym same, is.1))
      (λ other. s.seated k slice (sym (get_or-set_other seats id k seat Empty other) ∙ e));
}

sized-set : (size : ℕ) (cells : List Cell) (block : ℕ) (cell : Cell) → block < length cells → CellFits size cell → AreSized size cells → AreSized size (set cells block cell)
sized-set size cells block cell low fits s = record {
  each = λ k.
      same_or_not k block (CellFits size (get_or (set cells block cell) k Vacant))
      (λ same. subst (λ c. CellFits size c) (sym (ap (λ at. get_or (set cells block cell) at Vacant) same ∙ get_or-set_same cells block cell Vacant low)) fits)
      (λ other. subst (λ c. CellFits size c) (sym (get_or-set_other cells block k cell Vacant other)) (s.each k));
}

named_busy : (seat : Seat) (block number : ℕ) → block_of seat ≡ Some (block, number) → is_busy seat ≡ true
named_busy Empty block number e = cc
named_busy (Idle slice) block number e = cc
named_busy (Busy b n) block number e = refl
named_busy (Stray slice) block number e = cc

pub open_names : (seat : Seat) → is_open seat ≡ true → block_of seat ≡ None
open_names Empty e = refl
open_names (Idle slice) e = refl
open_names (Busy block number) e = cc
open_names (Stray slice) e = refl

module _ (size slices : ℕ) (seats : List Seat) (cells : List Cell) (t : AreTables size slices seats cells) where
  -- a block comes into an open slice
  pub placed_tables : (id block : ℕ) (used : UsedView) (was : Bool) → id < slices → block < length cells → is_open (get_or seats id Empty) ≡ true → slice_of (get_or cells block Vacant) ≡ None → used.id ≡ id
      → CellFits size (Resident used was) → AreTables size slices (set seats id (Busy block used.number)) (set cells block (Resident used was))
  placed_tables id block used was low_id in_cells free away same_id fits =
      let seat : Seat = Busy block used.number in
      let cell : Cell = Resident used was in
      let in_seats : id < length seats = omega (arith, t.seats_for_all) in
      let xs : List (Option (ℕ × ℕ)) = map block_of seats in
      let ys : List (Option (ℕ × ℕ)) = map slice_of cells in
      let in_xs : id < length xs = omega (arith, length-map seats block_of) in
      let in_ys : block < length ys = omega (arith, length-map cells slice_of) in
      let xs_are : map block_of (set seats id seat) ≡ set xs id (Some (block, used.number)) = map-set block_of seats id seat in
      let ys_are : map slice_of (set cells block cell) ≡ set ys block (Some (id, used.number)) = map-set slice_of cells block cell ∙ ap (λ (k : ℕ). set ys block (Some (k, used.number))) same_id in
      let no_block : get_or xs id None ≡ None = seat_names seats id ∙ open_names (get_or seats id Empty) free in
      let no_slice : get_or ys block None ≡ None = cell_names cells block ∙ away in
      record {
        seats_for_all = length-set seats id seat ∙ t.seats_for_all;
        seated = seated-set size seats id seat in_seats (λ slice e. cc) t.seated;
        sized = sized-set size cells block cell in_cells fits t.sized;
        blocks_lie = mirrors_by _ _ _ _ xs_are ys_are (mirrors-put xs ys id block used.number in_xs in_ys no_slice t.blocks_lie);
        slices_lend = mirrors_by _ _ _ _ ys_are xs_are (mirrors-put ys xs block id used.number in_ys in_xs no_block t.slices_lend);
      }

  -- a block's slice holds it
  pub lends : (block : ℕ) (used : UsedView) (was : Bool) → get_or cells block Vacant ≡ Resident used was → block_of (get_or seats used.id Empty) ≡ Some (block, used.number)
  lends block used was here = sym (seat_names seats used.id) ∙ t.slices_lend.back block used.id used.number (cell_names cells block ∙ ap slice_of here)

  pub lends_within : (block : ℕ) (used : UsedView) (was : Bool) → get_or cells block Vacant ≡ Resident used was → used.id < length seats
  lends_within block used was here = within_by is_busy seats used.id Empty refl (named_busy (get_or seats used.id Empty) block used.number (lends block used was here))

  -- a block leaves its slice, which stays
  pub left_tables : (block : ℕ) (used : UsedView) (was : Bool) (slice : SliceView) (cell : Cell) → get_or cells block Vacant ≡ Resident used was → slice.id ≡ used.id → slice.size ≡ used.size
      → slice_of cell ≡ None → CellFits size cell → AreTables size slices (set seats used.id (Idle slice)) (set cells block cell)
  left_tables block used was slice cell here same_id same_size away fits =
      let id : ℕ = used.id in
      let seat : Seat = Idle slice in
      let lent : block_of (get_or seats id Empty) ≡ Some (block, used.number) = lends block used was here in
      let in_seats : id < length seats = lends_within block used was here in
      let in_cells : block < length cells = within_by (λ x. is_some (slice_of x)) cells block Vacant refl (ap (λ x. is_some (slice_of x)) here) in
      let xs : List (Option (ℕ × ℕ)) = map block_of seats in
      let ys : List (Option (ℕ × ℕ)) = map slice_of cells in
      let in_xs : id < length xs = omega (arith, length-map seats block_of) in
      let in_ys : block < length ys = omega (arith, length-map cells slice_of) in
      let xs_are : map block_of (set seats id seat) ≡ set xs id None = map-set block_of seats id seat in
      let ys_are : map slice_of (set cells block cell) ≡ set ys block None = map-set slice_of cells block cell ∙ ap (λ o. set ys block o) away in
      let x_here : get_or xs id None ≡ Some (block, used.number) = seat_names seats id ∙ lent in
      let y_here : get_or ys block None ≡ Some (id, used.number) = cell_names cells block ∙ ap slice_of here in
      let was_fit : CellFits size (Resident used was) = subst (λ c. CellFits size c) here (t.sized.each block) in
      record {
        seats_for_all = length-set seats id seat ∙ t.seats_for_all;
        seated = seated-set size seats id seat in_seats (λ s e. (ap (λ x. (slice_in x).id) (sym e) ∙ same_id, ap (λ x. (slice_in x).size) (sym e) ∙ same_size ∙ was_fit.0)) t.seated;
        sized = sized-set size cells block cell in_cells fits t.sized;
        blocks_lie = mirrors_by _ _ _ _ xs_are ys_are (mirrors-clear xs ys id block used.number in_xs x_here t.blocks_lie);
        slices_lend = mirrors_by _ _ _ _ ys_are xs_are (mirrors-clear ys xs block id used.number in_ys y_here t.slices_lend);
      }

  -- a block's cell is written, and it stays in its slice, or without one
  pub kept_tables : (block : ℕ) (cell : Cell) → block < length cells → slice_of cell ≡ slice_of (get_or cells block Vacant) → CellFits size cell → AreTables size slices seats (set cells block cell)
  kept_tables block cell in_cells place fits =
      let ys_are : map slice_of (set cells block cell) ≡ map slice_of cells = map-set_same slice_of cells block cell Vacant place in
      record {
        seats_for_all = t.seats_for_all;
        seated = t.seated;
        sized = sized-set size cells block cell in_cells fits t.sized;
        blocks_lie = mirrors_by _ _ _ _ refl ys_are t.blocks_lie;
        slices_lend = mirrors_by _ _ _ _ ys_are refl t.slices_lend;
      }

  -- a seat without a block is written, and has none
  pub seat_tables : (id : ℕ) (seat : Seat) → id < slices → block_of (get_or seats id Empty) ≡ None → block_of seat ≡ None → ((slice : SliceView) → seat ≡ Idle slice → (slice.id ≡ id) × (slice.size ≡ size))
      → AreTables size slices (set seats id seat) cells
  seat_tables id seat low was no_block fits =
      let in_seats : id < length seats = omega (arith, t.seats_for_all) in
      let xs_are : map block_of (set seats id seat) ≡ map block_of seats = map-set_same block_of seats id seat Empty (no_block ∙ sym was) in
      record {
        seats_for_all = length-set seats id seat ∙ t.seats_for_all;
        seated = seated-set size seats id seat in_seats fits t.seated;
        sized = t.sized;
        blocks_lie = mirrors_by _ _ _ _ xs_are refl t.blocks_lie;
        slices_lend = mirrors_by _ _ _ _ refl xs_are t.slices_lend;
      }
