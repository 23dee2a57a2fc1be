-- What is seen from outside after one cell was written.
use Rattle.std.proofs.Common.{◌≡◌, ℕ, ◌+◌, ◌-◌, ◌^◌, ◌<◌, ◌≤◌, Bool, true, false, cond, List, ◌++◌, length, take, drop, map, count_by, get_or, set, is_some, refl, sym, ap, subst, ◌∙◌, arith, Some}
use Rattle.std.specs.declared.option.Option.{Option}
use Rattle.std.specs.FinMap.{find, put}
use Rattle.std.specs.Ordering.{nat_cmp}
use Rattle.std.proofs.Math.Seq.{map-set_same}
use Rattle.std.proofs.lemmas.List.{length-set, length-append, length-take, length-drop}
use Rattle.slice_seq.specs.Used.{UsedView, written_at}
use Rattle.block_seats.specs.declared.seating.Seating.TheInside.{Inside}
use Rattle.block_seats.specs.declared.cell.Cell.{Cell}
use Rattle.block_seats.specs.declared.cell.Cell.TheVariants.{Vacant, Resident}
use Rattle.block_seats.specs.Blocks.{BlockView, InSlice}
use Rattle.block_seats.specs.Purses.{place_of}
use Rattle.block_seats.specs.Seats.{slice_of, view_in, used_in, is_vacant, blocks_of}
use Rattle.block_seats.specs.Seatings.{SeatingView, spare_of}
use Rattle.block_seats.specs.Well.{view_of, AreTables, IsWell}
use Rattle.block_seats.proofs.Seats.{length-blocks}
use Rattle.block_seats.proofs.Updates.{one_if, length-blocks_set, blocks-set, kept_tables}
use Rattle.block_seats.proofs.Views.{size_in, blocks_in, cell_at, cell_low, cell_view, cell_fits}

length-written : (old piece : List ℕ) (at : ℕ) → length (written_at old at piece) ≡ length (take at old) + length piece + length (drop (at + length piece) old)
length-written old piece at =
    length-append (take at old ++ piece) (drop (at + length piece) old) ∙ ap (λ n. n + length (drop (at + length piece) old)) (length-append (take at old) piece)

pub some_written : (old piece : List ℕ) (at : ℕ) → 1 ≤ length old → at ≤ length old → 1 ≤ length (written_at old at piece)
some_written old piece at some within = rw (length-written old piece at) (omega (arith, length-take at old, length-drop (at + length piece) old))

pub written_fits : (old piece : List ℕ) (at size : ℕ) → at ≤ length old → length old ≤ size → at + length piece ≤ size → length (written_at old at piece) ≤ size
written_fits old piece at size within fits reaches = rw (length-written old piece at) (omega (arith, length-take at old, length-drop (at + length piece) old))

none_or_one : (b : Bool) → cond b 0 1 + one_if b ≡ 1
none_or_one true = refl
none_or_one false = refl

module _ (seating : Inside) (v : SeatingView) (is : view_of seating ≡ v) (well : IsWell seating) (block : ℕ) (low : block < length seating.cells.items)
    (cell : Cell) (cells : List Cell) (written : cells ≡ set seating.cells.items block cell) where
  pub few_written : length cells < 2 ^ 32
  few_written = let few = well.few in omega (arith, ap (λ (xs : List Cell). length xs) written, length-set seating.cells.items block cell)

  pub numbers_written : length cells ≡ v.numbers
  numbers_written = ap (λ (xs : List Cell). length xs) written ∙ length-set seating.cells.items block cell ∙ ap (λ (w : SeatingView). w.numbers) is

  blocks_before : length (blocks_of seating.cells.items) + count_by is_vacant seating.cells.items ≡ length seating.cells.items
  blocks_before = length-blocks seating.cells.items

  blocks_after : length (blocks_of cells) + count_by is_vacant cells ≡ length cells
  blocks_after = length-blocks cells

  blocks_sum : length (blocks_of cells) + one_if (is_some (view_in (get_or seating.cells.items block Vacant))) ≡ length (blocks_of seating.cells.items) + one_if (is_some (view_in cell))
  blocks_sum =
      ap (λ (xs : List Cell). length (blocks_of xs) + one_if (is_some (view_in (get_or seating.cells.items block Vacant)))) written
      ∙ length-blocks_set seating.cells.items block cell low

  same_length : length cells ≡ length seating.cells.items
  same_length = ap (λ (xs : List Cell). length xs) written ∙ length-set seating.cells.items block cell

  spare_before : length seating.cells.items - length (blocks_of seating.cells.items) ≡ spare_of v
  spare_before = ap spare_of is

  -- a block more takes a number, and one that was there keeps its own
  pub spare_taken : is_some (view_in cell) ≡ true → length cells - length (blocks_of cells) + cond (is_some (find nat_cmp block v.blocks)) 0 1 ≡ spare_of v
  spare_taken some =
      let now : one_if (is_some (view_in cell)) ≡ 1 = ap one_if some in
      let was : one_if (is_some (find nat_cmp block v.blocks)) ≡ one_if (is_some (view_in (get_or seating.cells.items block Vacant))) = ap (λ (o : Option BlockView). one_if (is_some o)) (cell_view seating v is well block) in
      let either : cond (is_some (find nat_cmp block v.blocks)) 0 1 + one_if (is_some (find nat_cmp block v.blocks)) ≡ 1 = none_or_one (is_some (find nat_cmp block v.blocks)) in
      omega (arith, blocks_before, blocks_after, blocks_sum, same_length, spare_before)

  pub spare_kept : is_some (view_in cell) ≡ true → is_some (find nat_cmp block v.blocks) ≡ true → length cells - length (blocks_of cells) ≡ spare_of v
  spare_kept some there =
      let none : cond {A = ℕ} (is_some (find nat_cmp block v.blocks)) 0 1 ≡ 0 = ap (λ (b : Bool). cond {A = ℕ} b 0 1) there in
      omega (arith, spare_taken some)

  -- the number of a block that goes is free
  pub spare_freed : is_some (view_in cell) ≡ false → is_some (find nat_cmp block v.blocks) ≡ true → length cells - length (blocks_of cells) ≡ spare_of v + 1
  spare_freed none there =
      let now : one_if (is_some (view_in cell)) ≡ 0 = ap one_if none in
      let was : one_if (is_some (view_in (get_or seating.cells.items block Vacant))) ≡ 1 = ap (λ (o : Option BlockView). one_if (is_some o)) (sym (cell_view seating v is well block)) ∙ ap one_if there in
      omega (arith, blocks_before, blocks_after, blocks_sum, same_length, spare_before)

-- the cell of a block in a slice was written, and the block stays there
module _ (seating : Inside) (v : SeatingView) (is : view_of seating ≡ v) (well : IsWell seating) (block : ℕ) (in_slice : is_some (place_of v.purse block) ≡ true)
    (now : UsedView) (was : Bool) (cells : List Cell) (written : cells ≡ set seating.cells.items block (Resident now was))
    (same_id : now.id ≡ (used_in (get_or seating.cells.items block Vacant)).id) (same_number : now.number ≡ (used_in (get_or seating.cells.items block Vacant)).number)
    (same_size : now.size ≡ (used_in (get_or seating.cells.items block Vacant)).size) (some : 1 ≤ length now.bytes) (limit : length now.bytes ≤ v.size) where
  place_same : slice_of (Resident now was) ≡ slice_of (get_or seating.cells.items block Vacant)
  place_same = (λ i. Some (same_id i, same_number i)) ∙ ap slice_of (sym (cell_at seating v is well block in_slice))

  pub rewritten_tables : AreTables seating.size seating.slices seating.seats.items cells
  rewritten_tables =
      subst (λ (xs : List Cell). AreTables seating.size seating.slices seating.seats.items xs) (sym written)
      (kept_tables seating.size seating.slices seating.seats.items seating.cells.items well.tables block (Resident now was) (cell_low seating v is well block in_slice) place_same
      (same_size ∙ (cell_fits seating v is well block in_slice).0, some, subst (λ (size : ℕ). length now.bytes ≤ size) (sym (size_in seating v is well)) limit))

  pub rewritten_vacant : seating.vacant_cells ≡ map is_vacant cells
  rewritten_vacant =
      well.vacant_are
      ∙ sym (ap (λ (xs : List Cell). map is_vacant xs) written
      ∙ map-set_same is_vacant seating.cells.items block (Resident now was) Vacant (ap is_vacant (sym (cell_at seating v is well block in_slice))))

  pub rewritten_blocks : blocks_of cells ≡ put nat_cmp block (InSlice now.bytes was) v.blocks
  rewritten_blocks =
      ap (λ (xs : List Cell). blocks_of xs) written
      ∙ blocks-set seating.cells.items block (Resident now was) (InSlice now.bytes was) (cell_low seating v is well block in_slice) refl
      ∙ ap (λ bs. put nat_cmp block (InSlice now.bytes was) bs) (blocks_in seating v is well)
