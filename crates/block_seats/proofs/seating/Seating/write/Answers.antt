use Rattle.std.proofs.Common.{◌≡◌, ℕ, ◌+◌, ◌≤◌, length, get_or, set, is_some, true, ap, sym, subst, ◌∙◌, refl}
use Rattle.std.specs.FinMap.{put}
use Rattle.std.specs.Ordering.{nat_cmp}
use Rattle.slice_seq.specs.Used.{UsedView, written_at}
use Rattle.block_seats.specs.declared.cell.Cell.TheVariants.{Vacant, Resident}
use Rattle.block_seats.specs.Blocks.{BlockView, InSlice, bytes_of, length_of, was_put}
use Rattle.block_seats.specs.Purses.{place_of}
use Rattle.block_seats.specs.Seats.{used_in, put_in, blocks_of}
use Rattle.block_seats.specs.Seatings.{SeatingView}
use Rattle.block_seats.proofs.Views.{size_in, cell_slice, cell_low, cell_size, cell_fits, cell_block, seated_is_there}
use Rattle.block_seats.proofs.Rewrites.{some_written, written_fits, few_written, numbers_written, spare_kept, rewritten_tables, rewritten_vacant, rewritten_blocks}
use Rattle.block_seats.proofs.seating.Seating.write.Goals as goal
use Rattle.block_seats.proofs.seating.Seating.write.Goals.{After-write_cell}

pub write_cell-requires-clause-there : goal.write_cell-requires-clause-there
write_cell-requires-clause-there c = cell_slice c.self.inside _ c.self.view_is c.self.invariant c.args.block c.requires.seated

pub write_cell-requires-clause-within : goal.write_cell-requires-clause-within
write_cell-requires-clause-within c =
    subst (λ (b : BlockView). c.args.at ≤ length_of b) (cell_block c.self.inside _ c.self.view_is c.self.invariant c.args.block c.requires.seated) c.requires.within

pub write_cell-requires-clause-fits : goal.write_cell-requires-clause-fits
write_cell-requires-clause-fits c =
    subst (λ (size : ℕ). c.args.at + length c.args.bytes.now ≤ size) (sym (cell_size c.self.inside _ c.self.view_is c.self.invariant c.args.block c.requires.seated)) c.requires.fits

-- the block's slice afterwards
abbrev now : After-write_cell → UsedView
now c = record (used_in (get_or c.self.inside.cells.items c.args.block Vacant)) { bytes = written_at (used_in (get_or c.self.inside.cells.items c.args.block Vacant)).bytes c.args.at c.args.bytes.now }

in_slice : (c : After-write_cell) → is_some (place_of c.args.self.now.purse c.args.block) ≡ true
in_slice c = c.requires.seated

cells_are : (c : After-write_cell) → c.write_cell.new.cells.items ≡ set c.self.inside.cells.items c.args.block (Resident (now c) (put_in (get_or c.self.inside.cells.items c.args.block Vacant)))
cells_are c = c.write_cell.ensures

some_bytes : (c : After-write_cell) → 1 ≤ length (now c).bytes
some_bytes c =
    let cell = c.self.inside in
    some_written (used_in (get_or cell.cells.items c.args.block Vacant)).bytes c.args.bytes.now c.args.at (cell_fits cell _ c.self.view_is c.self.invariant c.args.block (in_slice c)).1
    (subst (λ (b : BlockView). c.args.at ≤ length_of b) (cell_block cell _ c.self.view_is c.self.invariant c.args.block c.requires.seated) c.requires.within)

few_bytes : (c : After-write_cell) → length (now c).bytes ≤ c.args.self.now.size
few_bytes c =
    let cell = c.self.inside in
    written_fits (used_in (get_or cell.cells.items c.args.block Vacant)).bytes c.args.bytes.now c.args.at c.args.self.now.size
    (subst (λ (b : BlockView). c.args.at ≤ length_of b) (cell_block cell _ c.self.view_is c.self.invariant c.args.block c.requires.seated) c.requires.within)
    (subst (λ (size : ℕ). length (used_in (get_or cell.cells.items c.args.block Vacant)).bytes ≤ size) (size_in cell _ c.self.view_is c.self.invariant) (cell_fits cell _ c.self.view_is c.self.invariant c.args.block (in_slice c)).2)
    c.requires.fits

pub invariant_of-self : goal.invariant_of-self
invariant_of-self c =
    let seating = c.self.inside in
    record {
      some = c.self.invariant.some;
      size = c.self.invariant.size;
      slices = c.self.invariant.slices;
      few = few_written seating _ c.self.view_is c.self.invariant c.args.block (cell_low seating _ c.self.view_is c.self.invariant c.args.block (in_slice c)) _ _ (cells_are c);
      tables = rewritten_tables seating _ c.self.view_is c.self.invariant c.args.block (in_slice c) (now c) _ _ (cells_are c) refl refl refl (some_bytes c) (few_bytes c);
      open_are = c.self.invariant.open_are;
      empty_are = c.self.invariant.empty_are;
      idle_are = c.self.invariant.idle_are;
      busy_are = c.self.invariant.busy_are;
      vacant_are = rewritten_vacant seating _ c.self.view_is c.self.invariant c.args.block (in_slice c) (now c) _ _ (cells_are c) refl refl refl (some_bytes c) (few_bytes c);
      most = c.self.invariant.most;
    }

pub returns-clause-spare : goal.returns-clause-spare
returns-clause-spare c =
    let seating = c.self.inside in
    spare_kept seating _ c.self.view_is c.self.invariant c.args.block (cell_low seating _ c.self.view_is c.self.invariant c.args.block (in_slice c)) _ _ (cells_are c) refl
    (seated_is_there seating _ c.self.view_is c.self.invariant c.args.block (in_slice c))

pub returns-clause-rest : goal.returns-clause-rest
returns-clause-rest c =
    let seating = c.self.inside in
    let numbers = numbers_written seating _ c.self.view_is c.self.invariant c.args.block (cell_low seating _ c.self.view_is c.self.invariant c.args.block (in_slice c)) _ _ (cells_are c) in
    λ i. record {
      size = ap (λ (w : SeatingView). w.size) c.self.view_is i;
      slices = ap (λ (w : SeatingView). w.slices) c.self.view_is i;
      blocks = blocks_of c.write_cell.new.cells.items;
      purse = ap (λ (w : SeatingView). w.purse) c.self.view_is i;
      strays = ap (λ (w : SeatingView). w.strays) c.self.view_is i;
      numbers = numbers i;
      moves = ap (λ (w : SeatingView). w.moves) c.self.view_is i;
    }

pub returns-clause-blocks : goal.returns-clause-blocks
returns-clause-blocks c =
    rewritten_blocks c.self.inside _ c.self.view_is c.self.invariant c.args.block (in_slice c) (now c) _ _ (cells_are c) refl refl refl (some_bytes c) (few_bytes c)
    ∙ ap (λ (b : BlockView). put nat_cmp c.args.block (InSlice (written_at (bytes_of b) c.args.at c.args.bytes.now) (was_put b)) c.args.self.now.blocks)
    (sym (cell_block c.self.inside _ c.self.view_is c.self.invariant c.args.block (in_slice c)))
