use Rattle.std.proofs.Common.{◌≡◌, ℕ, ◌≤◌, length, get_or, set, is_some, true, ap, sym, subst, ◌∙◌, refl}
use Rattle.std.specs.FinMap.{put}
use Rattle.std.specs.Ordering.{nat_cmp}
use Rattle.slice_seq.specs.Used.{UsedView}
use Rattle.block_seats.specs.declared.cell.Cell.TheVariants.{Vacant, Resident}
use Rattle.block_seats.specs.Blocks.{BlockView, InSlice, bytes_of}
use Rattle.block_seats.specs.Purses.{place_of}
use Rattle.block_seats.specs.Seats.{used_in, blocks_of}
use Rattle.block_seats.specs.Seatings.{SeatingView}
use Rattle.block_seats.proofs.Views.{size_in, cell_slice, cell_low, cell_fits, cell_block, seated_is_there}
use Rattle.block_seats.proofs.Rewrites.{few_written, numbers_written, spare_kept, rewritten_tables, rewritten_vacant, rewritten_blocks}
use Rattle.block_seats.proofs.seating.Seating.note_put.Goals as goal
use Rattle.block_seats.proofs.seating.Seating.note_put.Goals.{After-note_put}

pub note_put-requires : goal.note_put-requires
note_put-requires c = cell_slice c.self.inside _ c.self.view_is c.self.invariant c.args.block c.requires

-- the block's slice afterwards
abbrev now : After-note_put → UsedView
now c = record (used_in (get_or c.self.inside.cells.items c.args.block Vacant)) { bytes = (used_in (get_or c.self.inside.cells.items c.args.block Vacant)).bytes }

in_slice : (c : After-note_put) → is_some (place_of c.args.self.now.purse c.args.block) ≡ true
in_slice c = c.requires

cells_are : (c : After-note_put) → c.note_put.new.cells.items ≡ set c.self.inside.cells.items c.args.block (Resident (now c) true)
cells_are c = c.note_put.ensures

some_bytes : (c : After-note_put) → 1 ≤ length (now c).bytes
some_bytes c = (cell_fits c.self.inside _ c.self.view_is c.self.invariant c.args.block (in_slice c)).1

few_bytes : (c : After-note_put) → length (now c).bytes ≤ c.args.self.now.size
few_bytes c =
    subst (λ (size : ℕ). length (now c).bytes ≤ size) (size_in c.self.inside _ c.self.view_is c.self.invariant) (cell_fits c.self.inside _ c.self.view_is c.self.invariant c.args.block (in_slice c)).2

pub invariant_of-self : goal.invariant_of-self
invariant_of-self c =
    let seating = c.self.inside in
    record {
      some = c.self.invariant.some;
      size = c.self.invariant.size;
      slices = c.self.invariant.slices;
      few = few_written seating _ c.self.view_is c.self.invariant c.args.block (cell_low seating _ c.self.view_is c.self.invariant c.args.block (in_slice c)) _ _ (cells_are c);
      tables = rewritten_tables seating _ c.self.view_is c.self.invariant c.args.block (in_slice c) (now c) _ _ (cells_are c) refl refl refl (some_bytes c) (few_bytes c);
      open_are = c.self.invariant.open_are;
      empty_are = c.self.invariant.empty_are;
      idle_are = c.self.invariant.idle_are;
      busy_are = c.self.invariant.busy_are;
      vacant_are = rewritten_vacant seating _ c.self.view_is c.self.invariant c.args.block (in_slice c) (now c) _ _ (cells_are c) refl refl refl (some_bytes c) (few_bytes c);
      most = c.self.invariant.most;
    }

pub returns-clause-spare : goal.returns-clause-spare
returns-clause-spare c =
    let seating = c.self.inside in
    spare_kept seating _ c.self.view_is c.self.invariant c.args.block (cell_low seating _ c.self.view_is c.self.invariant c.args.block (in_slice c)) _ _ (cells_are c) refl
    (seated_is_there seating _ c.self.view_is c.self.invariant c.args.block (in_slice c))

pub returns-clause-rest : goal.returns-clause-rest
returns-clause-rest c =
    let seating = c.self.inside in
    let numbers = numbers_written seating _ c.self.view_is c.self.invariant c.args.block (cell_low seating _ c.self.view_is c.self.invariant c.args.block (in_slice c)) _ _ (cells_are c) in
    λ i. record {
      size = ap (λ (w : SeatingView). w.size) c.self.view_is i;
      slices = ap (λ (w : SeatingView). w.slices) c.self.view_is i;
      blocks = blocks_of c.note_put.new.cells.items;
      purse = ap (λ (w : SeatingView). w.purse) c.self.view_is i;
      strays = ap (λ (w : SeatingView). w.strays) c.self.view_is i;
      numbers = numbers i;
      moves = ap (λ (w : SeatingView). w.moves) c.self.view_is i;
    }

pub returns-clause-blocks : goal.returns-clause-blocks
returns-clause-blocks c =
    rewritten_blocks c.self.inside _ c.self.view_is c.self.invariant c.args.block (in_slice c) (now c) _ _ (cells_are c) refl refl refl (some_bytes c) (few_bytes c)
    ∙ ap (λ (b : BlockView). put nat_cmp c.args.block (InSlice (bytes_of b) true) c.args.self.now.blocks)
    (sym (cell_block c.self.inside _ c.self.view_is c.self.invariant c.args.block (in_slice c)))
