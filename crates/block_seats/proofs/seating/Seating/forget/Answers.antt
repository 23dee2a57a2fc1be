use Rattle.std.proofs.Common.{true, List, ap, sym, subst, ◌∙◌, arith, refl}
use Rattle.block_seats.specs.declared.cell.Cell.{Cell}
use Rattle.block_seats.specs.declared.cell.Cell.TheVariants.{Vacant}
use Rattle.block_seats.specs.Tables.{without}
use Rattle.block_seats.specs.Seats.{blocks_of, is_vacant}
use Rattle.block_seats.specs.Seatings.{SeatingView}
use Rattle.block_seats.specs.Well.{AreTables}
use Rattle.block_seats.proofs.Views.{there_low, cell_place, blocks_in, vacant_length, flags-set}
use Rattle.block_seats.proofs.Updates.{kept_tables, blocks-clear}
use Rattle.block_seats.proofs.Rewrites.{few_written, numbers_written, spare_freed}
use Rattle.block_seats.proofs.seating.Seating.forget.Goals as goal

pub overflow_cast-block : goal.overflow_cast-block
overflow_cast-block c =
    let low = there_low c.self.inside _ c.self.view_is c.self.invariant c.args.block c.requires.there in
    let few = c.self.invariant.few in
    omega (arith, low, few)

pub overflow_cast-block-2 : goal.overflow_cast-block-2
overflow_cast-block-2 c =
    let low = there_low c.self.inside _ c.self.view_is c.self.invariant c.args.block c.requires.there in
    let few = c.self.invariant.few in
    omega (arith, low, few)

pub put_cell-requires-clause-within : goal.put_cell-requires-clause-within
put_cell-requires-clause-within c = omega (arith, there_low c.self.inside _ c.self.view_is c.self.invariant c.args.block c.requires.there)

pub put_cell-requires-clause-away : goal.put_cell-requires-clause-away
put_cell-requires-clause-away c = sym (cell_place c.self.inside _ c.self.view_is c.self.invariant c.args.block) ∙ c.requires.away

pub insert-requires : goal.insert-requires
insert-requires c =
    let low = there_low c.self.inside _ c.self.view_is c.self.invariant c.args.block c.requires.there in
    omega (arith, low, vacant_length c.self.inside _ c.self.view_is c.self.invariant)

pub invariant_of-self : goal.invariant_of-self
invariant_of-self c =
    let seating = c.self.inside in
    let low = there_low seating _ c.self.view_is c.self.invariant c.args.block c.requires.there in
    let away = sym (cell_place seating _ c.self.view_is c.self.invariant c.args.block) ∙ c.requires.away in
    record {
      some = c.self.invariant.some;
      size = c.self.invariant.size;
      slices = c.self.invariant.slices;
      few = few_written seating _ c.self.view_is c.self.invariant c.args.block low _ _ c.put_cell.ensures;
      tables = subst (λ (cells : List Cell). AreTables seating.size seating.slices seating.seats.items cells) (sym c.put_cell.ensures)
          (kept_tables seating.size seating.slices seating.seats.items seating.cells.items c.self.invariant.tables c.args.block Vacant low (sym away) tt);
      open_are = c.self.invariant.open_are;
      empty_are = c.self.invariant.empty_are;
      idle_are = c.self.invariant.idle_are;
      busy_are = c.self.invariant.busy_are;
      vacant_are = c.insert.ensures.members ∙ flags-set is_vacant seating.vacant_cells seating.cells.items c.put_cell.new.cells.items c.args.block Vacant true c.self.invariant.vacant_are c.put_cell.ensures refl;
      most = c.self.invariant.most;
    }

pub returns-clause-blocks : goal.returns-clause-blocks
returns-clause-blocks c =
    ap (λ (cells : List Cell). blocks_of cells) c.put_cell.ensures
    ∙ blocks-clear c.self.inside.cells.items c.args.block
    ∙ ap (λ bs. without c.args.block bs) (blocks_in c.self.inside _ c.self.view_is c.self.invariant)

pub returns-clause-spare : goal.returns-clause-spare
returns-clause-spare c =
    let low = there_low c.self.inside _ c.self.view_is c.self.invariant c.args.block c.requires.there in
    spare_freed c.self.inside _ c.self.view_is c.self.invariant c.args.block low _ _ c.put_cell.ensures refl c.requires.there

pub returns-clause-rest : goal.returns-clause-rest
returns-clause-rest c =
    let low = there_low c.self.inside _ c.self.view_is c.self.invariant c.args.block c.requires.there in
    let numbers = numbers_written c.self.inside _ c.self.view_is c.self.invariant c.args.block low _ _ c.put_cell.ensures in
    λ i. record {
      size = ap (λ (w : SeatingView). w.size) c.self.view_is i;
      slices = ap (λ (w : SeatingView). w.slices) c.self.view_is i;
      blocks = blocks_of c.put_cell.new.cells.items;
      purse = ap (λ (w : SeatingView). w.purse) c.self.view_is i;
      strays = ap (λ (w : SeatingView). w.strays) c.self.view_is i;
      numbers = numbers i;
      moves = ap (λ (w : SeatingView). w.moves) c.self.view_is i;
    }
