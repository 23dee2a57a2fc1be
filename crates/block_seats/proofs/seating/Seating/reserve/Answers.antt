use Rattle.std.proofs.Common.{◌≡◌, ◌+◌, List, ◌++◌, length, map, replicate, ap, sym, subst, ◌∙◌, arith}
use Rattle.std.proofs.lemmas.List.{length-append, length-replicate}
use Rattle.block_seats.specs.declared.cell.Cell.{Cell}
use Rattle.block_seats.specs.declared.cell.Cell.TheVariants.{Vacant}
use Rattle.block_seats.specs.Seats.{blocks_of, is_vacant}
use Rattle.block_seats.specs.Seatings.{SeatingView}
use Rattle.block_seats.specs.Well.{AreTables}
use Rattle.block_seats.proofs.New.{padded_tables, padded_vacant, padded_blocks}
use Rattle.block_seats.proofs.Seats.{length-blocks}
use Rattle.block_seats.proofs.Views.{vacant_count, vacant_length, blocks_in}
use Rattle.block_seats.proofs.seating.Seating.reserve.Goals as goal
use Rattle.block_seats.proofs.seating.Seating.reserve.Goals.{After-extend_cells}

pub returns-then-need-count-clause-ready : goal.returns-then-need-count-clause-ready
returns-then-need-count-clause-ready c = omega (arith, c.if-need-count.true, c.count.ensures, vacant_count c.self.inside _ c.self.view_is c.self.invariant)

pub returns-in_default-clause-ok : goal.returns-in_default-clause-ok
returns-in_default-clause-ok c = λ enough. absurd (omega (arith, enough, c.if-need-count.false, c.count.ensures, vacant_count c.self.inside _ c.self.view_is c.self.invariant))

pub returns-in_err-reserve-clause-ok : goal.returns-in_err-reserve-clause-ok
returns-in_err-reserve-clause-ok c = λ enough. absurd (omega (arith, enough, c.if-need-count.false, c.count.ensures, vacant_count c.self.inside _ c.self.view_is c.self.invariant))

pub returns-in_err-grow-clause-ok : goal.returns-in_err-grow-clause-ok
returns-in_err-grow-clause-ok c = λ enough. absurd (omega (arith, enough, c.if-need-count.false, c.count.ensures, vacant_count c.self.inside _ c.self.view_is c.self.invariant))

-- the table afterwards
cells_are : (c : After-extend_cells) → c.extend_cells.new.cells.items ≡ c.self.inside.cells.items ++ replicate c.max-more.result Vacant
cells_are c = c.extend_cells.ensures ∙ ap (λ (xs : List Cell). xs ++ replicate c.max-more.result Vacant) c.reserve.ensures.items

count_is : (c : After-extend_cells) → length c.extend_cells.new.cells.items ≡ length c.self.inside.cells.items + c.max-more.result
count_is c =
    ap (λ (xs : List Cell). length xs) (cells_are c)
    ∙ length-append c.self.inside.cells.items (replicate c.max-more.result Vacant)
    ∙ ap (λ n. length c.self.inside.cells.items + n) (length-replicate c.max-more.result Vacant)

bound_is : (c : After-extend_cells) → c.bound-bound.result ≡ length c.self.inside.cells.items
bound_is c = c.bound-bound.ensures ∙ vacant_length c.self.inside _ c.self.view_is c.self.invariant

grown_is : (c : After-extend_cells) → c.in-Some.grown ≡ length c.self.inside.cells.items + c.max-more.result
grown_is c = let h = c.in-Some.ensures in omega (arith, bound_is c, h)

pub invariant_of-self-2 : goal.invariant_of-self-2
invariant_of-self-2 c =
    let seating = c.self.inside in
    let h = c.in-Some.ensures in
    record {
      some = c.self.invariant.some;
      size = c.self.invariant.size;
      slices = c.self.invariant.slices;
      few = omega (arith, count_is c, bound_is c, h);
      tables = subst (λ (xs : List Cell). AreTables seating.size seating.slices seating.seats.items xs) (sym (cells_are c))
          (padded_tables seating.size seating.slices c.max-more.result seating.seats.items seating.cells.items c.self.invariant.tables);
      open_are = c.self.invariant.open_are;
      empty_are = c.self.invariant.empty_are;
      idle_are = c.self.invariant.idle_are;
      busy_are = c.self.invariant.busy_are;
      vacant_are = c.in_ok-grow.ensures.grown
          ∙ padded_vacant seating.vacant_cells seating.cells.items c.in-Some.grown c.max-more.result c.self.invariant.vacant_are (grown_is c)
          ∙ ap (λ (xs : List Cell). map is_vacant xs) (sym (cells_are c));
      most = c.self.invariant.most;
    }

blocks_are : (c : After-extend_cells) → blocks_of c.extend_cells.new.cells.items ≡ c.args.self.now.blocks
blocks_are c =
    ap (λ (xs : List Cell). blocks_of xs) (cells_are c)
    ∙ padded_blocks c.self.inside.cells.items c.max-more.result
    ∙ blocks_in c.self.inside _ c.self.view_is c.self.invariant

pub returns-clause-ready : goal.returns-clause-ready
returns-clause-ready c =
    let all = length-blocks c.self.inside.cells.items in
    let same : length (blocks_of c.extend_cells.new.cells.items) ≡ length (blocks_of c.self.inside.cells.items)
    = ap (λ bs. length bs) (blocks_are c ∙ sym (blocks_in c.self.inside _ c.self.view_is c.self.invariant)) in
    omega (arith, all, same, count_is c, c.max-more.ensures)

pub returns-clause-rest : goal.returns-clause-rest
returns-clause-rest c = λ i. record {
  size = ap (λ (w : SeatingView). w.size) c.self.view_is i;
  slices = ap (λ (w : SeatingView). w.slices) c.self.view_is i;
  blocks = blocks_are c i;
  purse = ap (λ (w : SeatingView). w.purse) c.self.view_is i;
  strays = ap (λ (w : SeatingView). w.strays) c.self.view_is i;
  numbers = length c.extend_cells.new.cells.items;
  moves = ap (λ (w : SeatingView). w.moves) c.self.view_is i;
}
