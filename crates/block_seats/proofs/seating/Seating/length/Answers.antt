use Rattle.std.proofs.Common.{◌≤◌, is_some, get_or, ap, sym, ◌∙◌, arith}
use Rattle.std.specs.declared.option.Option.{Option}
use Rattle.block_seats.specs.declared.cell.Cell.TheVariants.{Vacant}
use Rattle.block_seats.specs.Seats.{view_in}
use Rattle.block_seats.specs.Blocks.{BlockView, seen, length_of}
use Rattle.block_seats.proofs.Views.{cell_view, size_in, length_fits}
use Rattle.block_seats.proofs.seating.Seating.length.Goals as goal
use Rattle.block_seats.proofs.seating.Seating.length.Goals.{After-cell_length}

pub returns-clause-value : goal.returns-clause-value
returns-clause-value c = c.cell_length.ensures ∙ ap (λ (o : Option BlockView). length_of (seen o)) (sym (cell_view c.self.inside _ c.self.view_is c.self.invariant c.args.block))

fits : (c : After-cell_length) → (1 ≤ length_of (seen (view_in (get_or c.self.inside.cells.items c.args.block Vacant)))) × (length_of (seen (view_in (get_or c.self.inside.cells.items c.args.block Vacant))) ≤ c.self.inside.size)
fits c =
    length_fits c.self.inside.size _ (c.self.invariant.tables.sized.each c.args.block)
    (ap (λ (o : Option BlockView). is_some o) (sym (cell_view c.self.inside _ c.self.view_is c.self.invariant c.args.block)) ∙ c.requires)

pub returns-clause-some : goal.returns-clause-some
returns-clause-some c = omega (arith, c.cell_length.ensures, (fits c).0)

pub returns-clause-limit : goal.returns-clause-limit
returns-clause-limit c = omega (arith, c.cell_length.ensures, (fits c).1, size_in c.self.inside _ c.self.view_is c.self.invariant)
