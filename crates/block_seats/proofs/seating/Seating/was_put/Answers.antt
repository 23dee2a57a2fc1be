use Rattle.std.proofs.Common.{ap, sym, ◌∙◌}
use Rattle.std.specs.declared.option.Option.{Option}
use Rattle.block_seats.specs.Blocks.{BlockView, seen, was_put}
use Rattle.block_seats.proofs.Views.{cell_view}
use Rattle.block_seats.proofs.seating.Seating.was_put.Goals as goal

pub returns : goal.returns
returns c = c.cell_put.ensures ∙ ap (λ (o : Option BlockView). was_put (seen o)) (sym (cell_view c.self.inside _ c.self.view_is c.self.invariant c.args.block))
