use Rattle.std.proofs.Common.{is_some, ap, sym, ◌∙◌}
use Rattle.std.specs.declared.option.Option.{Option}
use Rattle.block_seats.specs.Blocks.{BlockView}
use Rattle.block_seats.proofs.Views.{cell_view}
use Rattle.block_seats.proofs.seating.Seating.has.Goals as goal

pub returns : goal.returns
returns c = c.is_there.ensures ∙ ap (λ (o : Option BlockView). is_some o) (sym (cell_view c.self.inside _ c.self.view_is c.self.invariant c.args.block))
