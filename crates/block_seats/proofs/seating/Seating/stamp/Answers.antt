use Rattle.std.proofs.Common.{ℕ, ◌≤◌, is_some, get_or, ap, sym, subst, ◌∙◌}
use Rattle.std.specs.declared.option.Option.{Option}
use Rattle.std.specs.Option.{option_and_then, IfSome}
use Rattle.far_words.specs.declared.stamp.Stamp.{Stamp}
use Rattle.block_seats.specs.declared.cell.Cell.TheVariants.{Vacant}
use Rattle.block_seats.specs.Seats.{view_in}
use Rattle.block_seats.specs.Blocks.{BlockView, stamp_of}
use Rattle.block_seats.proofs.Views.{cell_place, cell_view, size_in, stamp_away, stamp_fits, unstamped_slice}
use Rattle.block_seats.proofs.seating.Seating.stamp.Goals as goal

pub returns-clause-stamp : goal.returns-clause-stamp
returns-clause-stamp c = c.cell_stamp.ensures ∙ ap (option_and_then stamp_of) (sym (cell_view c.self.inside _ c.self.view_is c.self.invariant c.args.block))

pub returns-clause-away : goal.returns-clause-away
returns-clause-away c = λ some.
    cell_place c.self.inside _ c.self.view_is c.self.invariant c.args.block
    ∙ stamp_away _ (ap (λ (o : Option Stamp). is_some o) (sym c.cell_stamp.ensures) ∙ some)

pub returns-clause-fits : goal.returns-clause-fits
returns-clause-fits c =
    subst (λ (o : Option Stamp). IfSome o (λ stamp. (1 ≤ stamp.length) × (stamp.length ≤ c.args.self.now.size))) (sym c.cell_stamp.ensures)
    (subst (λ (size : ℕ). IfSome (option_and_then stamp_of (view_in (get_or c.self.inside.cells.items c.args.block Vacant))) (λ stamp. (1 ≤ stamp.length) × (stamp.length ≤ size))) (size_in c.self.inside _ c.self.view_is c.self.invariant)
    (stamp_fits c.self.inside.size _ (c.self.invariant.tables.sized.each c.args.block)))

pub returns-clause-seated : goal.returns-clause-seated
returns-clause-seated c = λ there none.
    let view = cell_view c.self.inside _ c.self.view_is c.self.invariant c.args.block in
    ap (λ (o : Option (ℕ × ℕ)). is_some o) (cell_place c.self.inside _ c.self.view_is c.self.invariant c.args.block)
    ∙ unstamped_slice _ (ap (λ (o : Option BlockView). is_some o) (sym view) ∙ there) (sym c.cell_stamp.ensures ∙ none)
