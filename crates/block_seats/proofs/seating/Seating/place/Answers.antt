use Rattle.std.proofs.Common.{ℕ, is_some, sym, ap, ◌∙◌}
use Rattle.std.specs.declared.option.Option.{Option}
use Rattle.std.specs.Option.{option_and_then}
use Rattle.block_seats.specs.Blocks.{stamp_of}
use Rattle.block_seats.proofs.Views.{cell_place, cell_view, seated_is_there, slice_unstamped}
use Rattle.block_seats.proofs.seating.Seating.place.Goals as goal

pub returns-clause-place : goal.returns-clause-place
returns-clause-place c = c.slice_at.ensures ∙ sym (cell_place c.self.inside _ c.self.view_is c.self.invariant c.args.block)

pub returns-clause-there : goal.returns-clause-there
returns-clause-there c = λ some.
    seated_is_there c.self.inside _ c.self.view_is c.self.invariant c.args.block
    (ap (λ (o : Option (ℕ × ℕ)). is_some o) (sym (c.slice_at.ensures ∙ sym (cell_place c.self.inside _ c.self.view_is c.self.invariant c.args.block))) ∙ some)

pub returns-clause-unstamped : goal.returns-clause-unstamped
returns-clause-unstamped c = λ some.
    ap (option_and_then stamp_of) (cell_view c.self.inside _ c.self.view_is c.self.invariant c.args.block)
    ∙ slice_unstamped _ (ap (λ (o : Option (ℕ × ℕ)). is_some o) (sym c.slice_at.ensures) ∙ some)
