use Rattle.std.proofs.Common.{ℕ, sym, ap, subst, ◌∙◌, arith}
use Rattle.block_seats.specs.Seatings.{SeatingView, IsNewNumber}
use Rattle.block_seats.proofs.Views.{vacant_low, vacant_number, full_number, some_vacant, new_nowhere}
use Rattle.block_seats.proofs.seating.Seating.next_number.Goals as goal

pub returns-in-Some-clause-number : goal.returns-in-Some-clause-number
returns-in-Some-clause-number c =
    subst (λ (n : ℕ). IsNewNumber c.args.self.now n) (sym c.from.ensures)
    (vacant_number c.self.inside _ c.self.view_is c.self.invariant c.in-Some.number (sym c.first.ensures ∙ c.in-Some.is))

pub returns-in-Some-clause-room : goal.returns-in-Some-clause-room
returns-in-Some-clause-room c = λ room.
    let low = vacant_low c.self.inside _ c.self.view_is c.self.invariant c.in-Some.number (sym c.first.ensures ∙ c.in-Some.is) in
    omega (arith, c.from.ensures, ap (λ (w : SeatingView). w.numbers) c.self.view_is)

pub returns-in-None-clause-number : goal.returns-in-None-clause-number
returns-in-None-clause-number c =
    subst (λ (n : ℕ). IsNewNumber c.args.self.now n) (sym (c.from-in-None.ensures ∙ c.bound.ensures))
    (full_number c.self.inside _ c.self.view_is c.self.invariant (sym c.first.ensures ∙ c.in-None.is))

pub returns-in-None-clause-room : goal.returns-in-None-clause-room
returns-in-None-clause-room c = λ room. absurd (some_vacant c.self.inside _ c.self.view_is c.self.invariant room (sym c.first.ensures ∙ c.in-None.is))

pub returns-in-Some-clause-nowhere : goal.returns-in-Some-clause-nowhere
returns-in-Some-clause-nowhere c = new_nowhere c.self.inside _ c.self.view_is c.self.invariant c.from.result (returns-in-Some-clause-number c)

pub returns-in-None-clause-nowhere : goal.returns-in-None-clause-nowhere
returns-in-None-clause-nowhere c = new_nowhere c.self.inside _ c.self.view_is c.self.invariant c.from-in-None.result (returns-in-None-clause-number c)
