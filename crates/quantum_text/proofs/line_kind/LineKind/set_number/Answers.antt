use Rattle.std.proofs.Common.{◌<◌, length, refl, arith}
use Rattle.karma_rule.specs.declared.row.Row.{Row}
use Rattle.quantum_text.specs.declared.line_kind.LineKind.TheVariants.{Demand, Slices, Credits}
use Rattle.quantum_text.specs.LineKind.{numbers_of}
use Rattle.quantum_text.proofs.Rows.{length_numbers, column_set, row_keeps}
use Rattle.quantum_text.proofs.line_kind.LineKind.set_number.Goals as goal

pub returns-in-Demand-clause-numbers : goal.returns-in-Demand-clause-numbers
returns-in-Demand-clause-numbers c = rw c.in-Demand.is (column_set (λ (row : Row). row.demand) c.args.report.now.rows _ c.args.index _ c.items_mut-rows.ensures.value)

pub returns-in-Demand-clause-others : goal.returns-in-Demand-clause-others
returns-in-Demand-clause-others c =
    let place : c.args.index < length (numbers_of Demand c.args.report.now) = rw c.in-Demand.is at c.requires.place in
    rw c.in-Demand.is
    (row_keeps Demand c.args.report.now _ c.args.index _ _ c.items_mut-rows.ensures.value (omega (arith, length_numbers Demand c.args.report.now)) (λ ne. absurd (ne refl)) (λ ne. refl) (λ ne. refl) refl)

pub returns-in-Slices-clause-numbers : goal.returns-in-Slices-clause-numbers
returns-in-Slices-clause-numbers c = rw c.in-Slices.is (column_set (λ (row : Row). row.given) c.args.report.now.rows _ c.args.index _ c.items_mut-rows-in-Slices.ensures.value)

pub returns-in-Slices-clause-others : goal.returns-in-Slices-clause-others
returns-in-Slices-clause-others c =
    let place : c.args.index < length (numbers_of Slices c.args.report.now) = rw c.in-Slices.is at c.requires.place in
    rw c.in-Slices.is
    (row_keeps Slices c.args.report.now _ c.args.index _ _ c.items_mut-rows-in-Slices.ensures.value (omega (arith, length_numbers Slices c.args.report.now)) (λ ne. refl) (λ ne. absurd (ne refl)) (λ ne. refl) refl)

pub returns-in-Credits-clause-numbers : goal.returns-in-Credits-clause-numbers
returns-in-Credits-clause-numbers c = rw c.in-Credits.is (column_set (λ (row : Row). row.credits) c.args.report.now.rows _ c.args.index _ c.items_mut-rows-in-Credits.ensures.value)

pub returns-in-Credits-clause-others : goal.returns-in-Credits-clause-others
returns-in-Credits-clause-others c =
    let place : c.args.index < length (numbers_of Credits c.args.report.now) = rw c.in-Credits.is at c.requires.place in
    rw c.in-Credits.is
    (row_keeps Credits c.args.report.now _ c.args.index _ _ c.items_mut-rows-in-Credits.ensures.value (omega (arith, length_numbers Credits c.args.report.now)) (λ ne. refl) (λ ne. refl) (λ ne. absurd (ne refl)) refl)
