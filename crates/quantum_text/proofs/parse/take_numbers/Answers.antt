use Rattle.std.proofs.Common.{◌≡◌, ◌+◌, ◌<◌, ◌≤◌, length, take, ◌∙◌, ap, arith}
use Rattle.quantum_text.specs.LineKind.{limit_of, count_of, numbers_of}
use Rattle.std.specs.Fmt.{decimal}
use Rattle.quantum_text.proofs.Items.{due_nothing, due_more, taken_more, taken_all}
use Rattle.quantum_text.proofs.Numbers.{IsMost, due_number}
use Rattle.quantum_text.proofs.Rows.{length_numbers, keeps_on}
use Rattle.quantum_text.proofs.Words.{limit_fits}
use Rattle.quantum_text.proofs.parse.take_numbers.Goals as goal

pub unreachable-requires : goal.unreachable-requires
unreachable-requires c =
    let kind = c.args.kind in
    let users = length c.args.report.now.rows in
    due_nothing decimal (IsMost (limit_of kind)) 0 (count_of kind users) c.loop-index.index _ _ c.loop-index.invariant.due (omega (arith, c.count-index-end.ensures.count, c.loop-index-test.true))
    (λ number within. c.in_default.ensures.nothing number (omega (arith, c.limit.ensures))) c.requires.0 c.requires.1

pub loop-index-preserved : goal.loop-index-preserved
loop-index-preserved c =
    let kind = c.args.kind in
    let users = length c.args.report.now.rows in
    let i = c.loop-index.index in
    let all = c.loop-index.invariant in
    let more : i < count_of kind users = omega (arith, c.count-index-end.ensures.count, c.loop-index-test.true) in
    let long : length (numbers_of kind c.loop-index.report) ≡ count_of kind users = length_numbers kind c.loop-index.report ∙ ap (count_of kind) all.others.users in
    let within : c.in-Some.number ≤ limit_of kind = omega (arith, c.limit.ensures, c.in-Some.ensures.within) in
    record {
      due = due_more decimal (IsMost (limit_of kind)) 0 (count_of kind users) i _ _ _ c.in-Some.number all.due more c.in-Some.ensures.number;
      taken = λ numbers are.
          let is_due = due_number (limit_of kind) (count_of kind users) i _ _ _ c.in-Some.number (limit_fits kind) all.due more c.in-Some.ensures.number within numbers are in
          ap (take (i + 1)) c.set_number.ensures.numbers
          ∙ taken_more 0 (numbers_of kind c.loop-index.report) numbers i c.in-Some.number (omega arith) (omega (arith, are.many)) is_due (all.taken numbers are);
      others = keeps_on kind _ _ _ all.others c.set_number.ensures.others;
    }

pub returns-clause-numbers : goal.returns-clause-numbers
returns-clause-numbers c =
    let kind = c.args.kind in
    let users = length c.args.report.now.rows in
    let all = c.loop-index.invariant in
    let numbers = c.requires.0 in
    let long : length (numbers_of kind c.loop-index.report) ≡ count_of kind users = length_numbers kind c.loop-index.report ∙ ap (count_of kind) all.others.users in
    let same : numbers_of kind c.loop-index.report ≡ numbers =
    taken_all (numbers_of kind c.loop-index.report) numbers (count_of kind users) c.loop-index.index long c.requires.1.many (omega (arith, c.count-index-end.ensures.count, c.loop-index-test.false)) (all.taken numbers c.requires.1) in
    rw same c.requires.1
