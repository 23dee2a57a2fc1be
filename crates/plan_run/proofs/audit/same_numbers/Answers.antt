use Rattle.std.proofs.Common.{◌≡◌, length, sym, ◌∙◌, ap, arith, ◌≤◌}
use Rattle.std.proofs.lemmas.Slice.Eq.{bytes_eq-Decides}
use Rattle.quantum_text.specs.LineKind.{numbers_of, count_of}
use Rattle.quantum_text.proofs.Rows.{length_numbers}
use Rattle.plan_run.proofs.AuditLines.{same_at_each}
use Rattle.plan_run.proofs.audit.same_numbers.Goals as goal

pub returns : goal.returns
returns c =
    let xs = numbers_of c.args.kind c.args.read.now in
    let ys = numbers_of c.args.kind c.args.wanted.now in
    let long : length xs ≡ length ys = length_numbers c.args.kind c.args.read.now ∙ ap (count_of c.args.kind) c.requires ∙ sym (length_numbers c.args.kind c.args.wanted.now) in
    let all : length xs ≤ c.loop-index.index = omega (arith, c.count-index-end.ensures.numbers) in
    sym ((bytes_eq-Decides xs ys).1 (same_at_each xs ys long (λ k here. c.loop-index.invariant k (omega arith))))
