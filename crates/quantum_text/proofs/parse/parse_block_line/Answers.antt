use Rattle.std.proofs.Common.{◌≡◌, sym, ◌∙◌}
use Rattle.quantum_text.specs.LineKind.{word_of, numbers_of}
use Rattle.quantum_text.proofs.LineWords.{other_word, no_numbers, its_numbers, told_apart, told_same, numbers_within}
use Rattle.quantum_text.proofs.parse.parse_block_line.Goals as goal
use Rattle.quantum_text.proofs.parse.parse_block_line.Goals.{then-ne-via-then-ne, then-ne-via-else-ne+then-not-are_numbers}

pub returns-then-ne-clause-bad : goal.returns-then-ne-clause-bad
returns-then-ne-clause-bad c = elim c.then-ne.branch [
  | then-ne-via-then-ne w ↦
      other_word c.args.kind _ _ _ _ c.split_word.ensures.words
      (λ same. told_apart c.split_word.result.0.now c.word.result.now c.ne.result c.ne.ensures w.if-ne.true (same ∙ sym c.word.ensures))
  | then-ne-via-else-ne+then-not-are_numbers w ↦
      no_numbers c.args.kind _ _ _ _ c.split_word.ensures.words
      (λ numbers are. w.if-not-are_numbers.ensures.none numbers (numbers_within w.limit.result _ w.count.result _ _ numbers w.limit.ensures w.count.ensures.count are))
]

pub returns-clause-good : goal.returns-clause-good
returns-clause-good c =
    let same : c.split_word.result.0.now ≡ word_of c.args.kind = told_same c.split_word.result.0.now c.word.result.now c.ne.result c.ne.ensures c.if-ne.false ∙ c.word.ensures in
    its_numbers c.args.kind _ _ _ _ c.split_word.ensures.words (numbers_of c.args.kind c.take_numbers.new.report) same c.take_numbers.ensures.numbers
