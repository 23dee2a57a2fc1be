use Rattle.std.proofs.Common.{◌≡◌, ℕ, List, length, take}
use Rattle.std.specs.Option.{option_copied}
use Rattle.far_io.specs.Words.{words_after}
use Rattle.quantum_text.specs.LineKind.{limit_of, count_of, numbers_of, KeepsOtherKinds}
use Rattle.quantum_text.specs.Block.{AreDecimals}
use Rattle.std.specs.Fmt.{decimal}
use Rattle.quantum_text.proofs.Items.{Due}
use Rattle.quantum_text.proofs.Numbers.{IsMost}
use Rattle.quantum_text.proofs.parse.take_numbers.Given as goal

abbrev pub invariant-loop-index : goal.invariant-loop-index
invariant-loop-index l = record {
  due : Due decimal (IsMost (limit_of l.kind)) (count_of l.kind (length l.initial.report.rows)) l.index (words_after (option_copied l.words)) (words_after (option_copied l.rest));
  taken : (numbers : List ℕ) → AreDecimals (limit_of l.kind) (count_of l.kind (length l.initial.report.rows)) (words_after (option_copied l.words)) numbers
      → take l.index (numbers_of l.kind l.report) ≡ take l.index numbers;
  others : KeepsOtherKinds l.kind l.initial.report l.report;
}
