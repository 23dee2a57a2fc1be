use Rattle.std.specs.Fmt.{decimal}
use Rattle.std.specs.Option.{option_copied}
use Rattle.far_io.specs.Words.{words_after}
use Rattle.quantum_text.proofs.Items.{Seen, Due}
use Rattle.quantum_text.proofs.Numbers.{IsMost}
use Rattle.quantum_text.proofs.parse.are_numbers.Given as goal

abbrev pub invariant-loop-index : goal.invariant-loop-index
invariant-loop-index l = record {
  seen : Seen decimal (IsMost l.limit) l._index (words_after (option_copied l.words)) (words_after (option_copied l.rest));
  due : Due decimal (IsMost l.limit) l.count l._index (words_after (option_copied l.words)) (words_after (option_copied l.rest));
}
