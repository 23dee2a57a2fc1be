use Rattle.std.specs.Option.{option_copied}
use Rattle.far_io.specs.Words.{words_after}
use Rattle.quantum_text.specs.Shares.{seat_word, IsSeat}
use Rattle.quantum_text.proofs.Items.{Due}
use Rattle.quantum_text.proofs.SeatsRead.{SeenFair}
use Rattle.quantum_text.proofs.shares.total_fair.Given as goal

abbrev pub invariant-loop-user : goal.invariant-loop-user
invariant-loop-user l = record {
  seen : SeenFair l._user (words_after (option_copied l.words)) (words_after (option_copied l.rest)) l.total;
  due : Due seat_word IsSeat l.users l._user (words_after (option_copied l.words)) (words_after (option_copied l.rest));
}
