use Rattle.std.proofs.Common.{◌≡◌, drop}
use Rattle.shelf_link.specs.Shelves.{answer_of}
use Rattle.shelf_link.proofs.twist.answer.Given as goal

abbrev pub invariant-loop-answer : goal.invariant-loop-answer
invariant-loop-answer l = record { none_yet : answer_of l.answers l.number ≡ answer_of (drop l.answer-index l.answers) l.number }
