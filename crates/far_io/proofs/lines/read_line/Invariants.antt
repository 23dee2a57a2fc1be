use Rattle.std.proofs.Common.{◌≡◌, ◌+◌, ◌-◌, false, length}
use Rattle.far_io.specs.Left.{in_front}
use Rattle.far_io.specs.LineView.{AnswersAtOnce}
use Rattle.far_io.specs.Faults.{Follows}
use Rattle.far_io.proofs.lines.read_line.Given as goal

abbrev pub invariant-pieces : goal.invariant-pieces
invariant-pieces g l = record {
  same : in_front l.line.ahead (g.S.Source.left l.source) ≡ in_front l.initial.line.ahead (g.S.Source.left l.initial.source);
  limit : l.line.limit ≡ l.initial.line.limit;
  number : l.line.number ≡ l.initial.line.number;
  going : l.line.ended ≡ false;
  faults : Follows (g.S.Source.faults l.initial.source) (g.S.Source.faults l.source);
  at_once : AnswersAtOnce l.initial.line → (l.source ≡ l.initial.source) × (l.line ≡ l.initial.line);
}

abbrev pub decreases-pieces : goal.decreases-pieces
decreases-pieces g l = l.limit + 65536 - length l.line.ahead
