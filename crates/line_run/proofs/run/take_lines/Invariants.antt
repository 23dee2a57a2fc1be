use Rattle.std.proofs.Common.{◌≡◌}
use Rattle.far_io.specs.Left.{in_front}
use Rattle.far_io.specs.LineView.{AgreesOnEnd}
use Rattle.far_io.specs.Faults.{Follows}
use Rattle.run_end.specs.declared.TheConstants.{MOST_LINE}
use Rattle.line_run.proofs.SoFar.{SoFar}
use Rattle.line_run.proofs.run.take_lines.Given as goal

abbrev pub invariant-lines : goal.invariant-lines
invariant-lines g l = record {
  so_far : SoFar g.T.LineTaker.rules g.B.Sink.took l.initial.out l.out (g.S.Source.left l.initial.source) (in_front l.line.ahead (g.S.Source.left l.source))
      l.initial.taker l.taker l.line.ended;
  quiet : g.T.LineTaker.rules.quiet → g.B.PassesOn.is_empty l.initial.out → l.out ≡ l.initial.out;
  holds : g.T.LineTaker.holds l.taker;
  limit : l.line.limit ≡ MOST_LINE;
  agrees : AgreesOnEnd l.line (g.S.Source.left l.source);
  source : Follows (g.S.Source.faults l.initial.source) (g.S.Source.faults l.source);
  sink : Follows (g.B.Sink.faults l.initial.out) (g.B.Sink.faults l.out);
}

abbrev pub decreases-lines : goal.decreases-lines
decreases-lines g l = g.T.LineTaker.lines_left l.taker
