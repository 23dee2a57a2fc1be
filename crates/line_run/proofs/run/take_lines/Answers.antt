use Rattle.std.proofs.Common.{ℕ, ◌<◌, ◌≤◌, List, length, Err, refl, sym, ◌∙◌, ap, subst}
use Rattle.far_io.specs.LineView.{LineView, AgreesOnEnd}
use Rattle.far_io.proofs.Faults.{follows_itself, follows_on, rose_before, on_error}
use Rattle.run_end.specs.Why.{end_of}
use Rattle.run_end.specs.declared.TheConstants.{MOST_LINE}
use Rattle.run_end.specs.declared.why.Why.TheVariants.{ReadFault}
use Rattle.line_run.specs.LineRules.{TakesLine, BreaksWithinLine, StopsAtLine}
use Rattle.line_run.specs.Runs.{reading}
use Rattle.line_run.proofs.SoFar.{starts, after_pass, comes_to_stop, comes_to_stop_unsent, comes_to_over, comes_to_fault, breaks_before, breaks_within, goes_on, next_line, long_line}
use Rattle.line_run.proofs.Writes.{unmoved}
use Rattle.line_run.proofs.run.take_lines.Goals as goal

pub lines-init : goal.lines-init
lines-init g c = record {
  so_far = starts g.T.LineTaker.rules g.B.Sink.took c.args.out.now _ c.args.taker.now c.args.line.now.ended c.args.line.now.ahead c.requires.fresh;
  quiet = λ quiet empty. refl;
  holds = c.requires.holds;
  limit = c.requires.limit;
  agrees = λ ended. absurd (cc (c.requires.going));
  source = follows_itself _;
  sink = follows_itself _;
}

pub returns-in_err-pass_on_before_wait-clause-breaks : goal.returns-in_err-pass_on_before_wait-clause-breaks
returns-in_err-pass_on_before_wait-clause-breaks g c =
    on_error c.from_residual.result
    (breaks_before g.T.LineTaker.rules g.B.Sink.took c.args.out.now c.lines.out _ _ c.args.taker.now c.lines.taker _ c.lines.invariant.so_far (reading g.S.Source.left g.S.Source.faults c.args.source.now c.lines.source) g.B.Sink.faults c.pass_on_before_wait.new.out refl
    c.in_err-pass_on_before_wait.ensures.bytes (rose_before _ _ _ c.lines.invariant.sink c.in_err-pass_on_before_wait.ensures.cause.failed))

pub at_end-requires : goal.at_end-requires
at_end-requires g c = c.lines.invariant.holds

pub at_long_line-requires : goal.at_long_line-requires
at_long_line-requires g c = c.lines.invariant.holds

pub take_line-requires-clause-short : goal.take_line-requires-clause-short
take_line-requires-clause-short g c =
    let limit = ap (λ (l : LineView). l.limit) c.in_ok-pass_on_before_wait.ensures.kept ∙ c.lines.invariant.limit in
    subst (λ (line : List ℕ). length line ≤ MOST_LINE) (sym c.bytes.ensures) (subst (λ n. length c.read_line.new.line.line ≤ n) limit c.in-Ok.ensures.read.fits)

pub returns-in-Err-End-clause-comes : goal.returns-in-Err-End-clause-comes
returns-in-Err-End-clause-comes g c =
    let so_far = after_pass g.T.LineTaker.rules g.B.Sink.took c.args.out.now c.lines.out c.pass_on_before_wait.new.out _ _ c.args.taker.now c.lines.taker c.lines.line c.pass_on_before_wait.new.line
    c.lines.invariant.so_far c.in_ok-pass_on_before_wait.ensures.bytes c.in_ok-pass_on_before_wait.ensures.kept in
    let agrees = subst (λ (line : LineView). AgreesOnEnd line (g.S.Source.left c.lines.source)) (sym c.in_ok-pass_on_before_wait.ensures.kept) c.lines.invariant.agrees in
    let empty = c.in-Err-End.ensures.end (ap Err c.in-Err-End.field-0-is) agrees in
    let read = rw c.in-Err-End.field-0-is at c.in-Err-End.ensures.read in
    comes_to_over g.T.LineTaker.rules g.B.Sink.took _ _ _ _ c.args.taker.now c.lines.taker _ so_far (reading g.S.Source.left g.S.Source.faults c.args.source.now c.read_line.new.source) (end_of c.at_end.result) _ refl c.at_end.ensures.own
    (c.at_end.ensures.over c.read_line.new.line.line) empty (c.in-Err-End.ensures.agrees agrees read.ended)

pub returns-in-Err-ReadFault-clause-comes : goal.returns-in-Err-ReadFault-clause-comes
returns-in-Err-ReadFault-clause-comes g c =
    let so_far = after_pass g.T.LineTaker.rules g.B.Sink.took c.args.out.now c.lines.out c.pass_on_before_wait.new.out _ _ c.args.taker.now c.lines.taker c.lines.line c.pass_on_before_wait.new.line
    c.lines.invariant.so_far c.in_ok-pass_on_before_wait.ensures.bytes c.in_ok-pass_on_before_wait.ensures.kept in
    let limit = ap (λ (l : LineView). l.limit) c.in_ok-pass_on_before_wait.ensures.kept ∙ c.lines.invariant.limit in
    let read = rw c.in-Err-ReadFault.field-0-is at c.in-Err-ReadFault.ensures.read in
    comes_to_fault g.T.LineTaker.rules g.B.Sink.took _ _ _ _ c.args.taker.now c.lines.taker _ so_far (reading g.S.Source.left g.S.Source.faults c.args.source.now c.read_line.new.source) (end_of ReadFault) _ c.pass_on_before_wait.new.line c.read_line.new.line refl refl limit read.going read

pub returns-in-Err-TooLong-clause-comes : goal.returns-in-Err-TooLong-clause-comes
returns-in-Err-TooLong-clause-comes g c =
    let so_far = after_pass g.T.LineTaker.rules g.B.Sink.took c.args.out.now c.lines.out c.pass_on_before_wait.new.out _ _ c.args.taker.now c.lines.taker c.lines.line c.pass_on_before_wait.new.line
    c.lines.invariant.so_far c.in_ok-pass_on_before_wait.ensures.bytes c.in_ok-pass_on_before_wait.ensures.kept in
    let limit = ap (λ (l : LineView). l.limit) c.in_ok-pass_on_before_wait.ensures.kept ∙ c.lines.invariant.limit in
    let read = rw c.in-Err-TooLong.field-0-is at c.in-Err-TooLong.ensures.read in
    let long = long_line _ _ _ _ _ read in
    comes_to_stop g.T.LineTaker.rules g.B.Sink.took _ _ _ _ c.args.taker.now c.lines.taker _ so_far (reading g.S.Source.left g.S.Source.faults c.args.source.now _) long.0 (end_of c.at_long_line.result) _ c.lines.taker refl c.at_long_line.ensures.own
    (c.at_long_line.ensures.stops long.0 c.read_line.new.line.line (subst (λ n. n < length long.0) (read.limit_is ∙ limit) long.1)) long.2

pub returns-in_err-take_line-clause-breaks : goal.returns-in_err-take_line-clause-breaks
returns-in_err-take_line-clause-breaks g c =
    let so_far = after_pass g.T.LineTaker.rules g.B.Sink.took c.args.out.now c.lines.out c.pass_on_before_wait.new.out _ _ c.args.taker.now c.lines.taker c.lines.line c.pass_on_before_wait.new.line
    c.lines.invariant.so_far c.in_ok-pass_on_before_wait.ensures.bytes c.in_ok-pass_on_before_wait.ensures.kept in
    let broken = subst (λ (line : List ℕ). BreaksWithinLine g.T.LineTaker.rules g.B.Sink.took c.pass_on_before_wait.new.out c.take_line.new.sink c.lines.taker c.take_line.new.self line) c.bytes.ensures c.in_err-take_line.ensures.comes in
    on_error c.from_residual-in_err-take_line.result
    (breaks_within g.T.LineTaker.rules g.B.Sink.took _ _ _ _ c.args.taker.now c.lines.taker _ so_far _ _ _ c.in-Ok.ensures.read broken.text c.take_line.new.self broken.takes (reading g.S.Source.left g.S.Source.faults c.args.source.now c.read_line.new.source) g.B.Sink.faults c.take_line.new.sink refl broken.adds
    (rose_before _ _ _ (follows_on _ _ _ c.lines.invariant.sink c.in_ok-pass_on_before_wait.ensures.cause.follows) c.in_err-take_line.ensures.cause.failed))

pub returns-in-Some-clause-comes : goal.returns-in-Some-clause-comes
returns-in-Some-clause-comes g c =
    let so_far = after_pass g.T.LineTaker.rules g.B.Sink.took c.args.out.now c.lines.out c.pass_on_before_wait.new.out _ _ c.args.taker.now c.lines.taker c.lines.line c.pass_on_before_wait.new.line
    c.lines.invariant.so_far c.in_ok-pass_on_before_wait.ensures.bytes c.in_ok-pass_on_before_wait.ensures.kept in
    let comes = rw c.in-Some.is at c.in_ok-take_line.ensures.comes in
    let P : List ℕ → Type 0 = λ line. StopsAtLine g.T.LineTaker.rules c.pass_on_before_wait.new.out c.take_line.new.sink c.lines.taker c.take_line.new.self line (end_of c.in-Some.why) (g.T.LineTaker.last_text c.take_line.new.self line c.in-Some.why) in
    let stop = subst P c.bytes.ensures comes in
    comes_to_stop_unsent g.T.LineTaker.rules g.B.Sink.took _ _ _ _ c.args.taker.now c.lines.taker _ so_far (reading g.S.Source.left g.S.Source.faults c.args.source.now _) c.read_line.new.line.line
    (end_of c.in-Some.why) _ c.take_line.new.self c.take_line.new.sink stop.unsent refl stop.own stop.stops (next_line _ _ _ _ c.in-Ok.ensures.read)

pub lines-preserved : goal.lines-preserved
lines-preserved g c =
    let so_far = after_pass g.T.LineTaker.rules g.B.Sink.took c.args.out.now c.lines.out c.pass_on_before_wait.new.out _ _ c.args.taker.now c.lines.taker c.lines.line c.pass_on_before_wait.new.line
    c.lines.invariant.so_far c.in_ok-pass_on_before_wait.ensures.bytes c.in_ok-pass_on_before_wait.ensures.kept in
    let comes = rw c.in-None.is at c.in_ok-take_line.ensures.comes in
    let taken = subst (λ (line : List ℕ). TakesLine g.T.LineTaker.rules g.B.Sink.took c.pass_on_before_wait.new.out c.take_line.new.sink c.lines.taker c.take_line.new.self line) c.bytes.ensures comes in
    let kept = c.in_ok-pass_on_before_wait.ensures.kept in
    record {
      so_far = goes_on g.T.LineTaker.rules g.B.Sink.took _ _ _ _ c.args.taker.now c.lines.taker _ so_far _ _ _ c.in-Ok.ensures.read taken.text c.take_line.new.self taken.takes c.take_line.new.sink c.in-Ok.ensures.read.going taken.adds;
      quiet = λ quiet empty. c.in_ok-take_line.ensures.quiet quiet ∙ unmoved g.B.PassesOn.is_empty _ _ _ (c.lines.invariant.quiet quiet empty) empty c.in_ok-pass_on_before_wait.ensures.still;
      holds = c.in_ok-take_line.ensures.holds;
      limit = c.in-Ok.ensures.limit ∙ ap (λ (l : LineView). l.limit) kept ∙ c.lines.invariant.limit;
      agrees = c.in-Ok.ensures.agrees (subst (λ (line : LineView). AgreesOnEnd line (g.S.Source.left c.lines.source)) (sym kept) c.lines.invariant.agrees);
      source = follows_on _ _ _ c.lines.invariant.source c.in-Ok.ensures.faults;
      sink = follows_on _ _ _ (follows_on _ _ _ c.lines.invariant.sink c.in_ok-pass_on_before_wait.ensures.cause.follows) c.in_ok-take_line.ensures.cause.follows;
    }
