use Rattle.std.proofs.Common.{ℕ, List, sym, subst}
use Rattle.run_end.specs.Why.{end_of}
use Rattle.line_run.specs.Runs.{reading, ComesTo}
use Rattle.line_run.proofs.Ends.{runs_to, own_end}
use Rattle.line_run.proofs.run.run_lines.Goals as goal

pub returns-in_default-why : goal.returns-in_default-why
returns-in_default-why g c =
    let read = reading g.S.Source.left g.S.Source.faults c.args.source.now c.take_gathered.new.source in
    let comes = subst (λ (line : List ℕ). ComesTo g.T.LineTaker.rules read g.O.Sink.took c.args.sink.now c.take_gathered.new.sink c.args.taker.now c.take_gathered.new.taker (end_of c.in-Ok.why) (g.T.LineTaker.last_text c.take_gathered.new.taker line c.in-Ok.why))
    (sym c.bytes.ensures) c.in-Ok.ensures.comes in
    runs_to g.T.LineTaker.rules read g.O.Sink.took g.O.Sink.faults c.args.sink.now c.take_gathered.new.sink c.put_end.new.sink c.args.taker.now c.take_gathered.new.taker (end_of c.in-Ok.why) _ comes c.in-Ok.ensures.source
    (end_of c.put_end.result) (own_end c.in-Ok.why c.in_default-why.not-ReadFault comes.how) c.put_end.ensures.last c.in-Ok.ensures.cause.follows c.put_end.ensures.faults
