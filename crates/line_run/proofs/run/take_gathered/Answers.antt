use Rattle.std.proofs.Common.{Ok, sym, ◌∙◌}
use Rattle.far_io.specs.declared.write_buf.WriteBuf.{WriteBuf}
use Rattle.far_io.specs.WriteBuf.{BufTook}
use Rattle.far_io.proofs.Adds.{adds_more}
use Rattle.far_io.proofs.Faults.{follows_on, rose_before, on_error}
use Rattle.far_io.proofs.WriteBufs.{stays_in_front, cause_passed_on}
use Rattle.run_end.specs.Why.{end_of}
use Rattle.line_run.specs.Runs.{reading}
use Rattle.line_run.proofs.Gathered.{gathered_breaks, gathered_comes, breaks_at_end, comes_passed_on}
use Rattle.line_run.proofs.run.take_gathered.Goals as goal

pub returns-in_err-why-clause-breaks : goal.returns-in_err-why-clause-breaks
returns-in_err-why-clause-breaks g c =
    let breaks = c.in_err-why.ensures.breaks in
    let front = stays_in_front g.O.Sink.took c.new-out.result c.take_lines.new.out breaks.adds.sent breaks.adds.adds in
    let last = sym (c.sink-1.given.1 (sym (front ∙ c.new-out.ensures.same_sink)) ∙ c.drop-out.ensures) in
    on_error c.from_residual.result
    (gathered_breaks g.T.LineTaker.rules (reading g.S.Source.left g.S.Source.faults c.args.source.now c.take_lines.new.source) g.O.Sink.took g.O.Sink.faults c.args.sink.now _ c.new-out.result c.take_lines.new.out
    c.args.taker.now c.take_lines.new.taker c.new-out.ensures.sink last c.new-out.ensures.empty breaks)

pub returns-in_err-why-clause-cause : goal.returns-in_err-why-clause-cause
returns-in_err-why-clause-cause g c =
    let breaks = c.in_err-why.ensures.breaks in
    let front = stays_in_front g.O.Sink.took c.new-out.result c.take_lines.new.out breaks.adds.sent breaks.adds.adds in
    let last = sym (c.sink-1.given.1 (sym (front ∙ c.new-out.ensures.same_sink)) ∙ c.drop-out.ensures) in
    cause_passed_on g.O.Sink.faults c.args.sink.now _ c.new-out.result c.take_lines.new.out c.from_residual.result c.new-out.ensures.sink last
    (record { follows = c.in_err-why.ensures.cause.follows; failed = on_error c.from_residual.result c.in_err-why.ensures.cause.failed })

pub returns-in_err-pass_on-clause-breaks : goal.returns-in_err-pass_on-clause-breaks
returns-in_err-pass_on-clause-breaks g c =
    let read = reading g.S.Source.left g.S.Source.faults c.args.source.now c.take_lines.new.source in
    let rose = rose_before _ _ _ c.in_ok-why.ensures.cause.follows c.in_err-pass_on.ensures.cause.failed in
    let breaks = breaks_at_end g.T.LineTaker.rules read (BufTook g.O.Sink.took) (λ (b : WriteBuf g.row.O.Denot). g.O.Sink.faults b.sink.now) c.new-out.result c.take_lines.new.out c.pass_on.new.self c.args.taker.now c.take_lines.new.taker
    (end_of c.in_ok-why.why) _ c.in_ok-why.ensures.comes c.in_err-pass_on.ensures.bytes rose in
    let front = stays_in_front g.O.Sink.took c.new-out.result c.pass_on.new.self breaks.adds.sent breaks.adds.adds in
    let last = sym (c.sink-in_err-pass_on-1.given.1 (sym (front ∙ c.new-out.ensures.same_sink)) ∙ c.drop-out-in_err-pass_on.ensures) in
    on_error c.from_residual-in_err-pass_on.result
    (gathered_breaks g.T.LineTaker.rules read g.O.Sink.took g.O.Sink.faults c.args.sink.now _ c.new-out.result c.pass_on.new.self c.args.taker.now c.take_lines.new.taker c.new-out.ensures.sink last c.new-out.ensures.empty breaks)

pub returns-in_err-pass_on-clause-cause : goal.returns-in_err-pass_on-clause-cause
returns-in_err-pass_on-clause-cause g c =
    let comes = c.in_ok-why.ensures.comes in
    let front = stays_in_front g.O.Sink.took c.new-out.result c.pass_on.new.self _ (adds_more (BufTook g.O.Sink.took) c.new-out.result c.take_lines.new.out c.pass_on.new.self _ _ comes.adds c.in_err-pass_on.ensures.bytes) in
    let last = sym (c.sink-in_err-pass_on-1.given.1 (sym (front ∙ c.new-out.ensures.same_sink)) ∙ c.drop-out-in_err-pass_on.ensures) in
    let rose = rose_before _ _ _ c.in_ok-why.ensures.cause.follows c.in_err-pass_on.ensures.cause.failed in
    cause_passed_on g.O.Sink.faults c.args.sink.now _ c.new-out.result c.pass_on.new.self c.from_residual-in_err-pass_on.result c.new-out.ensures.sink last
    (record { follows = follows_on _ _ _ c.in_ok-why.ensures.cause.follows c.in_err-pass_on.ensures.cause.follows; failed = on_error c.from_residual-in_err-pass_on.result rose })

pub returns-clause-comes : goal.returns-clause-comes
returns-clause-comes g c =
    let read = reading g.S.Source.left g.S.Source.faults c.args.source.now c.take_lines.new.source in
    let comes = comes_passed_on g.T.LineTaker.rules read (BufTook g.O.Sink.took) c.new-out.result c.take_lines.new.out c.pass_on.new.self c.args.taker.now c.take_lines.new.taker (end_of c.in_ok-why.why) _ c.in_ok-why.ensures.comes c.in_ok-pass_on.ensures.bytes in
    let front = stays_in_front g.O.Sink.took c.new-out.result c.pass_on.new.self _ comes.adds in
    let last = sym (c.sink-2-1.given.1 (sym (front ∙ c.new-out.ensures.same_sink)) ∙ c.drop-out-2.ensures) in
    gathered_comes g.T.LineTaker.rules read g.O.Sink.took g.O.Sink.faults c.args.sink.now _ c.new-out.result c.pass_on.new.self c.args.taker.now c.take_lines.new.taker c.new-out.ensures.sink last c.new-out.ensures.empty
    (end_of c.in_ok-why.why) _ c.in_ok-pass_on.ensures.empty comes

pub returns-clause-cause : goal.returns-clause-cause
returns-clause-cause g c =
    let comes = c.in_ok-why.ensures.comes in
    let front = stays_in_front g.O.Sink.took c.new-out.result c.pass_on.new.self _ (adds_more (BufTook g.O.Sink.took) c.new-out.result c.take_lines.new.out c.pass_on.new.self _ _ comes.adds c.in_ok-pass_on.ensures.bytes) in
    let last = sym (c.sink-2-1.given.1 (sym (front ∙ c.new-out.ensures.same_sink)) ∙ c.drop-out-2.ensures) in
    cause_passed_on g.O.Sink.faults c.args.sink.now _ c.new-out.result c.pass_on.new.self (Ok c.in_ok-why.why) c.new-out.ensures.sink last
    (record { follows = follows_on _ _ _ c.in_ok-why.ensures.cause.follows c.in_ok-pass_on.ensures.cause.follows; failed = tt })
