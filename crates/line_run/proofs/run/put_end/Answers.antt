use Rattle.line_run.specs.Runs.{All}
use Rattle.line_run.proofs.Ends.{puts_less}
use Rattle.line_run.proofs.run.put_end.Goals as goal

pub returns-in-Ok-clause-last : goal.returns-in-Ok-clause-last
returns-in-Ok-clause-last g c = All c.in-Ok.ensures.all

pub returns-in-Err-clause-last : goal.returns-in-Err-clause-last
returns-in-Err-clause-last g c =
    puts_less g.O.Sink.took g.O.Sink.faults c.args.sink.now c.put_last.new.sink _ c.args.why c.after_fault.result c.after_fault.ensures.want c.after_fault.ensures.fault c.in-Err.ensures.prefix c.in-Err.ensures.cause.failed
