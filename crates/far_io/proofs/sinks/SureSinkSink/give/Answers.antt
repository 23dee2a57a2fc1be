use Rattle.std.proofs.Common.{arith}
use Rattle.std.proofs.lemmas.Grind.{common_steps}
use Rattle.far_io.proofs.Adds.{keeps_more}
use Rattle.far_io.proofs.sinks.SureSinkSink.give.Goals as goal

pub returns-clause-bytes : goal.returns-clause-bytes
returns-clause-bytes c = record { each = λ begun old kept. keeps_more begun.bytes c.args.self.now.bytes _ old _ (grind (arith, common_steps)) kept }
