use Rattle.std.proofs.Common.{refl}
use Rattle.far_drill.proofs.Counted.{counts_nothing}
use Rattle.far_drill.proofs.sink.DrillSink.new.Goals as goal

pub returns : goal.returns
returns c = record { counts = counts_nothing _ refl refl c.new.ensures; digest = c.new-2.ensures }
