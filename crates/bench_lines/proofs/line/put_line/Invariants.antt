use Rattle.std.proofs.Common.{take}
use Rattle.std.specs.List.{flat_map}
use Rattle.far_io.specs.Adds.{Adds}
use Rattle.bench_lines.specs.Lines.{figure_of}
use Rattle.bench_lines.proofs.line.put_line.Given as goal

abbrev pub invariant-loop-figure : goal.invariant-loop-figure
invariant-loop-figure g l = Adds g.O.Sink.took l.initial.sink l.sink (flat_map figure_of (take l.figure-index l.figures))
