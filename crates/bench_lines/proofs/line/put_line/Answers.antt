use Rattle.std.proofs.Common.{◌∷◌, [], ap}
use Rattle.std.specs.List.{flat_map}
use Rattle.std.proofs.lemmas.List.{take_all}
use Rattle.std.proofs.lemmas.Result.{on_ok_weaker}
use Rattle.far_io.proofs.Adds.{adds_nothing, adds_more, adds_equal}
use Rattle.bench_lines.specs.Lines.{figure_of}
use Rattle.bench_lines.proofs.line.put_line.Goals as goal

pub loop-figure-init : goal.loop-figure-init
loop-figure-init g c = adds_nothing g.O.Sink.took c.put_all.new.sink

pub returns : goal.returns
returns g c =
    let figures = adds_equal g.O.Sink.took _ _ _ _ (ap (flat_map figure_of) (take_all c.loop-figure.figure-index c.args.figures.now c.loop-figure-test.false)) c.loop-figure.invariant in
    on_ok_weaker c.put_all-2.result (adds_more g.O.Sink.took _ _ _ _ (10 ∷ []) (adds_more g.O.Sink.took _ _ _ _ _ c.in_ok-put_all.ensures.all figures)) c.put_all-2.ensures.all
