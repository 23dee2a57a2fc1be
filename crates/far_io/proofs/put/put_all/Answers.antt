use Rattle.far_io.proofs.Faults.{on_error}
use Rattle.far_io.proofs.Sends.{prefix_part}
use Rattle.far_io.proofs.put.put_all.Goals as goal

pub returns-clause-prefix : goal.returns-clause-prefix
returns-clause-prefix g c =
    let got = c.give_most-result in
    on_error got.result.1 (prefix_part g.O.Sink.took _ _ c.args.bytes.now got.result.0 got.ensures.bytes)
