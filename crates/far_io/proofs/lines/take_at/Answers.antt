use Rattle.std.proofs.Common.{◌≡◌, length, arith}
use Rattle.far_io.proofs.Buffers.{taken_at}
use Rattle.far_io.proofs.lines.take_at.Goals as goal

pub returns-clause-bytes : goal.returns-clause-bytes
returns-clause-bytes g c =
    let got = c.take.ensures in
    let long : length c.take.new.out ≡ 65536 = omega arith in
    taken_at _ _ _ c.args.bytes.now c.take.new.out c.args.at c.take.result c.requires long got.bound got.bytes
