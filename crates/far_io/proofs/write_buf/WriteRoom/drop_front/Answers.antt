use Rattle.std.proofs.Common.{arith}
use Rattle.far_io.proofs.Buffers.{front_left}
use Rattle.far_io.proofs.write_buf.WriteRoom.drop_front.Goals as goal

pub returns : goal.returns
returns c =
    let s = c.self.inside in
    front_left s.bytes.items c.args.self.now c.copy_within.new.self.items s.len c.args.count c.self.view_is (omega arith) (omega arith) c.copy_within.ensures.items
