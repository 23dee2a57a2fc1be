use Rattle.std.proofs.Common.{refl}
use Rattle.far_io.proofs.WriteBufs.{buf_adds, sends_front}
use Rattle.far_io.proofs.write_buf.WriteBuf.pass_on.Goals as goal

pub returns-clause-bytes : goal.returns-clause-bytes
returns-clause-bytes g c =
    let done = c.give_most-done in
    buf_adds g.O.Sink.took _ _ _ refl
    (rw (c.drop_front.ensures) (sends_front g.O.Sink.took _ _ c.args.self.now.room.now done.result.0 (rw (c.bytes.ensures) at done.ensures.bytes)))
