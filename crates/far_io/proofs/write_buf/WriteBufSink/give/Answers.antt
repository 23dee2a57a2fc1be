use Rattle.std.proofs.Common.{[], length, take, refl, sym}
use Rattle.std.proofs.Math.Seq.{take-length}
use Rattle.far_io.specs.WriteBuf.{BufTook}
use Rattle.far_io.proofs.Adds.{adds_more, adds_equal}
use Rattle.far_io.proofs.Sends.{sends_held}
use Rattle.far_io.proofs.WriteBufs.{buf_adds, sends_past}
use Rattle.far_io.proofs.write_buf.WriteBufSink.give.Goals as goal

pub returns-then-bytes-ge-ROOM-clause-bytes : goal.returns-then-bytes-ge-ROOM-clause-bytes
returns-then-bytes-ge-ROOM-clause-bytes g c =
    let took = g.O.Sink.took in
    let passed = c.in_ok-pass_on.ensures in
    adds_more (BufTook took) _ _ _ [] _ passed.bytes (buf_adds took _ _ _ refl (sends_past took _ _ c.pass_on.new.self.room.now _ passed.empty c.give.ensures.bytes))

pub returns-clause-bytes : goal.returns-clause-bytes
returns-clause-bytes g c =
    let took = g.O.Sink.took in
    let bytes = c.args.bytes.now in
    adds_more (BufTook took) _ _ _ [] _ c.in_ok-make_room.ensures.bytes
    (adds_equal (BufTook took) _ _ bytes (take (length bytes) bytes) (sym (take-length bytes)) (buf_adds took _ _ _ refl (sends_held took _ _ _ _ c.push_all.ensures)))
