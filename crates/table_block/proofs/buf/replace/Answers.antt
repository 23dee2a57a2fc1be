use Rattle.std.proofs.Common.{◌+◌, ◌<◌, ◌++◌, length, take, drop, ap, ◌∙◌, arith}
use Rattle.table_block.specs.Bufs.{BufView}
use Rattle.table_block.proofs.Edits.{replaced}
use Rattle.table_block.proofs.Finding.{spot_within}
use Rattle.table_block.proofs.buf.replace.Goals as goal

pub move_tail-requires-clause-within : goal.move_tail-requires-clause-within
move_tail-requires-clause-within c = (spot_within c.args.buf.now.bytes c.args.spot.now c.requires.found).end

pub write-requires : goal.write-requires
write-requires c = let within = spot_within c.args.buf.now.bytes c.args.spot.now c.requires.found in omega (arith, within.end)

pub overflow_cast-value : goal.overflow_cast-value
overflow_cast-value c =
    let within = spot_within c.args.buf.now.bytes c.args.spot.now c.requires.found in
    omega (arith, within.key, within.end, c.move_tail.ensures.limit.0, c.move_tail.ensures.limit.1)

-- the count stands before the value
pub write-requires-2 : goal.write-requires-2
write-requires-2 c =
    let within = spot_within c.args.buf.now.bytes c.args.spot.now c.requires.found in
    omega (arith, within.key, within.end, c.write.ensures.len, ap length c.to_be_bytes.ensures)

pub returns-clause-block : goal.returns-clause-block
returns-clause-block c = λ before this after is.
    let within = spot_within c.args.buf.now.bytes c.args.spot.now c.requires.found in
    let fits : length c.args.value.now < 65536 = omega (arith, within.key, within.end, c.move_tail.ensures.limit.0, c.move_tail.ensures.limit.1) in
    let counted = ap (λ (v : BufView). v.bytes) c.write-2.ensures.bytes in
    replaced c.args.buf.now.bytes c.args.spot.now before this after is
    c.move_tail.new.self.bytes c.write.new.self.bytes c.write-2.new.self.bytes c.args.value.now fits
    c.move_tail.ensures.front c.move_tail.ensures.tail (ap (λ (v : BufView). v.bytes) c.write.ensures.bytes)
    (counted ∙ (λ i. take (c.args.spot.now.at + 2) c.write.new.self.bytes ++ c.to_be_bytes.ensures i ++ drop (c.args.spot.now.at + 2 + length (c.to_be_bytes.ensures i)) c.write.new.self.bytes))
