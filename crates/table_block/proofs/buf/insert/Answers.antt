use Rattle.std.proofs.Common.{◌≤◌, ap, ◌∙◌, ◌++◌, arith}
use Rattle.table_block.specs.Bufs.{BufView}
use Rattle.table_block.specs.Records.{spelling}
use Rattle.table_block.proofs.Edits.{inserted}
use Rattle.table_block.proofs.buf.insert.Goals as goal

pub returns-clause-block : goal.returns-clause-block
returns-clause-block c = λ records is.
    let bytes_are = ap (λ (v : BufView). v.bytes) c.buf.view_is in
    let size_is = ap (λ (v : BufView). v.size) c.buf.view_is in
    let limit : c.args.buf.now.size ≤ 65536 = omega (arith, size_is) in
    inserted c.args.buf.now.bytes c.put_record.new.bytes.items c.args.key.now c.args.value.now records (omega (arith, limit)) (omega (arith, limit))
    (c.put_record.ensures.items ∙ ap (λ t. t ++ spelling (c.args.key.now, c.args.value.now)) bytes_are) is
