use Rattle.std.proofs.Common.{◌++◌, ◌∙◌, ap, length, length-append, arith}
use Rattle.table_block.specs.Records.{spelling}
use Rattle.table_block.proofs.Spelling.{length-spelling}
use Rattle.table_block.proofs.Edits.{added}
use Rattle.table_block.proofs.buf.put_record.Goals as goal

pub returns-clause-items : goal.returns-clause-items
returns-clause-items c =
    let first = c.put.ensures.items ∙ (λ i. c.args.bytes.now.items ++ c.to_be_bytes.ensures i) in
    let second = c.put-2.ensures.items ∙ (λ i. first i ++ c.to_be_bytes-2.ensures i) in
    let third = c.put-3.ensures.items ∙ (λ i. second i ++ c.args.key.now) in
    c.put-4.ensures.items ∙ (λ i. third i ++ c.args.value.now) ∙ added c.args.bytes.now.items c.args.key.now c.args.value.now

pub returns-clause-len : goal.returns-clause-len
returns-clause-len c =
    omega (arith, ap length (returns-clause-items c), length-append c.args.bytes.now.items (spelling (c.args.key.now, c.args.value.now)), length-spelling (c.args.key.now, c.args.value.now))
