use Rattle.std.proofs.Common.{◌∙◌, List, sym, ap, arith}
use Rattle.table_block.specs.Records.{Record}
use Rattle.slot_split.specs.Packing.{with_record}
use Rattle.slot_split.proofs.PackingLaws.{with_records-more}
use Rattle.slot_split.proofs.packing.put_all_first_fit.Goals as goal

pub loop-index-preserved : goal.loop-index-preserved
loop-index-preserved c =
    let key = c.key.result.now in
    let value = c.value.result.now in
    c.in_ok-put_first_fit.ensures
    ∙ ap (λ (bs : List (List Record)). with_record c.args.size bs (key, value)) c.loop-index.invariant
    ∙ sym (with_records-more c.args.size c.args.blocks.now c.args.records.now c.loop-index.index key value (omega arith) c.key.ensures.key c.value.ensures.value)
