use Rattle.std.proofs.Common.{refl, arith}
use Rattle.table_block.proofs.Places.{begins, no_counts, no_texts, has_counts}
use Rattle.table_block.proofs.spots.next_spot.Goals as goal

pub returns-then-left-lt-HEAD-clause-reads : goal.returns-then-left-lt-HEAD-clause-reads
returns-then-left-lt-HEAD-clause-reads c = (omega arith, refl, no_counts c.args.bytes.now c.args.at (omega arith))

pub returns-then-left-key-clause-reads : goal.returns-then-left-key-clause-reads
returns-then-left-key-clause-reads c =
    let k = c.from-key.result in
    let v = c.from-value.result in
    let counts = has_counts c.args.bytes.now c.args.at k v _ _ c.short_at.ensures c.short_at-2.ensures c.short_at.type_inv c.short_at-2.type_inv c.from-key.ensures c.from-value.ensures in
    (omega arith, refl, no_texts c.args.bytes.now c.args.at k v counts (omega arith))

pub returns-clause-reads : goal.returns-clause-reads
returns-clause-reads c =
    let k = c.from-key.result in
    let v = c.from-value.result in
    let counts = has_counts c.args.bytes.now c.args.at k v _ _ c.short_at.ensures c.short_at-2.ensures c.short_at.type_inv c.short_at-2.type_inv c.from-key.ensures c.from-value.ensures in
    begins c.args.bytes.now c.args.at k v counts (omega arith)
