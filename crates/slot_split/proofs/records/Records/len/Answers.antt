use Rattle.std.proofs.Common.{ap, arith}
use Rattle.table_block.specs.Records.{records_size}
use Rattle.slot_split.proofs.HeldLaws.{held_size}
use Rattle.slot_split.proofs.records.Records.len.Goals as goal

pub returns-clause-limit : goal.returns-clause-limit
returns-clause-limit c =
    let inside = c.self.inside in
    omega (arith, held_size inside.bytes.items inside.spots.items c.self.invariant, ap records_size c.self.view_is, c.self.invariant.few)
