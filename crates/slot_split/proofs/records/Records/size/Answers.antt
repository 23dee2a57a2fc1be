use Rattle.std.proofs.Common.{ap, arith}
use Rattle.table_block.specs.Records.{records_size}
use Rattle.slot_split.proofs.HeldLaws.{held_size}
use Rattle.slot_split.proofs.records.Records.size.Goals as goal

pub returns : goal.returns
returns c =
    let inside = c.self.inside in
    omega (arith, held_size inside.bytes.items inside.spots.items c.self.invariant, ap records_size c.self.view_is, inside.bytes.ok.0)
