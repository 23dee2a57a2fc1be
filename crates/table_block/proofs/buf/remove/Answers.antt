use Rattle.std.proofs.Common.{arith}
use Rattle.table_block.proofs.Edits.{removed}
use Rattle.table_block.proofs.Finding.{spot_within}
use Rattle.table_block.proofs.buf.remove.Goals as goal

pub move_tail-requires-clause-within : goal.move_tail-requires-clause-within
move_tail-requires-clause-within c = (spot_within c.args.buf.now.bytes c.args.spot.now c.requires).end

pub move_tail-requires-clause-fits : goal.move_tail-requires-clause-fits
move_tail-requires-clause-fits c = λ before. absurd (let within = spot_within c.args.buf.now.bytes c.args.spot.now c.requires in omega (arith, within.key, within.value))

pub returns-clause-block : goal.returns-clause-block
returns-clause-block c = λ before this after is.
    removed c.args.buf.now.bytes c.args.spot.now before this after is c.move_tail.new.self.bytes c.move_tail.ensures.front c.move_tail.ensures.tail
