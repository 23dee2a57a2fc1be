use Rattle.std.proofs.Common.{arith}
use Rattle.block_seats.proofs.Seats.{used_and_open}
use Rattle.block_seats.proofs.seating.Seating.used.Goals as goal

pub overflow_sub-result : goal.overflow_sub-result
overflow_sub-result c = omega (arith, c.open.ensures.value, c.granted.ensures, used_and_open c.args.self.now.purse)

pub returns : goal.returns
returns c = omega (arith, c.open.ensures.value, c.granted.ensures, used_and_open c.args.self.now.purse)
