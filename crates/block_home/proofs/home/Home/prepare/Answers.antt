use Rattle.std.proofs.Common.{arith}
use Rattle.block_seats.proofs.Seats.{used_and_open}
use Rattle.block_home.proofs.home.Home.prepare.Goals as goal

pub returns-then-need-from-clause-counts : goal.returns-then-need-from-clause-counts
returns-then-need-from-clause-counts g c = omega (arith, used_and_open c.args.self.now.seats.purse)

pub returns-clause-counts : goal.returns-clause-counts
returns-clause-counts g c = omega (arith, used_and_open c.args.self.now.seats.purse)
