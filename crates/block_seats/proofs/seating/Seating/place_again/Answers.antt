use Rattle.std.proofs.Common.{◌≡◌, ℕ, Bool, cond, is_some, inr, ap, arith}
use Rattle.std.specs.FinMap.{find}
use Rattle.std.specs.Ordering.{nat_cmp}
use Rattle.block_seats.proofs.seating.Seating.place_again.Goals as goal

pub seat-requires-clause-number : goal.seat-requires-clause-number
seat-requires-clause-number c = inr c.requires.there

pub returns-clause-spare : goal.returns-clause-spare
returns-clause-spare c =
    let none : cond {A = ℕ} (is_some (find nat_cmp c.args.block c.args.self.now.blocks)) 0 1 ≡ 0 = ap (λ (b : Bool). cond {A = ℕ} b 0 1) c.requires.there in
    omega (arith, none, c.seat.ensures.spare)
