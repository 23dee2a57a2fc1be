use Rattle.std.proofs.Common.{◌≡◌, ℕ, is_some, cond, ap, arith, inl}
use Rattle.std.specs.declared.option.Option.{Option}
use Rattle.std.specs.FinMap.{find}
use Rattle.std.specs.Ordering.{nat_cmp}
use Rattle.block_seats.specs.Blocks.{BlockView}
use Rattle.block_seats.proofs.seating.Seating.add.Goals as goal

pub seat-requires-clause-number : goal.seat-requires-clause-number
seat-requires-clause-number c = inl (c.next_number-block.ensures.room c.requires.number)

pub returns-clause-spare : goal.returns-clause-spare
returns-clause-spare c =
    let one : cond {A = ℕ} (is_some (find nat_cmp c.next_number-block.result c.args.self.now.blocks)) 0 1 ≡ 1
    = ap (λ (o : Option BlockView). cond {A = ℕ} (is_some o) 0 1) c.next_number-block.ensures.number.fresh in
    omega (arith, c.seat.ensures.spare)
