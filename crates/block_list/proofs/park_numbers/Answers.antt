use Rattle.std.proofs.Common.{ℕ, take, subst}
use Rattle.std.specs.Prelude.{OnOk, OnErr}
use Rattle.std.proofs.lemmas.List.Sorted.{IsNonDecreasingBy-from_sort}
use Rattle.slice_seq.proofs.Ascending.{ascending_is}
use Rattle.block_list.specs.Lists.{seated_of}
use Rattle.block_list.specs.Growth.{GoOut}
use Rattle.block_list.proofs.There.{there_moved, others_moved}
use Rattle.block_list.proofs.park_numbers.Goals as goal

pub park_blocks-requires : goal.park_blocks-requires
park_blocks-requires g c = there_moved c.args.home.now.seats c.args.numbers.now c.sort_unstable.new.self c.sort_unstable.ensures.permutation c.requires

pub returns-clause-order : goal.returns-clause-order
returns-clause-order g c =
    ascending_is c.args.numbers.now c.sort_unstable.new.self c.sort_unstable.ensures.permutation
    (IsNonDecreasingBy-from_sort (λ n. n) c.sort_unstable.new.self c.sort_unstable.ensures.sorted)

pub returns-clause-ok : goal.returns-clause-ok
returns-clause-ok g c =
    let old = c.args.home.now.seats in
    subst (λ numbers. OnOk c.park_blocks.result (GoOut (seated_of old.purse numbers) old c.park_blocks.new.home.seats)) (returns-clause-order g c) c.park_blocks.ensures.ok

pub returns-clause-err : goal.returns-clause-err
returns-clause-err g c =
    let old = c.args.home.now.seats in
    subst (λ numbers. OnErr c.park_blocks.result ((n : ℕ) × GoOut (take n (seated_of old.purse numbers)) old c.park_blocks.new.home.seats)) (returns-clause-order g c) c.park_blocks.ensures.err

pub returns-clause-others : goal.returns-clause-others
returns-clause-others g c =
    others_moved c.args.home.now.seats.blocks c.park_blocks.new.home.seats.blocks c.args.numbers.now c.sort_unstable.new.self c.sort_unstable.ensures.permutation
    c.park_blocks.ensures.others
