use Rattle.std.proofs.Common.{[], subst}
use Rattle.lease_tree.specs.Leases.{Ends, IsBetween, entry_of}
use Rattle.lease_tree.proofs.Between.{left_outer}
use Rattle.lease_tree.proofs.leases.Leases.+split_first.Goals as goal

pub returns-in-Some-clause-above : goal.returns-in-Some-clause-above
returns-in-Some-clause-above t c =
    let top = c.in_ok-top.top in
    let first = entry_of c.in-Some.first.value in
    let at = subst (λ (l : Ends). IsBetween top.knot.value.path l top.right) c.in-Some.ensures.some c.in_ok-top.ensures.some.between in
    rw c.balance.ensures (left_outer [] first c.in-Some.rest (entry_of top.knot.value) top.right at (record { below = tt; above = c.in-Some.ensures.above })).above
