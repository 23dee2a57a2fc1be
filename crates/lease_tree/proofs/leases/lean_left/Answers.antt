use Rattle.std.proofs.Common.{◌∷◌, ◌++◌, subst}
use Rattle.lease_tree.specs.Leases.{Ends, IsBetween, entry_of}
use Rattle.lease_tree.proofs.Between.{sides}
use Rattle.lease_tree.proofs.Turns.{left_low, left_high, right_low, right_high}
use Rattle.lease_tree.proofs.leases.lean_left.Goals as goal

pub tie-requires-then-height : goal.tie-requires-then-height
tie-requires-then-height c = left_low (entry_of c.args.knot.value) _ _ c.in-Some.outer c.in-Some.ensures.some c.requires

pub tie-requires-then-height-2 : goal.tie-requires-then-height-2
tie-requires-then-height-2 c = rw c.tie-then-height.ensures (left_high (entry_of c.args.knot.value) _ _ c.in-Some.outer c.in-Some.ensures.some c.requires)

pub tie-requires-in_default-untie-2 : goal.tie-requires-in_default-untie-2
tie-requires-in_default-untie-2 c =
    let none = c.in_default-untie.ensures.none in
    rw (c.tie-in_default-untie.ensures, c.new-in_default-untie.ensures)
    (subst (λ (l : Ends). IsBetween c.in-Some.outer.knot.value.path c.in-Some.outer.left (l ++ entry_of c.args.knot.value ∷ c.args.right)) none
    (left_high (entry_of c.args.knot.value) _ _ c.in-Some.outer c.in-Some.ensures.some c.requires))

pub tie-near-requires : goal.tie-near-requires
tie-near-requires c = right_low (entry_of c.in-Some.outer.knot.value) _ _ c.in-Some-untie.inner c.in-Some-untie.ensures.some c.in-Some.ensures.some.between

pub tie-requires-2 : goal.tie-requires-2
tie-requires-2 c =
    left_low (entry_of c.args.knot.value) _ _ c.in-Some-untie.inner c.in-Some-untie.ensures.some
    (left_low (entry_of c.args.knot.value) _ _ c.in-Some.outer c.in-Some.ensures.some c.requires)

pub tie-requires-3 : goal.tie-requires-3
tie-requires-3 c =
    let low = left_low (entry_of c.args.knot.value) _ _ c.in-Some.outer c.in-Some.ensures.some c.requires in
    rw (c.tie-near.ensures, c.tie-2.ensures)
    (sides _ _ _ _ _
    (right_high (entry_of c.in-Some.outer.knot.value) _ _ c.in-Some-untie.inner c.in-Some-untie.ensures.some c.in-Some.ensures.some.between)
    (left_high (entry_of c.args.knot.value) _ _ c.in-Some-untie.inner c.in-Some-untie.ensures.some low))
