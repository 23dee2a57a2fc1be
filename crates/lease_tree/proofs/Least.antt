-- The least moment that is due among leases.
use Rattle.std.proofs.Common.{◌≡◌, ℕ, ◌^◌, ◌-◌, ◌≤◌, min, [], ◌∷◌, ◌++◌, sym, ap, ◌∙◌, arith}
use Rattle.std.specs.declared.option.Option.{Option}
use Rattle.lease_tree.specs.Leases.{Ends, due_of, least_due, is_reached}
use Rattle.lease_tree.specs.Untied.{IsTop}
use Rattle.lease_tree.specs.declared.leases.Knot.{Knot}

least_within : (ends : Ends) → least_due ends ≤ 2 ^ 64 - 1
least_within [] = omega arith
least_within (e ∷ ends) = let rest = least_within ends in omega (arith, rest)

pub least-parts : (left : Ends) (e : _) (right : Ends) → least_due (left ++ e ∷ right) ≡ min (min (least_due left) (due_of e.1)) (least_due right)
least-parts [] e right = let rest = least_within right in omega (arith, rest)
least-parts (x ∷ left) e right = let rest = least-parts left e right in omega (arith, rest)

-- whether the least is reached, the knot at the top tells
pub least-top : (ends : Ends) (knot : Knot) (now : Option ℕ) → IsTop ends knot → is_reached now knot.least ≡ is_reached now (least_due ends)
least-top ends knot now top = ap (is_reached now) (top.tied.least ∙ ap least_due (sym top.is))
