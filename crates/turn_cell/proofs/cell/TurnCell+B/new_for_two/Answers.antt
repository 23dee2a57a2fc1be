use Rattle.std.proofs.Common.{◌≡◌, ◌≤◌, [], ◌∷◌, refl, ap, sym, ◌∙◌, subst, inl, ⊎_elim, arith}
use Rattle.turn_cell.specs.declared.cell.TheConstants.{MOST_PASSES}
use Rattle.turn_cell.specs.History.{In}
use Rattle.turn_cell.proofs.cell.TurnCell+B.new_for_two.Goals as goal

pub unreachable-requires : goal.unreachable-requires
unreachable-requires g c =
    let names : c.split.new.self.names ≡ 0 ∷ [] = ap (λ p. p.names) c.in_default.ensures.same ∙ ap (λ p. p.names) c.in_ok-cell.ensures.first in
    let high : MOST_PASSES ≤ c.split.new.self.found = c.in_default.ensures.exactly in
    let low : 1073741824 ≤ c.split.new.self.found = high in
    let one : In 1 (0 ∷ []) = subst (In 1) names (c.close.ensures.drawn 1 (omega (arith, low)) (omega arith)) in
    ⊎_elim (λ (e : 1 ≡ 0). omega (arith, e)) (λ (b : ⊥). b) one

pub returns-clause-apart : goal.returns-clause-apart
returns-clause-apart g c =
    let names : c.in_ok-cell.first.names ≡ 0 ∷ [] = ap (λ p. p.names) c.in_ok-cell.ensures.first in
    c.in-Ok.ensures.fresh 0 (inl (subst (In 0) (sym names) (inl refl)))
