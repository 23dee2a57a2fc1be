use Rattle.std.proofs.Common.{◌≡◌, ℕ, List, ◌+◌, ◌<◌, length, sym, ap, ◌∙◌, arith, Some, None}
use Rattle.std.specs.declared.option.Option.{Option}
use Rattle.std.specs.Option.{option_map_or}
use Rattle.far_words.specs.Paths.{parent_of}
use Rattle.lease_tree.specs.Under.{is_same, is_along}
use Rattle.lease_tree.specs.Leases.{Ends, changed, changed_where}
use Rattle.lease_tree.specs.declared.lease.Change.TheVariants.{Raise}
use Rattle.lease_tree.proofs.Ancestors.{along_some, shorter_parent}
use Rattle.lease_tree.proofs.Repeats.{changed-along, changed-never, raised-again}
use Rattle.lease_tree.proofs.leases.Leases.raise_along.Goals as goal

-- after a name was changed, what is left stands along its parent
one_step : (end : ℕ) (path : List ℕ) (next : Option (List ℕ)) (ends new : Ends) → new ≡ changed_where (is_same path) (changed (Raise end)) ends → next ≡ parent_of path → changed_where (along_some next) (changed (Raise end)) new ≡ changed_where (is_along path) (changed (Raise end)) ends
one_step end path next ends new is parent =
    (λ i. changed_where (along_some (parent i)) (changed (Raise end)) (is i)) ∙ changed-along (changed (Raise end)) (raised-again end) path ends

pub loop-next-init : goal.loop-next-init
loop-next-init c = one_step c.args.end c.args.path.now c.parent-next.result c.args.self.now c.change.new.self c.change.ensures c.parent-next.ensures

fewer : (path : List ℕ) (next : Option (List ℕ)) → next ≡ parent_of path → option_map_or (λ (p : List ℕ). length p + 1) next 0 < length path + 1
fewer path next parent = elim next as (λ (o : Option (List ℕ)). o ≡ parent_of path → option_map_or (λ (p : List ℕ). length p + 1) o 0 < length path + 1) [
  | None ↦ λ is. omega arith
  | Some p ↦ λ is. let less = shorter_parent path p (sym is) in omega (arith, less)
] parent

pub loop-next-smaller : goal.loop-next-smaller
loop-next-smaller c = rw c.in-Some.is (fewer c.in-Some.parent c.parent-next-in-Some.result c.parent-next-in-Some.ensures)

pub loop-next-preserved : goal.loop-next-preserved
loop-next-preserved c =
    one_step c.args.end c.in-Some.parent c.parent-next-in-Some.result c.loop-next.self c.change-in-Some.new.self c.change-in-Some.ensures c.parent-next-in-Some.ensures
    ∙ ap (λ (o : Option (List ℕ)). changed_where (along_some o) (changed (Raise c.args.end)) c.loop-next.self) (sym c.in-Some.is)
    ∙ c.loop-next.invariant

pub returns : goal.returns
returns c =
    sym (changed-never (changed (Raise c.args.end)) c.loop-next.self)
    ∙ ap (λ (o : Option (List ℕ)). changed_where (along_some o) (changed (Raise c.args.end)) c.loop-next.self) (sym c.in_default.is)
    ∙ c.loop-next.invariant
