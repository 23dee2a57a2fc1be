use Rattle.std.proofs.Common.{◌≡◌, ℕ, List, true, false, is_some, refl, sym, ap, ◌∙◌}
use Rattle.std.specs.FinMap.{find}
use Rattle.far_words.specs.Paths.{bytes_cmp}
use Rattle.lease_tree.specs.Under.{is_along, is_under}
use Rattle.lease_tree.specs.Leases.{Ends, changed, changed_where}
use Rattle.lease_tree.specs.declared.lease.Change.TheVariants.{Raise}
use Rattle.lease_tree.specs.Names.{Names}
use Rattle.lease_tree.specs.Trees.{raised}
use Rattle.lease_tree.proofs.Joins.{Are, are_seen, are_changed, of_same, joined_are}
use Rattle.lease_tree.proofs.Refusals.{there, none_is}
use Rattle.lease_tree.proofs.Repeats.{renewed-twice}
use Rattle.lease_tree.proofs.tree.Tree.renew.Goals as goal

-- the leases are raised under the path and then along it
raised_both : {B : Type 0} (path : List ℕ) (end : ℕ) (names : Names B) (bodies : List (List ℕ × B)) (ends under along : Ends) → Are names bodies ends → under ≡ changed_where (is_under path) (changed (Raise end)) ends
    → along ≡ changed_where (is_along path) (changed (Raise end)) under → Are (changed_where (is_along path) (raised end) (changed_where (is_under path) (raised end) names)) bodies along
raised_both path end names bodies ends under along a is is2 =
    are_changed (is_along path) (changed (Raise end)) (raised end) (λ name. refl) (λ name. refl) (changed_where (is_under path) (raised end) names) bodies under along
    (are_changed (is_under path) (changed (Raise end)) (raised end) (λ name. refl) (λ name. refl) names bodies ends under a is) is2

pub returns-then-not-contains_key-clause-refused : goal.returns-then-not-contains_key-clause-refused
returns-then-not-contains_key-clause-refused g c =
    let i = c.self.inside in
    let a = are_seen c.args.self.now i.bodies.entries i.leases c.self.view_is c.self.invariant in
    let none = none_is (find bytes_cmp c.args.path.now c.args.self.now) (there c.args.path.now c.args.self.now i.bodies.entries i.leases a ∙ sym c.if-not-contains_key.ensures) in
    ((λ _. none), (λ _. refl))

pub invariant_of-self : goal.invariant_of-self
invariant_of-self g c =
    let i = c.self.inside in
    let a = are_seen c.args.self.now i.bodies.entries i.leases c.self.view_is c.self.invariant in
    of_same _ _ _ (raised_both c.args.path.now c.args.end c.args.self.now i.bodies.entries i.leases c.raise_under.new.self c.raise_along.new.self a c.raise_under.ensures c.raise_along.ensures)

pub returns-clause-ok : goal.returns-clause-ok
returns-clause-ok g c =
    let i = c.self.inside in
    let a = are_seen c.args.self.now i.bodies.entries i.leases c.self.view_is c.self.invariant in
    joined_are _ _ _ (raised_both c.args.path.now c.args.end c.args.self.now i.bodies.entries i.leases c.raise_under.new.self c.raise_along.new.self a c.raise_under.ensures c.raise_along.ensures)
    ∙ renewed-twice c.args.path.now c.args.end c.args.self.now

pub returns-clause-refused : goal.returns-clause-refused
returns-clause-refused g c =
    let i = c.self.inside in
    let a = are_seen c.args.self.now i.bodies.entries i.leases c.self.view_is c.self.invariant in
    let here : is_some (find bytes_cmp c.args.path.now c.args.self.now) ≡ true = there c.args.path.now c.args.self.now i.bodies.entries i.leases a ∙ sym c.if-not-contains_key.ensures in
    ((λ bad. absurd (let no : false ≡ true = bad in cc)), (λ none. sym (ap is_some none) ∙ here))
