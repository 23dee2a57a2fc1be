use Rattle.std.proofs.Common.{◌≡◌, ℕ, List, ap, ◌∙◌}
use Rattle.std.specs.Option.{option_map}
use Rattle.std.specs.FinMap.{find, put}
use Rattle.far_words.specs.Paths.{bytes_cmp}
use Rattle.lease_tree.specs.declared.lease.Lease.{Lease}
use Rattle.lease_tree.specs.Names.{lease_of}
use Rattle.lease_tree.specs.Trees.{made}
use Rattle.lease_tree.proofs.Joins.{are_seen, are_put, of_same, joined_are, found_lease}
use Rattle.lease_tree.proofs.Refusals.{new_is_none}
use Rattle.lease_tree.proofs.tree.Tree.make.Goals as goal

pub put-requires : goal.put-requires
put-requires g c =
    let i = c.self.inside in
    let a = are_seen c.args.self.now i.bodies.entries i.leases c.self.view_is c.self.invariant in
    let path : c.in-Ok.knot.value.path ≡ c.args.path = ap (λ (e : List ℕ × Lease). e.0) c.in-Ok.ensures ∙ c.copy.ensures in
    ap (λ (q : List ℕ). find bytes_cmp q i.leases) path
    ∙ found_lease c.args.path c.args.self.now i.bodies.entries i.leases a
    ∙ ap (option_map lease_of) (new_is_none g.B.HasKind.kind_of c.args.self.now c.args.path c.in_default.ensures.ok)

pub invariant_of-self : goal.invariant_of-self
invariant_of-self g c =
    let i = c.self.inside in
    let a = are_seen c.args.self.now i.bodies.entries i.leases c.self.view_is c.self.invariant in
    let later = c.put.ensures ∙ ap (λ (e : List ℕ × Lease). put bytes_cmp e.0 e.1 i.leases) c.in-Ok.ensures ∙ ap (λ (q : List ℕ). put bytes_cmp q (lease_of (made c.args.end c.args.body)) i.leases) c.copy.ensures in
    of_same _ _ _ (are_put c.args.path (made c.args.end c.args.body) c.args.self.now i.bodies.entries c.insert.new.self.entries i.leases c.put.new.self a c.in-Ok-insert.ensures.entries c.in-Ok-insert.ensures.ordered later)

pub returns-in-Ok-insert-clause-made : goal.returns-in-Ok-insert-clause-made
returns-in-Ok-insert-clause-made g c =
    let i = c.self.inside in
    let a = are_seen c.args.self.now i.bodies.entries i.leases c.self.view_is c.self.invariant in
    let later = c.put.ensures ∙ ap (λ (e : List ℕ × Lease). put bytes_cmp e.0 e.1 i.leases) c.in-Ok.ensures ∙ ap (λ (q : List ℕ). put bytes_cmp q (lease_of (made c.args.end c.args.body)) i.leases) c.copy.ensures in
    joined_are _ _ _ (are_put c.args.path (made c.args.end c.args.body) c.args.self.now i.bodies.entries c.insert.new.self.entries i.leases c.put.new.self a c.in-Ok-insert.ensures.entries c.in-Ok-insert.ensures.ordered later)
