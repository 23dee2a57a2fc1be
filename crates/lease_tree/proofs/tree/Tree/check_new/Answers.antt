use Rattle.std.proofs.Common.{◌≡◌, true, false, cond, is_some, sym, ap, ◌∙◌, Some, None}
use Rattle.std.specs.Option.{option_or}
use Rattle.std.specs.FinMap.{find}
use Rattle.far_words.specs.Paths.{bytes_cmp, parent_of}
use Rattle.lease_tree.specs.Trees.{refused_under}
use Rattle.lease_tree.specs.declared.tree.TreeEnd.TheVariants.{Exists}
use Rattle.lease_tree.proofs.Joins.{are_seen}
use Rattle.lease_tree.proofs.Refusals.{there}
use Rattle.lease_tree.proofs.tree.Tree.check_new.Goals as goal

pub returns-clause-ok : goal.returns-clause-ok
returns-clause-ok g c =
    let i = c.self.inside in
    let names = c.args.self.now in
    let path = c.args.path.now in
    let a = are_seen names i.bodies.entries i.leases c.self.view_is c.self.invariant in
    let dir : refused_under g.B.HasKind.kind_of names (parent_of path) ≡ None = ap (refused_under g.B.HasKind.kind_of names) (sym (c.as_ref.ensures.value ∙ c.parent-parent.ensures)) ∙ c.in_ok-check_under.ensures.ok in
    let new : is_some (find bytes_cmp path names) ≡ false = there path names i.bodies.entries i.leases a ∙ sym c.if-contains_key.ensures in
    λ j. option_or (dir j) (cond (new j) (Some Exists) None)

pub returns-then-contains_key-clause-err : goal.returns-then-contains_key-clause-err
returns-then-contains_key-clause-err g c =
    let i = c.self.inside in
    let names = c.args.self.now in
    let path = c.args.path.now in
    let a = are_seen names i.bodies.entries i.leases c.self.view_is c.self.invariant in
    let dir : refused_under g.B.HasKind.kind_of names (parent_of path) ≡ None = ap (refused_under g.B.HasKind.kind_of names) (sym (c.as_ref.ensures.value ∙ c.parent-parent.ensures)) ∙ c.in_ok-check_under.ensures.ok in
    let old : is_some (find bytes_cmp path names) ≡ true = there path names i.bodies.entries i.leases a ∙ sym c.if-contains_key.ensures in
    λ j. option_or (dir j) (cond (old j) (Some Exists) None)
