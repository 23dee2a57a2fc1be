use Rattle.std.proofs.Common.{cond, sym, ap, ◌∙◌, Some, None}
use Rattle.std.specs.FinMap.{find}
use Rattle.far_words.specs.Paths.{bytes_cmp}
use Rattle.far_words.specs.declared.kind.Kind.{Kind}
use Rattle.lease_tree.specs.Trees.{is_dir}
use Rattle.lease_tree.specs.declared.tree.TreeEnd.TheVariants.{WrongKind}
use Rattle.lease_tree.proofs.Joins.{are_seen, found_body}
use Rattle.lease_tree.proofs.Refusals.{refused_found, refused_missed, not_dir}
use Rattle.lease_tree.proofs.tree.Tree.check_dir.Goals as goal

pub returns-in-Dir-clause-ok : goal.returns-in-Dir-clause-ok
returns-in-Dir-clause-ok g c =
    let i = c.self.inside in
    let a = are_seen c.args.self.now i.bodies.entries i.leases c.self.view_is c.self.invariant in
    let body = c.in-Some.body.now in
    let found = c.in-Some.ensures.value ∙ found_body c.args.path.now c.args.self.now i.bodies.entries i.leases a in
    refused_found g.B.HasKind.kind_of (find bytes_cmp c.args.path.now c.args.self.now) body found
    ∙ ap (λ (kind : Kind). cond (is_dir kind) None (Some WrongKind)) (sym c.in-Dir.ensures)

pub returns-in_default-kind : goal.returns-in_default-kind
returns-in_default-kind g c =
    let i = c.self.inside in
    let a = are_seen c.args.self.now i.bodies.entries i.leases c.self.view_is c.self.invariant in
    let body = c.in-Some.body.now in
    let found = c.in-Some.ensures.value ∙ found_body c.args.path.now c.args.self.now i.bodies.entries i.leases a in
    record {
      ok = tt;
      err =
          refused_found g.B.HasKind.kind_of (find bytes_cmp c.args.path.now c.args.self.now) body found
          ∙ ap (λ b. cond b None (Some WrongKind)) (not_dir (g.B.HasKind.kind_of body) (λ is. c.in_default-kind.not-Dir (c.kind.ensures ∙ is)));
    }

pub returns-in_default-clause-err : goal.returns-in_default-clause-err
returns-in_default-clause-err g c =
    let i = c.self.inside in
    let a = are_seen c.args.self.now i.bodies.entries i.leases c.self.view_is c.self.invariant in
    refused_missed g.B.HasKind.kind_of (find bytes_cmp c.args.path.now c.args.self.now) (c.in_default.ensures.value ∙ found_body c.args.path.now c.args.self.now i.bodies.entries i.leases a)
