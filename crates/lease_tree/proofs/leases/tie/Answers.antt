use Rattle.std.proofs.Common.{sym, subst, arith}
use Rattle.lease_tree.specs.Leases.{entry_of, IsBetween}
use Rattle.lease_tree.specs.declared.leases.Knot.{Knot}
use Rattle.lease_tree.proofs.Least.{least-parts}
use Rattle.lease_tree.proofs.leases.tie.Goals as goal

pub invariant_of-result : goal.invariant_of-result
invariant_of-result c =
    let same = c.deref_mut-tied.ensures.value in
    let knot = c.deref_mut-tied.result.now in
    record {
      between = subst (λ (k : Knot). IsBetween k.path c.args.left c.args.right) (sym same) c.requires;
      least = omega (arith, c.min-tied.ensures, c.min.ensures, c.least.ensures, c.due.ensures, c.least-2.ensures, least-parts c.args.left (entry_of knot) c.args.right);
    }
