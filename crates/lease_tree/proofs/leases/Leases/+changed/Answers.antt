use Rattle.std.proofs.Common.{◌≡◌, ◌∷◌, ◌++◌, sym, ap, subst, ◌∙◌}
use Rattle.std.specs.declared.cmp.Ordering.TheVariants.{Less, Equal, Greater}
use Rattle.std.specs.Ordering.{is_eq}
use Rattle.far_words.specs.Paths.{bytes_cmp}
use Rattle.lease_tree.specs.Under.{is_same}
use Rattle.lease_tree.specs.Leases.{changed, AreBelow, AreAbove}
use Rattle.lease_tree.specs.declared.leases.Knot.{Knot}
use Rattle.lease_tree.proofs.Between.{above_earlier, below_later}
use Rattle.lease_tree.proofs.Changes.{others_above, others_below}
use Rattle.lease_tree.proofs.Puts.{greater_back, same_name}
use Rattle.lease_tree.proofs.TopChanges.{low_side, low_changed, high_side, high_changed, top_changed}
use Rattle.lease_tree.proofs.leases.Leases.+changed.Goals as goal

pub tie-requires : goal.tie-requires
tie-requires t c = low_side (is_same c.args.path.now) (changed c.args.change) c.args.self c.in-Some.top c.in-Some.ensures.some c.changed.result c.changed.result c.changed.ensures

pub tie-requires-in-Greater : goal.tie-requires-in-Greater
tie-requires-in-Greater t c = high_side (is_same c.args.path.now) (changed c.args.change) c.args.self c.in-Some.top c.in-Some.ensures.some c.changed-in-Greater.result c.changed-in-Greater.result c.changed-in-Greater.ensures

pub returns-in-Less : goal.returns-in-Less
returns-in-Less t c =
    let q = c.args.path.now in
    let top = c.in-Some.top in
    let u = c.in-Some.ensures.some in
    let less : bytes_cmp q top.knot.value.path ≡ Less = cc (c.in-Less.ensures, c.deref.ensures) in
    low_changed (is_same q) (changed c.args.change) c.args.self top u c.changed.result c.tie.result (ap is_eq less)
    (others_above q top.right (above_earlier q top.knot.value.path top.right less u.between.above)) c.changed.ensures c.tie.ensures

pub returns-in-Greater : goal.returns-in-Greater
returns-in-Greater t c =
    let q = c.args.path.now in
    let top = c.in-Some.top in
    let u = c.in-Some.ensures.some in
    let greater : bytes_cmp q top.knot.value.path ≡ Greater = cc (c.in-Greater.ensures, c.deref.ensures) in
    high_changed (is_same q) (changed c.args.change) c.args.self top u c.changed-in-Greater.result c.tie-in-Greater.result (ap is_eq greater)
    (others_below q top.left (below_later top.knot.value.path q top.left (greater_back q top.knot.value.path greater) u.between.below)) c.changed-in-Greater.ensures c.tie-in-Greater.ensures

pub returns-in-Equal : goal.returns-in-Equal
returns-in-Equal t c =
    let q = c.args.path.now in
    let top = c.in-Some.top in
    let u = c.in-Some.ensures.some in
    let equal : bytes_cmp q top.knot.value.path ≡ Equal = cc (c.in-Equal.ensures, c.deref.ensures) in
    let same = same_name q top.knot.value.path equal in
    let deref = c.deref_mut.ensures.value in
    let lease = c.of.ensures ∙ ap (λ (k : Knot). changed c.args.change k.lease) c.deref-in-Equal.ensures in
    top_changed (is_same q) (changed c.args.change) c.args.self top u c.tie-in-Equal.result c.tie-in-Equal.result
    (others_below q top.left (subst (λ k. AreBelow k top.left) (sym same) u.between.below)) (ap is_eq equal)
    (others_above q top.right (subst (λ k. AreAbove k top.right) (sym same) u.between.above))
    (c.tie-in-Equal.ensures ∙ (λ i. top.left ++ ((deref i).path, lease i) ∷ top.right))
