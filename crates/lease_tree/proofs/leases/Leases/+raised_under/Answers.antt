use Rattle.std.proofs.Common.{◌≡◌, false, [], ◌∷◌, ◌++◌, sym, ap, subst, ◌∙◌}
use Rattle.std.specs.declared.cmp.Ordering.TheVariants.{Less}
use Rattle.far_words.specs.Paths.{bytes_cmp}
use Rattle.lease_tree.specs.Under.{is_under, stem}
use Rattle.lease_tree.specs.Leases.{changed, IsBetween}
use Rattle.lease_tree.specs.declared.lease.Change.TheVariants.{Raise}
use Rattle.lease_tree.specs.declared.leases.Knot.{Knot}
use Rattle.lease_tree.proofs.Changes.{none_under_above, none_under_below, between-changed_left, between-changed_right}
use Rattle.lease_tree.proofs.TopChanges.{low_side, low_changed, high_side, high_changed}
use Rattle.lease_tree.proofs.leases.Leases.+raised_under.Goals as goal

pub tie-requires : goal.tie-requires
tie-requires t c =
    let top = c.in-Some.top in
    let path = c.args.path.now in
    let u = c.in-Some.ensures.some in
    let f = changed (Raise c.args.end) in
    subst (λ (k : Knot). IsBetween k.path c.raised_under-left.result c.raised_under.result) (sym c.deref_mut.ensures.value)
    (rw (c.raised_under-left.ensures, c.raised_under.ensures)
    (between-changed_left (is_under path) f top.knot.value.path _ _ (between-changed_right (is_under path) f top.knot.value.path _ _ u.between)))

pub tie-requires-in-Less : goal.tie-requires-in-Less
tie-requires-in-Less t c = low_side (is_under c.args.path.now) (changed (Raise c.args.end)) c.args.self c.in-Some.top c.in-Some.ensures.some c.raised_under-in-Less.result c.raised_under-in-Less.result c.raised_under-in-Less.ensures

pub tie-requires-in_default-order_pair : goal.tie-requires-in_default-order_pair
tie-requires-in_default-order_pair t c = high_side (is_under c.args.path.now) (changed (Raise c.args.end)) c.args.self c.in-Some.top c.in-Some.ensures.some c.raised_under-in_default-order_pair.result c.raised_under-in_default-order_pair.result c.raised_under-in_default-order_pair.ensures

pub returns-in-Less : goal.returns-in-Less
returns-in-Less t c =
    let path = c.args.path.now in
    let top = c.in-Some.top in
    let u = c.in-Some.ensures.some in
    let name = c.bytes-name.ensures.value ∙ ap (λ (k : Knot). k.path) c.deref.ensures in
    let less : bytes_cmp (stem path) top.knot.value.path ≡ Less = sym (c.in-Less.ensures ∙ (λ i. bytes_cmp (c.bytes-2.ensures.value i ++ 47 ∷ []) (name i))) in
    let not_under : is_under path top.knot.value.path ≡ false = sym (c.if-is_under.ensures ∙ (λ i. is_under (c.bytes.ensures.value i) (name i))) in
    low_changed (is_under path) (changed (Raise c.args.end)) c.args.self top u c.raised_under-in-Less.result c.tie-in-Less.result not_under
    (none_under_above path top.knot.value.path top.right less not_under u.between.above) c.raised_under-in-Less.ensures c.tie-in-Less.ensures

pub returns-in_default-order_pair : goal.returns-in_default-order_pair
returns-in_default-order_pair t c =
    let path = c.args.path.now in
    let top = c.in-Some.top in
    let u = c.in-Some.ensures.some in
    let name = c.bytes-name.ensures.value ∙ ap (λ (k : Knot). k.path) c.deref.ensures in
    let is : c.order_pair.result ≡ bytes_cmp (stem path) top.knot.value.path = c.order_pair.ensures ∙ (λ i. bytes_cmp (c.bytes-2.ensures.value i ++ 47 ∷ []) (name i)) in
    let not_less : bytes_cmp (stem path) top.knot.value.path ≡ Less → ⊥ = λ less. c.in_default-order_pair.not-Less (is ∙ less) in
    let not_under : is_under path top.knot.value.path ≡ false = sym (c.if-is_under.ensures ∙ (λ i. is_under (c.bytes.ensures.value i) (name i))) in
    high_changed (is_under path) (changed (Raise c.args.end)) c.args.self top u c.raised_under-in_default-order_pair.result c.tie-in_default-order_pair.result not_under
    (none_under_below path top.knot.value.path top.left not_less u.between.below) c.raised_under-in_default-order_pair.ensures c.tie-in_default-order_pair.ensures
