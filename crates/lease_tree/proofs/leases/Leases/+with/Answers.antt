use Rattle.std.proofs.Common.{◌≡◌, ◌∷◌, ◌++◌, None, sym, ap, subst, ◌∙◌, arith}
use Rattle.std.specs.FinMap.{find, put}
use Rattle.std.specs.declared.cmp.Ordering.{Ordering}
use Rattle.std.specs.declared.cmp.Ordering.TheVariants.{Less}
use Rattle.far_words.specs.Paths.{bytes_cmp}
use Rattle.lease_tree.specs.Leases.{Ends, entry_of}
use Rattle.lease_tree.specs.Untied.{IsUntied}
use Rattle.lease_tree.specs.declared.leases.Untied.{Untied}
use Rattle.lease_tree.specs.declared.leases.Knot.{Knot}
use Rattle.lease_tree.proofs.Puts.{Missed, missed, put-left, put-right, between-put_left, between-put_right, greater_back, greater_else}
use Rattle.lease_tree.proofs.Turns.{shorter}
use Rattle.lease_tree.proofs.leases.Leases.+with.Goals as goal

missed_in : (knot : Knot) (ends : Ends) (top : Untied) → IsUntied ends top → find bytes_cmp knot.path ends ≡ None → Missed knot.path top.left (entry_of top.knot.value) top.right
missed_in knot ends top u none = missed knot.path top.left (entry_of top.knot.value) top.right (subst (λ (es : Ends). find bytes_cmp knot.path es ≡ None) u.is none)

-- a name that is neither before the top nor found stands after it
after_top : (knot : Knot) (ends : Ends) (top : Untied) → IsUntied ends top → find bytes_cmp knot.path ends ≡ None → (o : Ordering) → (o ≡ Less → ⊥) → o ≡ bytes_cmp knot.path top.knot.value.path → bytes_cmp top.knot.value.path knot.path ≡ Less
after_top knot ends top u none o not_less is = greater_back knot.path top.knot.value.path (sym is ∙ greater_else o not_less (λ same. (missed_in knot ends top u none).here (sym is ∙ same)))

put_low : (knot : Knot) (ends low new : Ends) (top : Untied) → IsUntied ends top → bytes_cmp knot.path top.knot.value.path ≡ Less → low ≡ put bytes_cmp knot.path knot.lease top.left → new ≡ low ++ entry_of top.knot.value ∷ top.right → new ≡ put bytes_cmp knot.path knot.lease ends
put_low knot ends low new top u less is new_is =
    new_is ∙ ap (λ (l : Ends). l ++ entry_of top.knot.value ∷ top.right) is
    ∙ sym (put-left knot.path knot.lease top.left (entry_of top.knot.value) top.right less)
    ∙ ap (put bytes_cmp knot.path knot.lease) (sym u.is)

put_high : (knot : Knot) (ends high new : Ends) (top : Untied) → IsUntied ends top → bytes_cmp top.knot.value.path knot.path ≡ Less → high ≡ put bytes_cmp knot.path knot.lease top.right → new ≡ top.left ++ entry_of top.knot.value ∷ high → new ≡ put bytes_cmp knot.path knot.lease ends
put_high knot ends high new top u less is new_is =
    new_is ∙ ap (λ (r : Ends). top.left ++ entry_of top.knot.value ∷ r) is
    ∙ sym (put-right knot.path knot.lease top.left (entry_of top.knot.value) top.right less u.between.below)
    ∙ ap (put bytes_cmp knot.path knot.lease) (sym u.is)

pub with-requires : goal.with-requires
with-requires t c =
    let u = c.in-Some.ensures.some in
    (omega (arith, c.decreases, shorter c.args.self c.in-Some.top u), (missed_in c.args.knot.value c.args.self c.in-Some.top u c.requires).left)

pub balance-requires : goal.balance-requires
balance-requires t c =
    let less = sym (c.in-Less.ensures) in
    let at = c.in-Some.ensures.some.between in
    rw c.with.ensures (between-put_left c.args.knot.value.path c.args.knot.value.lease c.in-Some.top.knot.value.path c.in-Some.top.left c.in-Some.top.right (cc (less, c.deref.ensures, c.deref-2.ensures)) at)

pub with-requires-in_default-cmp : goal.with-requires-in_default-cmp
with-requires-in_default-cmp t c =
    let u = c.in-Some.ensures.some in
    (omega (arith, c.decreases, shorter c.args.self c.in-Some.top u), (missed_in c.args.knot.value c.args.self c.in-Some.top u c.requires).right)

pub balance-requires-in_default-cmp : goal.balance-requires-in_default-cmp
balance-requires-in_default-cmp t c =
    let u = c.in-Some.ensures.some in
    let is : c.cmp.result ≡ bytes_cmp c.args.knot.value.path c.in-Some.top.knot.value.path = cc (c.cmp.ensures, c.deref.ensures, c.deref-2.ensures) in
    rw c.with-in_default-cmp.ensures
    (between-put_right c.args.knot.value.path c.args.knot.value.lease c.in-Some.top.knot.value.path c.in-Some.top.left c.in-Some.top.right (after_top c.args.knot.value c.args.self c.in-Some.top u c.requires _ c.in_default-cmp.not-Less is) u.between)

pub returns-in-Less : goal.returns-in-Less
returns-in-Less t c =
    let less = sym (c.in-Less.ensures) in
    put_low c.args.knot.value c.args.self c.with.result c.balance.result c.in-Some.top c.in-Some.ensures.some (cc (less, c.deref.ensures, c.deref-2.ensures)) c.with.ensures c.balance.ensures

pub returns-in_default-cmp : goal.returns-in_default-cmp
returns-in_default-cmp t c =
    let u = c.in-Some.ensures.some in
    let is : c.cmp.result ≡ bytes_cmp c.args.knot.value.path c.in-Some.top.knot.value.path = cc (c.cmp.ensures, c.deref.ensures, c.deref-2.ensures) in
    put_high c.args.knot.value c.args.self c.with-in_default-cmp.result c.balance-in_default-cmp.result c.in-Some.top u (after_top c.args.knot.value c.args.self c.in-Some.top u c.requires _ c.in_default-cmp.not-Less is) c.with-in_default-cmp.ensures c.balance-in_default-cmp.ensures
