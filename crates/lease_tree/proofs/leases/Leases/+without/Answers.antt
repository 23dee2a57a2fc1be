use Rattle.std.proofs.Common.{◌≡◌, ℕ, List, ◌∷◌, ◌++◌, sym, ap, subst, ◌∙◌}
use Rattle.std.specs.declared.cmp.Ordering.TheVariants.{Less, Equal, Greater}
use Rattle.far_words.specs.Paths.{bytes_cmp}
use Rattle.lease_tree.specs.Leases.{Ends, entry_of, IsBetween, without}
use Rattle.lease_tree.specs.Untied.{IsUntied}
use Rattle.lease_tree.specs.declared.leases.Untied.{Untied}
use Rattle.lease_tree.proofs.Puts.{without-low, without-high, without-same, between-without_left, between-without_right, greater_back, same_name}
use Rattle.lease_tree.proofs.leases.Leases.+without.Goals as goal

module _ (q : List ℕ) (ends : Ends) (top : Untied) (u : IsUntied ends top) (side new : Ends) where
  low : bytes_cmp q top.knot.value.path ≡ Less → side ≡ without q top.left → new ≡ side ++ entry_of top.knot.value ∷ top.right → new ≡ without q ends
  low less is new_is =
      new_is ∙ ap (λ (l : Ends). l ++ entry_of top.knot.value ∷ top.right) is
      ∙ sym (without-low q top.left (entry_of top.knot.value) top.right less u.between) ∙ ap (without q) (sym u.is)

  high : bytes_cmp top.knot.value.path q ≡ Less → side ≡ without q top.right → new ≡ top.left ++ entry_of top.knot.value ∷ side → new ≡ without q ends
  high less is new_is =
      new_is ∙ ap (λ (r : Ends). top.left ++ entry_of top.knot.value ∷ r) is
      ∙ sym (without-high q top.left (entry_of top.knot.value) top.right less u.between) ∙ ap (without q) (sym u.is)

  same : bytes_cmp q top.knot.value.path ≡ Equal → new ≡ top.left ++ top.right → new ≡ without q ends
  same equal new_is =
      new_is ∙ sym (without-same top.left (entry_of top.knot.value) top.right u.between)
      ∙ ap (λ (k : List ℕ). without k (top.left ++ entry_of top.knot.value ∷ top.right)) (sym (same_name q top.knot.value.path equal))
      ∙ ap (without q) (sym u.is)

pub balance-requires : goal.balance-requires
balance-requires t c = rw c.without.ensures (between-without_left c.args.path.now c.in-Some.top.knot.value.path c.in-Some.top.left c.in-Some.top.right c.in-Some.ensures.some.between)

pub balance-requires-in-Greater : goal.balance-requires-in-Greater
balance-requires-in-Greater t c = rw c.without-in-Greater.ensures (between-without_right c.args.path.now c.in-Some.top.knot.value.path c.in-Some.top.left c.in-Some.top.right c.in-Some.ensures.some.between)

pub join-requires : goal.join-requires
join-requires t c =
    let equal : bytes_cmp c.args.path.now c.in-Some.top.knot.value.path ≡ Equal = cc (c.in-Equal.ensures, c.deref.ensures) in
    subst (λ (k : List ℕ). IsBetween k c.in-Some.top.left c.in-Some.top.right) (sym (same_name c.args.path.now c.in-Some.top.knot.value.path equal)) c.in-Some.ensures.some.between

pub returns-in-Less : goal.returns-in-Less
returns-in-Less t c = low c.args.path.now c.args.self c.in-Some.top c.in-Some.ensures.some c.without.result c.balance.result (cc (c.in-Less.ensures, c.deref.ensures)) c.without.ensures c.balance.ensures

pub returns-in-Greater : goal.returns-in-Greater
returns-in-Greater t c =
    let greater : bytes_cmp c.args.path.now c.in-Some.top.knot.value.path ≡ Greater = cc (c.in-Greater.ensures, c.deref.ensures) in
    high c.args.path.now c.args.self c.in-Some.top c.in-Some.ensures.some c.without-in-Greater.result c.balance-in-Greater.result (greater_back c.args.path.now c.in-Some.top.knot.value.path greater) c.without-in-Greater.ensures c.balance-in-Greater.ensures

pub returns-in-Equal : goal.returns-in-Equal
returns-in-Equal t c = same c.args.path.now c.args.self c.in-Some.top c.in-Some.ensures.some c.join.result c.join.result (cc (c.in-Equal.ensures, c.deref.ensures)) c.join.ensures
