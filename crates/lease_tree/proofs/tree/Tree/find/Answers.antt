use Rattle.std.proofs.Common.{sym, ap, ◌∙◌}
use Rattle.std.specs.Option.{option_copied_mut}
use Rattle.std.specs.BTreeMap.{BTreeMap}
use Rattle.far_words.specs.declared.path.Path.{Path}
use Rattle.lease_tree.specs.Names.{Leased}
use Rattle.lease_tree.proofs.Joins.{are, of_same, found_body}
use Rattle.lease_tree.proofs.Lent.{lent, unlent, lent_is, unlent_is, none_of_mapped, same_read}
use Rattle.lease_tree.proofs.tree.Tree.find.Goals as goal

pub invariant_of-self-lent : goal.invariant_of-self-lent
invariant_of-self-lent g c =
    let i = c.self.inside in
    let q = c.args.path.now in
    let a = are i.bodies.entries i.leases c.self.invariant in
    λ o. (
      (λ w. of_same _ _ _ (lent q _ i.bodies.entries i.leases c.change.new.self a c.change.ensures w (c.get_mut.follows.lender w).entries (c.get_mut.follows.holds w).0)),
      rw c.get_mut.follows.holds-at-none (of_same _ _ _ (unlent q _ i.bodies.entries i.leases c.change.new.self a c.change.ensures)),
    )

pub returns : goal.returns
returns g c =
    let i = c.self.inside in
    let q = c.args.path.now in
    let a = are i.bodies.entries i.leases c.self.invariant in
    let found = c.get_mut.ensures.value ∙ found_body q _ i.bodies.entries i.leases a in
    rw (← c.self.view_is) (
      same_read c.get_mut.result _ _ _ _
          (λ w. lent_is q _ i.bodies.entries i.leases c.change.new.self a c.change.ensures w (c.get_mut.follows.lender w).entries (c.get_mut.follows.holds w).0)
          (λ none. unlent_is q _ i.bodies.entries i.leases c.change.new.self a c.change.ensures c.get_mut.follows.lender-at-none.entries (ap (λ (m : BTreeMap Path g.row.B.Denot). m.entries) c.get_mut.follows.holds-at-none)
          (none_of_mapped (λ (name : Leased g.row.B.Denot). name.body) _ (ap option_copied_mut (sym none) ∙ found))),
      record { writes_back = tt; value = found },
    )
