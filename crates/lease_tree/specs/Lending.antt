-- What a tree is once a body that it lent comes back.
use Rattle.std.specs.Prelude.{ℕ, false, List}
use Rattle.std.specs.Borrow.{LendsIf, MutBor, Fml, RattleType}
use Rattle.std.specs.declared.option.Option.{Option}
use Rattle.lease_tree.specs.Under.{is_same}
use Rattle.lease_tree.specs.Leases.{changed_where}
use Rattle.lease_tree.specs.Names.{Names, Leased}
use Rattle.lease_tree.specs.contracts.tree.Tree.{the_row}

-- the name has this body, and its end is to be looked at again
abbrev pub with_body : {B : Type 0} → B → Leased B → Leased B
with_body body leased = record { end = leased.end; settled = false; body = body }

abbrev pub lends_body : (R : RattleType) → MutBor (Names R.Denot) → List ℕ → Option (MutBor R.Denot) → Fml
lends_body R tree path result = LendsIf (the_row R) R tree result (λ body. changed_where (is_same path) (with_body body) tree.now) tree.now
