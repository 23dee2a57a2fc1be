use Rattle.std.proofs.Common.{rules}
use Rattle.std.proofs.lemmas.List.Sorted.{answers_always}
use Rattle.shelf_link.proofs.Slots.{searched}
use Rattle.shelf_link.proofs.sure.SureShelf.find.Goals as goal

-- the closure gives a slot's number
pub returns : goal.returns
returns c =
    let facts = c.binary_search_by_key.ensures in
    let by_key = facts.position (λ slot. slot.block) (answers_always _ _ _ (λ f a r g called. search rules)) in
    rw (← c.self.view_is, ← c.deref.ensures.value) (searched _ (rw c.deref.ensures.value c.self.invariant.sorted) c.args.block _ facts.bound by_key)
