use Rattle.std.proofs.Common.{◌≡◌, ℕ, List, length, Some, sym, ap, subst, ◌∙◌}
use Rattle.std.specs.List.{slice_get}
use Rattle.block_home.specs.Homes.{HomeView}
use Rattle.block_list.proofs.Named.{holds_as}
use Rattle.queue_block.specs.Queues.{unread, popped}
use Rattle.block_queue.specs.Queues.{QueueView, IsQueue, numbers_of}
use Rattle.block_queue.specs.Changes.{IsHeldAs}
use Rattle.block_queue.proofs.QueueBody.pop.Goals as goal

pub returns-in-Ok-Some-clause-item : goal.returns-in-Ok-Some-clause-item
returns-in-Ok-Some-clause-item g c = λ m old holds is. sym c.in-Ok-Some.field-0-is ∙ c.in-Ok-Some.ensures.item m old holds is

pub returns-in-Ok-Some-clause-items : goal.returns-in-Ok-Some-clause-items
returns-in-Ok-Some-clause-items g c = λ m old holds is.
    let home = c.args.home.now in
    let mid = c.front.new.home in
    let new = c.take_first.new.home in
    let queue = c.take_first.new.marks.items in
    let told = g.K.Shelf.told in
    let rest = c.front.ensures.rest in
    let user_is : mid.user ≡ home.user = ap (λ (h : HomeView g.row.K.Denot). h.user) rest in
    let view_is : c.self.inside.marks.items ≡ c.args.self.now = c.self.view_is ∙ c.front.ensures.queue_stays in
    let held = holds_as m (told home.shelf) (told mid.shelf) home.user mid.user home.seats.blocks mid.seats.blocks (sym c.front.ensures.told) (sym user_is) (sym (ap (λ (h : HomeView g.row.K.Denot). h.seats.blocks) rest)) holds in
    let first : slice_get (unread old) 0 ≡ Some c.in-Ok-Some.item = sym (c.in-Ok-Some.ensures.item m old holds is) ∙ c.in-Ok-Some.field-0-is in
    subst (λ (u : ℕ). IsHeldAs m (told new.shelf) u new.seats queue (popped old) (numbers_of c.args.self.now)) user_is
    (subst (λ (q : QueueView). IsHeldAs m (told new.shelf) mid.user new.seats queue (popped old) (numbers_of q)) view_is
    (c.take_first.ensures.items m old c.in-Ok-Some.item held (subst (λ (q : QueueView). IsQueue m q old) (sym view_is) is) first (ap (λ (xs : List ℕ). length xs) c.items.ensures)))
