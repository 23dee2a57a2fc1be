use Rattle.std.proofs.Common.{◌≡◌, ◌≢◌, ◌≤◌, ℕ, ◌++◌, true, false, List, [], ◌∷◌, length, IsTrue, refl, sym, ap, subst, ◌∙◌, Err, Some}
use Rattle.std.specs.Prelude.{slice_get}
use Rattle.std.specs.declared.option.Option.{Option}
use Rattle.std.specs.List.Sorted.{IsPermutation}
use Rattle.far_asks.specs.declared.request.Reply.{Reply}
use Rattle.shelf_link.specs.Blocks as map
use Rattle.queue_block.specs.Queues.{QueueBlock, popped, unread}
use Rattle.block_seats.specs.Noted.{NotedView}
use Rattle.block_seats.specs.Seatings.{SeatingView}
use Rattle.block_home.specs.Homes.{HomeView}
use Rattle.block_home.specs.Holding.{Holds}
use Rattle.block_home.specs.Stored.{FaultRose}
use Rattle.block_list.specs.Lists.{KeepsOthers, without_all}
use Rattle.block_list.specs.Growth.{GoOut}
use Rattle.block_list.specs.Ends.{NamesBlock}
use Rattle.block_queue.specs.Queues.{QueueView, IsQueue, numbers_of}
use Rattle.block_queue.specs.Changes.{IsHeldAs, gone_of}
use Rattle.block_queue.specs.Ends.{IsNeverUnfit, ReadsParked}
use Rattle.tenant_world.specs.declared.names.Content.TheVariants.{Queue}
use Rattle.tenant_world.specs.Keeping.{Keeping, IsKept, readied}
use Rattle.tenant_world.specs.Popping.{IsPopped, IsFirstItem}
use Rattle.tenant_world.proofs.Ended.{names_before}
use Rattle.tenant_world.proofs.Moved.{freed_is}
use Rattle.tenant_world.proofs.Returned.{moves_out}
use Rattle.tenant_world.proofs.QueueEnds.{popped_end}
use Rattle.tenant_world.proofs.QueueOwn.{gone_distinct, popped_own}
use Rattle.tenant_world.proofs.queues.pop_queue.Goals as goal

pub returns-in-Ok-Some-clause-popped : goal.returns-in-Ok-Some-clause-popped
returns-in-Ok-Some-clause-popped g c path =
    let home : HomeView g.row.K.Denot = c.args.home.now in
    let old : SeatingView = home.seats in
    let queue : QueueView = c.args.queue.now in
    let queue' : QueueView = c.pop.new.self in
    let now : HomeView g.row.K.Denot = c.pop.new.home in
    let new : SeatingView = now.seats in
    let item : List ℕ = c.in-Ok-Some.item in
    let told = g.K.Shelf.told in
    let is = c.clear_moves.ensures in
    let ens = rw c.in-Ok-Some.field-0-is at c.in-Ok-Some.ensures in
    let was : GoOut (gone_of queue) (readied old old.numbers) new = subst (λ (h : HomeView g.row.K.Denot). GoOut (gone_of queue) h.seats new) is ens.goes in
    let goes : GoOut (gone_of queue) (readied old new.numbers) new = subst (λ (k : ℕ). GoOut (gone_of queue) (readied old k) new) (sym (ap (λ (s : SeatingView). s.numbers) was.alike)) was in
    let noted = c.freed.ensures ∙ ap (λ (m : NotedView). m.freed) c.moves.ensures in
    let freed = freed_is old new.numbers (gone_of queue) [] new c.requires.ready.ordered c.requires.ready.noted (moves_out old new.numbers (gone_of queue) new (gone_distinct queue) goes) c.set_freed.new.self.freed (subst (λ l. IsPermutation l c.set_freed.new.self.freed) noted c.set_freed.ensures.freed) c.set_freed.ensures.order in
    let first : IsFirstItem (told home.shelf) home queue item = record {
      short = subst (λ (h : HomeView g.row.K.Denot). length item ≤ h.seats.size) is ens.short;
      some = ens.some.0 refl;
      first = subst (λ (h : HomeView g.row.K.Denot). (m : map.Blocks) (blocks : List QueueBlock) → Holds m (told h.shelf) h.user h.seats.blocks → IsQueue m queue blocks → Some item ≡ slice_get (unread blocks) 0) is ens.item;
      resident = λ void parked. (let no = ens.void (subst (λ (h : HomeView g.row.K.Denot). IsTrue (told h.shelf).void) (sym is) void) (subst (λ (h : HomeView g.row.K.Denot). ReadsParked h.seats queue) (sym is) parked) in cc);
    } in
    record {
      was_queue = refl;
      is_queue = refl;
      one_less = ens.count refl;
      first = first;
      moves = popped_own told home now queue queue' c.args.moves.now c.set_freed.new.self path item c.requires.sound ens.sound ens.numbers
          (subst (λ (h : HomeView g.row.K.Denot). new.blocks ≡ without_all h.seats.blocks (gone_of queue)) is ens.blocks)
          (subst (λ (h : HomeView g.row.K.Denot). KeepsOthers h.seats.blocks new.blocks (numbers_of queue)) is ens.others)
          goes
          (subst (λ (h : HomeView g.row.K.Denot). (m : map.Blocks) (blocks : List QueueBlock) → Holds m (told h.shelf) h.user h.seats.blocks → IsQueue m queue blocks → IsHeldAs m (told now.shelf) h.user new queue' (popped blocks) (numbers_of queue)) is ens.items)
          first.first
          (c.set_freed.ensures.rest ∙ (λ i. record c.args.moves.now { freed = freed i; placed = c.requires.ready.placed i }));
    }

-- a queue that gave none has none
none_there : (queue : QueueView) → (queue ≢ [] → false ≡ true) → queue ≡ []
none_there [] gave = refl
none_there (mark ∷ queue) gave = let e = gave (λ is. cc) in cc

no_numbers : (queue : QueueView) → [] ≡ numbers_of queue → queue ≡ []
no_numbers [] is = refl
no_numbers (mark ∷ queue) is = cc

pub returns-in-Ok-None-clause-popped : goal.returns-in-Ok-None-clause-popped
returns-in-Ok-None-clause-popped g c path =
    let home : HomeView g.row.K.Denot = c.args.home.now in
    let old : SeatingView = home.seats in
    let queue : QueueView = c.args.queue.now in
    let queue' : QueueView = c.pop.new.self in
    let now : HomeView g.row.K.Denot = c.pop.new.home in
    let new : SeatingView = now.seats in
    let told = g.K.Shelf.told in
    let is = c.clear_moves.ensures in
    let ens = rw c.in-Ok-None.field-0-is at c.in-Ok-None.ensures in
    let none : queue ≡ [] = none_there queue ens.some.1 in
    let goes : GoOut [] (readied old old.numbers) new = subst (λ (h : HomeView g.row.K.Denot). GoOut [] h.seats new) is (subst (λ (q : QueueView). GoOut (gone_of q) c.clear_moves.new.self.seats new) none ens.goes) in
    let blocks : new.blocks ≡ old.blocks = subst (λ (h : HomeView g.row.K.Denot). new.blocks ≡ h.seats.blocks) is (subst (λ (q : QueueView). new.blocks ≡ without_all c.clear_moves.new.self.seats.blocks (gone_of q)) none ens.blocks) in
    let numbers : [] ≡ numbers_of queue' = subst (λ (q : QueueView). numbers_of q ≡ gone_of q ++ numbers_of queue') none ens.numbers in
    let seats : new ≡ readied old old.numbers = goes.alike ∙ (λ i. record old { numbers = old.numbers; blocks = blocks i; purse = goes.purse i; moves = goes.moves i }) in (
      refl,
      none,
      record {
        content = ap (λ (q : QueueView). Queue q) (no_numbers queue' numbers ∙ sym none);
        seats = seats ∙ ap (readied old) (sym (ap (λ (s : SeatingView). s.numbers) seats));
        shelf = ens.nothing refl ∙ ap (λ (h : HomeView g.row.K.Denot). told h.shelf) is;
        moves = refl;
      },
    )

pub returns-in-Err-clause-popped : goal.returns-in-Err-clause-popped
returns-in-Err-clause-popped g c path =
    let home : HomeView g.row.K.Denot = c.args.home.now in
    let old : SeatingView = home.seats in
    let queue : QueueView = c.args.queue.now in
    let told = g.K.Shelf.told in
    let faults = g.K.Shelf.faults in
    let shelf = c.pop.new.home.shelf in
    let ens = c.in-Err.ensures in
    let end = c.in-Err.end in
    let is = c.clear_moves.ensures in
    let before : Keeping g.row.K.Denot = record { content = Queue queue; home = home; moves = c.args.moves.now } in
    let after : Keeping g.row.K.Denot = record { content = Queue c.pop.new.self; home = c.pop.new.home; moves = c.args.moves.now } in
    let seats : c.pop.new.home.seats ≡ readied old old.numbers = ens.seats_stay ∙ ap (λ (h : HomeView g.row.K.Denot). h.seats) is in
    let kept : IsKept told before after = record {
      content = ap (λ (q : QueueView). Queue q) ens.queue_stays;
      seats = seats ∙ ap (readied old) (sym (ap (λ (s : SeatingView). s.numbers) seats));
      shelf = ens.told ∙ ap (λ (h : HomeView g.row.K.Denot). told h.shelf) is;
      moves = refl;
    } in
    subst (λ (r : Reply). IsPopped told faults before path r after) (sym c.reply_of.ensures)
    (popped_end told faults (Option (List ℕ)) before after path end ens.ends (record {
      rose = subst (λ (h : HomeView g.row.K.Denot). FaultRose {T = Option (List ℕ)} (faults h.shelf) (faults shelf) (Err end)) is ens.cause.rose;
      names = names_before (Option (List ℕ)) old old.numbers (numbers_of queue) end (subst (λ (h : HomeView g.row.K.Denot). NamesBlock {T = Option (List ℕ)} h.seats (numbers_of queue) (Err end)) is ens.names);
      never = subst (λ (h : HomeView g.row.K.Denot). IsNeverUnfit {T = Option (List ℕ)} (told h.shelf) h.user h.seats queue (Err end)) is ens.telling;
    }) refl (λ none. (let no = ens.none none in cc)) kept)
