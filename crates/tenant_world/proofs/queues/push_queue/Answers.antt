use Rattle.std.proofs.Common.{◌≡◌, ◌≤◌, ◌++◌, ℕ, List, [], length, refl, sym, ap, subst, ◌∙◌, arith, Err}
use Rattle.far_asks.specs.declared.request.Reply.{Reply}
use Rattle.slice_seq.specs.Purses.{open_slices}
use Rattle.far_history.specs.Legal.{slices_of}
use Rattle.shelf_link.specs.Blocks as map
use Rattle.queue_block.specs.Items.{item_size}
use Rattle.queue_block.specs.Queues.{QueueBlock, pushed}
use Rattle.block_seats.specs.Noted.{NotedView}
use Rattle.block_seats.specs.Seatings.{SeatingView, IsNewNumber, open_of}
use Rattle.block_home.specs.Homes.{HomeView, room_of}
use Rattle.block_home.specs.Holding.{Holds}
use Rattle.block_home.specs.Stored.{FaultRose}
use Rattle.block_list.specs.Growth.{Grows, with_numbers}
use Rattle.block_list.specs.Lists.{KeepsOthers}
use Rattle.block_list.specs.Ends.{NamesBlock, IsNeverDamaged, IsPreparedEnd}
use Rattle.block_queue.specs.Queues.{QueueView, IsQueue, numbers_of, needed_of, added_of, need_of}
use Rattle.block_queue.specs.Changes.{IsHeldAs}
use Rattle.tenant_world.specs.declared.names.Content.TheVariants.{Queue}
use Rattle.tenant_world.specs.Rows.{block_rows}
use Rattle.tenant_world.specs.Keeping.{Keeping, IsKept, readied}
use Rattle.tenant_world.specs.Pushing.{HasRoomForOne, IsPushed, coming_for}
use Rattle.tenant_world.proofs.Served.{slices_none}
use Rattle.tenant_world.proofs.Ended.{prepared, names_before}
use Rattle.tenant_world.proofs.Fresh.{a_new_number}
use Rattle.tenant_world.proofs.Moved.{placed_count}
use Rattle.tenant_world.proofs.Returned.{moves_in, queue_rows}
use Rattle.tenant_world.proofs.QueueEnds.{pushed_end}
use Rattle.tenant_world.proofs.QueueOwn.{pushed_own, coming_need}
use Rattle.tenant_world.proofs.queues.push_queue.Goals as goal

-- a number that is new is so for a home whose notes were forgotten
still_new : (old : SeatingView) (numbers number : ℕ) → IsNewNumber old number → IsNewNumber (readied old numbers) number
still_new old numbers number is = record { fresh = is.fresh; least = is.least }

pub push_block_rows-requires : goal.push_block_rows-requires
push_block_rows-requires g c =
    let home : HomeView g.row.K.Denot = c.args.home.now in
    let old : SeatingView = home.seats in
    let queue : QueueView = c.args.queue.now in
    let item : List ℕ = c.args.item.now in
    let new : SeatingView = c.push.new.home.seats in
    let numbers : ℕ = c.prepare.new.self.seats.numbers in
    let number = a_new_number old in
    let is = prepared home c.clear_moves.new.self c.prepare.new.self c.clear_moves.ensures c.prepare.ensures.rest in
    let need_is : c.need-need.result ≡ need_of old queue (item_size item) = c.need-need.ensures.need ∙ ap (λ (h : HomeView g.row.K.Denot). need_of h.seats queue (item_size item)) c.clear_moves.ensures in
    let ready : c.need-need.result ≤ room_of (readied old numbers) = subst (λ (h : HomeView g.row.K.Denot). c.need-need.result ≤ room_of h.seats) is c.in_default.ensures.ready in
    let many = coming_need old queue item number.0 in
    let room : length (coming_for old queue item number.0) ≤ length (open_slices old.purse) = omega (arith, need_is, ready, many) in
    let grows : Grows (readied old new.numbers) (needed_of old queue (item_size item)) (added_of old queue (item_size item) number.0) new =
    subst (λ (h : HomeView g.row.K.Denot). (n : ℕ) → IsNewNumber h.seats n → Grows (with_numbers h.seats new.numbers) (needed_of h.seats queue (item_size item)) (added_of h.seats queue (item_size item) n) new) is c.in-Ok-push.ensures.grows number.0 (still_new old numbers number.0 number.1) in
    let count = placed_count old new.numbers [] (coming_for old queue item number.0) new c.requires.ready.ordered c.requires.ready.noted (moves_in old new.numbers (coming_for old queue item number.0) new room grows.comes) in
    let placed : length c.placed.result.now ≡ length new.moves.placed = ap length (c.placed.ensures ∙ ap (λ (m : NotedView). m.placed) c.moves.ensures) in
    omega (arith, count, many, placed, need_is, c.in-Ok.ensures.exact, c.in-Ok.ensures.len)

pub returns-in-Ok-push-clause-pushed : goal.returns-in-Ok-push-clause-pushed
returns-in-Ok-push-clause-pushed g c =
    let home : HomeView g.row.K.Denot = c.args.home.now in
    let old : SeatingView = home.seats in
    let queue : QueueView = c.args.queue.now in
    let queue' : QueueView = c.push.new.self in
    let item : List ℕ = c.args.item.now in
    let path : List ℕ = c.args.path.now in
    let now : HomeView g.row.K.Denot = c.push.new.home in
    let new : SeatingView = now.seats in
    let numbers : ℕ = c.prepare.new.self.seats.numbers in
    let told = g.K.Shelf.told in
    let ens = c.in-Ok-push.ensures in
    let number = a_new_number old in
    let came : List ℕ = coming_for old queue item number.0 in
    let is = prepared home c.clear_moves.new.self c.prepare.new.self c.clear_moves.ensures c.prepare.ensures.rest in
    let is_new : IsNewNumber (readied old numbers) number.0 = still_new old numbers number.0 number.1 in
    let need_is : c.need-need.result ≡ need_of old queue (item_size item) = c.need-need.ensures.need ∙ ap (λ (h : HomeView g.row.K.Denot). need_of h.seats queue (item_size item)) c.clear_moves.ensures in
    let ready : c.need-need.result ≤ room_of (readied old numbers) = subst (λ (h : HomeView g.row.K.Denot). c.need-need.result ≤ room_of h.seats) is c.in_default.ensures.ready in
    let many = coming_need old queue item number.0 in
    let room : length (coming_for old queue item number.0) ≤ length (open_slices old.purse) = omega (arith, need_is, ready, many) in
    let grows : Grows (readied old new.numbers) (needed_of old queue (item_size item)) (added_of old queue (item_size item) number.0) new =
    subst (λ (h : HomeView g.row.K.Denot). (n : ℕ) → IsNewNumber h.seats n → Grows (with_numbers h.seats new.numbers) (needed_of h.seats queue (item_size item)) (added_of h.seats queue (item_size item) n) new) is ens.grows number.0 is_new in
    let numbers_are : numbers_of queue' ≡ numbers_of queue ++ added_of old queue (item_size item) number.0 =
    subst (λ (h : HomeView g.row.K.Denot). (n : ℕ) → IsNewNumber h.seats n → numbers_of queue' ≡ numbers_of queue ++ added_of h.seats queue (item_size item) n) is ens.numbers number.0 is_new in
    let items = subst (λ (h : HomeView g.row.K.Denot). (m : map.Blocks) (blocks : List QueueBlock) (n : ℕ) → Holds m (told h.shelf) h.user h.seats.blocks → IsQueue m queue blocks → IsNewNumber h.seats n
    → IsHeldAs m (told now.shelf) h.user new queue' (pushed h.seats.size n blocks item) (numbers_of queue')) is ens.items in
    let rows : c.push_block_rows.new.rows.items ≡ block_rows path new.moves.placed =
    c.push_block_rows.ensures ∙ (λ i. c.in-Ok.ensures.items i ++ block_rows path ((c.placed.ensures ∙ ap (λ (m : NotedView). m.placed) c.moves.ensures) i)) in
    let placed = rows ∙ queue_rows old new.numbers came new c.requires.ready.ordered c.requires.ready.noted room grows.comes path in
    let none : c.args.moves.now.freed ≡ slices_of old.purse [] = c.requires.ready.freed ∙ sym (slices_none old.purse) in (
      record { is_queue = refl; room = omega (arith, c.count.ensures.count) },
      record {
        is_queue = refl;
        one_more = ens.count;
        number = number.0;
        is_new = number.1;
        adds = grows.adds;
        moves = pushed_own told home now queue queue' c.args.moves.now c.set_placed.new.self path item c.requires.sound ens.sound number.0 numbers_are
            (subst (λ (h : HomeView g.row.K.Denot). KeepsOthers h.seats.blocks new.blocks (numbers_of queue')) is ens.others)
            grows room
            (λ m blocks held its. items m blocks number.0 held its is_new)
            (c.set_placed.ensures ∙ (λ i. record c.args.moves.now { freed = none i; placed = placed i }));
      },
    )

pub returns-in-Err-push-clause-pushed : goal.returns-in-Err-push-clause-pushed
returns-in-Err-push-clause-pushed g c =
    let home : HomeView g.row.K.Denot = c.args.home.now in
    let old : SeatingView = home.seats in
    let queue : QueueView = c.args.queue.now in
    let item : List ℕ = c.args.item.now in
    let new : SeatingView = c.push.new.home.seats in
    let numbers : ℕ = c.prepare.new.self.seats.numbers in
    let told = g.K.Shelf.told in
    let faults = g.K.Shelf.faults in
    let shelf = c.push.new.home.shelf in
    let ens = c.in-Err-push.ensures in
    let end = c.in-Err-push.end in
    let is = prepared home c.clear_moves.new.self c.prepare.new.self c.clear_moves.ensures c.prepare.ensures.rest in
    let before : Keeping g.row.K.Denot = record { content = Queue queue; home = home; moves = c.args.moves.now } in
    let after : Keeping g.row.K.Denot = record { content = Queue c.push.new.self; home = c.push.new.home; moves = c.args.moves.now } in
    let need_is : c.need-need.result ≡ need_of old queue (item_size item) = c.need-need.ensures.need ∙ ap (λ (h : HomeView g.row.K.Denot). need_of h.seats queue (item_size item)) c.clear_moves.ensures in
    let ready : c.need-need.result ≤ room_of (readied old numbers) = subst (λ (h : HomeView g.row.K.Denot). c.need-need.result ≤ room_of h.seats) is c.in_default.ensures.ready in
    let ends : IsPreparedEnd end = subst (λ (h : HomeView g.row.K.Denot). need_of h.seats queue (item_size item) ≤ open_of h.seats → IsPreparedEnd end) is ens.enough (omega (arith, need_is, ready)) in
    let fits : HasRoomForOne before = record { is_queue = refl; room = omega (arith, c.count.ensures.count) } in
    let kept : IsKept told before after = record {
      content = ap (λ (q : QueueView). Queue q) ens.queue_stays;
      seats = ens.seats_stay ∙ ap (λ (h : HomeView g.row.K.Denot). with_numbers h.seats new.numbers) is;
      shelf = ens.told ∙ ap (λ (h : HomeView g.row.K.Denot). told h.shelf) is;
      moves = refl;
    } in
    subst (λ (r : Reply). IsPushed told faults before c.args.path.now item r after) (sym c.reply_of-in-Err-push.ensures)
    (pushed_end told faults (Unit {0}) before after c.args.path.now item end ends (record {
      rose = subst (λ (h : HomeView g.row.K.Denot). FaultRose {T = Unit {0}} (faults h.shelf) (faults shelf) (Err end)) is ens.cause.rose;
      names = names_before (Unit {0}) old numbers (numbers_of queue) end (subst (λ (h : HomeView g.row.K.Denot). NamesBlock {T = Unit {0}} h.seats (numbers_of queue) (Err end)) is ens.names);
      never = subst (λ (h : HomeView g.row.K.Denot). IsNeverDamaged {T = Unit {0}} (told h.shelf) h.user h.seats (Err end)) is ens.telling;
    }) fits kept)
