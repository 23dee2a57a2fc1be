use Rattle.std.proofs.Common.{◌≡◌, ◌≢◌, ◌+◌, ◌∷◌, ℕ, List, min, length, drop, set, sym, ap, subst, ◌∙◌, arith}
use Rattle.std.specs.Prelude.{All}
use Rattle.std.specs.VecDeque.{deque_len}
use Rattle.std.specs.Ordering.{nat_cmp}
use Rattle.std.specs.FinMap.{find}
use Rattle.std.proofs.lemmas.Option.{same_Some}
use Rattle.block_seats.specs.Seatings.{length_at}
use Rattle.block_home.proofs.Held.{without_other}
use Rattle.queue_block.specs.Items.{head}
use Rattle.queue_block.specs.Queues.{popped}
use Rattle.block_queue.specs.declared.marks.Mark.{Mark}
use Rattle.block_queue.specs.Queues.{QueueView, IsQueue, IsSound, numbers_of}
use Rattle.block_queue.specs.Changes.{IsHeldAs}
use Rattle.block_queue.proofs.Marked.{first_rest}
use Rattle.block_queue.proofs.Sounds.{sound_rest}
use Rattle.block_queue.proofs.Popped.{first_unread, queue_first, queue_rest}
use Rattle.block_queue.proofs.moves.take_first.Goals as goal

pub returns-then-mark-clause-items : goal.returns-then-mark-clause-items
returns-then-mark-clause-items g c = λ m old item holds is unread_is len_is.
    let home = c.args.home.now in
    let told = g.K.Shelf.told in
    let queue = c.args.marks.now.items in
    let mark = c.index-mark.result.now in
    let rest = drop 1 queue in
    let long : deque_len c.args.marks.now ≡ length queue = c.args.marks.now.ok.0 in
    let parts : queue ≡ mark ∷ rest = first_rest queue mark (omega (arith, c.requires.some)) c.index-mark.ensures in
    let next : Mark = record { block = mark.block; put = mark.put; read = mark.read + 1; at = c.min.result } in
    let sound = subst (IsSound home.seats) parts c.requires.sound in
    let queued = subst (λ (q : QueueView). IsQueue m q old) parts is in
    let item_is = same_Some item _ (sym unread_is ∙ first_unread m home.seats old mark rest sound queued) in
    let at_is : c.min.result ≡ min (mark.at + head + c.args.len) (length_at home.seats mark.block) = omega (arith, c.min.ensures, c.saturating_add-end.ensures, c.length.ensures.value, c.length.type_inv) in
    subst (λ (q : QueueView). IsHeldAs m (told home.shelf) home.user home.seats (set q 0 next) (popped old) (numbers_of q)) (sym parts)
    (queue_first m home.seats old mark rest sound queued (told home.shelf) home.user holds next c.args.len c.min.result c.if-mark.true (len_is ∙ ap (λ (xs : List ℕ). length xs) item_is) at_is (λ i. next))

pub returns-else-mark-clause-items : goal.returns-else-mark-clause-items
returns-else-mark-clause-items g c = λ m old item holds is unread_is len_is.
    let home = c.args.home.now in
    let new = c.cut.new.self in
    let told = g.K.Shelf.told in
    let queue = c.args.marks.now.items in
    let mark = c.index-mark.result.now in
    let rest = drop 1 queue in
    let long : deque_len c.args.marks.now ≡ length queue = c.args.marks.now.ok.0 in
    let parts : queue ≡ mark ∷ rest = first_rest queue mark (omega (arith, c.requires.some)) c.index-mark.ensures in
    let sound = subst (IsSound home.seats) parts c.requires.sound in
    let queued = subst (λ (q : QueueView). IsQueue m q old) parts is in
    subst (λ (q : QueueView). IsHeldAs m (told new.shelf) home.user new.seats q (popped old) (numbers_of queue)) (sym c.pop_front.ensures.rest)
    (subst (λ (q : QueueView). IsHeldAs m (told new.shelf) home.user new.seats rest (popped old) (numbers_of q)) (sym parts)
    (queue_rest m home.seats old mark rest sound queued (told new.shelf) home.user new.seats c.if-mark.false (c.cut.ensures.holds m holds)))

pub returns-else-mark-clause-sound : goal.returns-else-mark-clause-sound
returns-else-mark-clause-sound g c =
    let home = c.args.home.now in
    let queue = c.args.marks.now.items in
    let mark = c.index-mark.result.now in
    let long : deque_len c.args.marks.now ≡ length queue = c.args.marks.now.ok.0 in
    let parts : queue ≡ mark ∷ drop 1 queue = first_rest queue mark (omega (arith, c.requires.some)) c.index-mark.ensures in
    subst (IsSound c.cut.new.self.seats) (sym c.pop_front.ensures.rest)
    (sound_rest home.seats c.cut.new.self.seats mark (drop 1 queue) c.cut.ensures.blocks (subst (IsSound home.seats) parts c.requires.sound))

pub returns-else-mark-clause-others : goal.returns-else-mark-clause-others
returns-else-mark-clause-others g c =
    let queue = c.args.marks.now.items in
    let mark = c.index-mark.result.now in
    let long : deque_len c.args.marks.now ≡ length queue = c.args.marks.now.ok.0 in
    let parts : queue ≡ mark ∷ drop 1 queue = first_rest queue mark (omega (arith, c.requires.some)) c.index-mark.ensures in
    record {
      others = λ q away.
          let apart : q ≢ mark.block = subst (λ (n : QueueView). All (λ b. q ≢ b) (numbers_of n)) parts away 0 0 (omega arith) in
          ap (find nat_cmp q) c.cut.ensures.blocks ∙ without_other c.args.home.now.seats.blocks mark.block q apart;
    }
