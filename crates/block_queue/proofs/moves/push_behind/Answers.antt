use Rattle.std.proofs.Common.{◌≡◌, ◌≢◌, ◌+◌, ◌-◌, ◌^◌, ◌<◌, ◌≤◌, [], ◌++◌, ℕ, List, length, Some, Err, sym, ap, subst, ◌∙◌, arith}
use Rattle.std.specs.Prelude.{All}
use Rattle.std.specs.VecDeque.{deque_len}
use Rattle.std.proofs.lemmas.List.{length_push}
use Rattle.std.proofs.lemmas.List.Elements.{All-nil, All-cons}
use Rattle.shelf_link.specs.Blocks as map
use Rattle.block_seats.specs.Seatings.{HasBlock, length_at}
use Rattle.block_home.specs.Holding.{Holds}
use Rattle.queue_block.specs.Items.{head}
use Rattle.queue_block.specs.Queues.{pushed}
use Rattle.block_queue.specs.declared.marks.Mark.{Mark}
use Rattle.block_queue.specs.Queues.{QueueView, IsMarked, IsQueue, IsSound, numbers_of}
use Rattle.block_queue.specs.Changes.{IsHeldAs}
use Rattle.block_queue.proofs.Marked.{target_split, last_set, All-ends}
use Rattle.block_queue.proofs.Sounds.{mark_here, sound_behind, away_last, last_number, numbers_ends_same}
use Rattle.block_queue.proofs.Pushed.{queue_behind}
use Rattle.block_queue.proofs.Ended.{names_in}
use Rattle.block_queue.proofs.moves.push_behind.Goals as goal

pub write_behind-requires-clause-there : goal.write_behind-requires-clause-there
write_behind-requires-clause-there g c =
    let seats = c.args.home.now.seats in
    let at = target_split seats c.args.marks.now.items (length c.args.piece.now) c.args.block c.requires.target in
    subst (HasBlock seats) at.block_is (mark_here seats at.front at.mark (subst (IsSound seats) at.parts c.requires.sound))

pub write_behind-requires-clause-fits : goal.write_behind-requires-clause-fits
write_behind-requires-clause-fits g c =
    let seats = c.args.home.now.seats in
    let at = target_split seats c.args.marks.now.items (length c.args.piece.now) c.args.block c.requires.target in
    subst (λ (b : ℕ). length_at seats b + length c.args.piece.now ≤ seats.size) at.block_is at.space

pub returns-in-Err-clause-names : goal.returns-in-Err-clause-names
returns-in-Err-clause-names g c =
    let seats = c.args.home.now.seats in
    let queue = c.args.marks.now.items in
    let at = target_split seats queue (length c.args.piece.now) c.args.block c.requires.target in
    let number = last_number queue at.front at.mark at.parts in
    names_in {T = Unit {0}} seats (numbers_of queue) (length at.front) c.args.block (Err c.in-Err.end) number.0 (number.1 ∙ at.block_is) c.in-Err.ensures.names

pub overflow_add-index_mut : goal.overflow_add-index_mut
overflow_add-index_mut g c =
    let seats = c.args.home.now.seats in
    let queue = c.args.marks.now.items in
    let at = target_split seats queue (length c.args.piece.now) c.args.block c.requires.target in
    let long : deque_len c.args.marks.now ≡ length queue = c.args.marks.now.ok.0 in
    let many : length queue ≡ length at.front + 1 = ap (λ (q : QueueView). length q) at.parts ∙ length_push at.front at.mark in
    let here : c.len-last.result - 1 ≡ length at.front = omega (arith, c.len-last.ensures) in
    let read = (last_set queue at.front at.mark c.index_mut.result.now at.mark (c.len-last.result - 1) at.parts here c.index_mut.ensures.value).1 in
    let marked : IsMarked seats at.mark = (All-ends (IsMarked seats) at.front at.mark (subst (IsSound seats) at.parts c.requires.sound).each).1 in
    let small = marked.small in
    let put : c.index_mut.result.now.put ≡ at.mark.put = ap (λ (m : Mark). m.put) read in
    let few : length_at seats at.mark.block < 2 ^ 32 = subst (λ (b : ℕ). length_at seats b < 2 ^ 32) (sym at.block_is) c.in_default.ensures.few in
    omega arith

pub returns-clause-items : goal.returns-clause-items
returns-clause-items g c = λ m old number item holds is piece_is fits.
    let home = c.args.home.now in
    let new = c.write_behind.new.home in
    let queue = c.args.marks.now.items in
    let told = g.K.Shelf.told in
    let at = target_split home.seats queue (length c.args.piece.now) c.args.block c.requires.target in
    let long : deque_len c.args.marks.now ≡ length queue = c.args.marks.now.ok.0 in
    let many : length queue ≡ length at.front + 1 = ap (λ (q : QueueView). length q) at.parts ∙ length_push at.front at.mark in
    let here : c.len-last.result - 1 ≡ length at.front = omega (arith, c.len-last.ensures) in
    let read = c.index_mut.result.now in
    let next : Mark = record { block = read.block; put = read.put + 1; read = read.read; at = read.at } in
    let written = last_set queue at.front at.mark read next (c.len-last.result - 1) at.parts here c.index_mut.ensures.value in
    let next_is : next ≡ record { block = at.mark.block; put = at.mark.put + 1; read = at.mark.read; at = at.mark.at } =
    (λ i. record { block = (written.1 i).block; put = (written.1 i).put + 1; read = (written.1 i).read; at = (written.1 i).at }) in
    subst (λ (q : QueueView). IsHeldAs m (told new.shelf) home.user new.seats q (pushed home.seats.size number old item) (numbers_of q)) (sym written.0)
    (queue_behind m (told home.shelf) (told new.shelf) home.user home.seats new.seats at.front at.mark next old number item c.args.piece.now
    (subst (IsSound home.seats) at.parts c.requires.sound) (subst (λ (q : QueueView). IsQueue m q old) at.parts is) holds piece_is fits at.space next_is
    (subst (λ (b : ℕ). (bytes : List ℕ) → map.block_at m b ≡ Some bytes → Holds (map.with_block m b (bytes ++ c.args.piece.now)) (told new.shelf) home.user new.seats.blocks) (sym at.block_is)
    (λ bytes there. c.in_default.ensures.bytes m bytes holds there)))

pub returns-clause-numbers : goal.returns-clause-numbers
returns-clause-numbers g c =
    let home = c.args.home.now in
    let queue = c.args.marks.now.items in
    let at = target_split home.seats queue (length c.args.piece.now) c.args.block c.requires.target in
    let long : deque_len c.args.marks.now ≡ length queue = c.args.marks.now.ok.0 in
    let many : length queue ≡ length at.front + 1 = ap (λ (q : QueueView). length q) at.parts ∙ length_push at.front at.mark in
    let here : c.len-last.result - 1 ≡ length at.front = omega (arith, c.len-last.ensures) in
    let read = c.index_mut.result.now in
    let next : Mark = record { block = read.block; put = read.put + 1; read = read.read; at = read.at } in
    let written = last_set queue at.front at.mark read next (c.len-last.result - 1) at.parts here c.index_mut.ensures.value in
    ap numbers_of written.0 ∙ numbers_ends_same at.front at.mark next (ap (λ (m : Mark). m.block) written.1) ∙ ap numbers_of (sym at.parts)

pub returns-clause-sound : goal.returns-clause-sound
returns-clause-sound g c =
    let home = c.args.home.now in
    let new = c.write_behind.new.home in
    let queue = c.args.marks.now.items in
    let at = target_split home.seats queue (length c.args.piece.now) c.args.block c.requires.target in
    let long : deque_len c.args.marks.now ≡ length queue = c.args.marks.now.ok.0 in
    let many : length queue ≡ length at.front + 1 = ap (λ (q : QueueView). length q) at.parts ∙ length_push at.front at.mark in
    let here : c.len-last.result - 1 ≡ length at.front = omega (arith, c.len-last.ensures) in
    let read = c.index_mut.result.now in
    let next : Mark = record { block = read.block; put = read.put + 1; read = read.read; at = read.at } in
    let written = last_set queue at.front at.mark read next (c.len-last.result - 1) at.parts here c.index_mut.ensures.value in
    let next_is : next ≡ record { block = at.mark.block; put = at.mark.put + 1; read = at.mark.read; at = at.mark.at } =
    (λ i. record { block = (written.1 i).block; put = (written.1 i).put + 1; read = (written.1 i).read; at = (written.1 i).at }) in
    let room : length_at home.seats c.args.block + head ≤ length_at new.seats c.args.block = omega (arith, c.in_default.ensures.longer, c.requires.some) in
    subst (IsSound new.seats) (sym written.0)
    (sound_behind home.seats new.seats at.front at.mark next c.in_default.ensures.same_blocks c.in_default.ensures.lengths
    (subst (λ (b : ℕ). length_at home.seats b + head ≤ length_at new.seats b) (sym at.block_is) room) next_is (subst (IsSound home.seats) at.parts c.requires.sound))

pub returns-clause-others : goal.returns-clause-others
returns-clause-others g c =
    let home = c.args.home.now in
    let queue = c.args.marks.now.items in
    let at = target_split home.seats queue (length c.args.piece.now) c.args.block c.requires.target in
    record {
      others = λ q away.
          let apart : q ≢ c.args.block = subst (λ (b : ℕ). q ≢ b) at.block_is (away_last at.front at.mark q (subst (λ (n : QueueView). All (λ b. q ≢ b) (numbers_of n)) at.parts away)) in
          c.in_default.ensures.others.others q (All-cons (λ b. q ≢ b) c.args.block [] apart (All-nil (λ b. q ≢ b)));
    }
