use Rattle.std.proofs.Common.{◌≡◌, ◌+◌, ◌-◌, ◌<◌, Bool, true, false, cond, length, get_or, Some, None, ℕ, refl, sym, ap, ◌∙◌, arith}
use Rattle.std.specs.VecDeque.{deque_len}
use Rattle.block_seats.specs.Seatings.{length_at}
use Rattle.block_queue.specs.Queues.{has_space}
use Rattle.block_queue.proofs.Marked.{last-at, target-at, le_is_true, le_is_false}
use Rattle.block_queue.proofs.marks.target.Goals as goal

pub returns-then-bytes-size-clause-target : goal.returns-then-bytes-size-clause-target
returns-then-bytes-size-clause-target g c =
    let marks = c.args.marks.now in
    let mark = c.in-Some.mark.now in
    let seats = c.args.home.now.seats in
    let long : deque_len marks ≡ length marks.items = marks.ok.0 in
    let some : 0 < length marks.items = omega (arith, c.in-Some.ensures.variant.0 refl) in
    let is : mark ≡ get_or marks.items (length marks.items - 1) mark = c.in-Some.ensures.lookup ∙ ap (λ (n : ℕ). get_or marks.items (n - 1) mark) long in
    let room : has_space seats c.args.bytes mark ≡ true = le_is_true (length_at seats mark.block + c.args.bytes) seats.size (omega (arith, c.length-used.ensures.value, c.length-used.ensures.limit, c.size-size.ensures.value)) in
    sym (target-at seats marks.items c.args.bytes mark (last-at marks.items mark some is) ∙ ap (λ (b : Bool). cond b (Some mark.block) None) room)

pub returns-else-bytes-size-clause-target : goal.returns-else-bytes-size-clause-target
returns-else-bytes-size-clause-target g c =
    let marks = c.args.marks.now in
    let mark = c.in-Some.mark.now in
    let seats = c.args.home.now.seats in
    let long : deque_len marks ≡ length marks.items = marks.ok.0 in
    let some : 0 < length marks.items = omega (arith, c.in-Some.ensures.variant.0 refl) in
    let is : mark ≡ get_or marks.items (length marks.items - 1) mark = c.in-Some.ensures.lookup ∙ ap (λ (n : ℕ). get_or marks.items (n - 1) mark) long in
    let room : has_space seats c.args.bytes mark ≡ false = le_is_false (length_at seats mark.block + c.args.bytes) seats.size (omega (arith, c.length-used.ensures.value, c.length-used.ensures.limit, c.size-size.ensures.value)) in
    sym (target-at seats marks.items c.args.bytes mark (last-at marks.items mark some is) ∙ ap (λ (b : Bool). cond b (Some mark.block) None) room)
