use Rattle.std.proofs.Common.{◌≡◌, ◌<◌, ◌∷◌, ℕ, List, length, drop, get_or, Some, Option, Err, [], refl, sym, ap, subst, ◌∙◌, arith}
use Rattle.std.specs.VecDeque.{deque_len}
use Rattle.block_list.proofs.Ended.{undamaged_again}
use Rattle.block_queue.specs.Queues.{QueueView, IsQueue, IsSound, numbers_of}
use Rattle.block_queue.proofs.Marked.{first_rest}
use Rattle.block_queue.proofs.Popped.{first_bytes, first_begins, first_unread}
use Rattle.block_queue.proofs.Ended.{names_in, names_again}
use Rattle.block_queue.proofs.QueueBody.front.Goals as goal
use Rattle.block_queue.proofs.QueueBody.front.Goals.{in-Ok, in-Err}

pub returns-clause-item : goal.returns-clause-item
returns-clause-item g c =
    let seats = c.args.home.now.seats in
    let marks = c.self.inside.marks in
    let mark = c.in-Some.mark.now in
    let rest = drop 1 marks.items in
    let long : deque_len marks ≡ length marks.items = marks.ok.0 in
    let some : 0 < length marks.items = omega (arith, c.in-Some.ensures.variant.0 refl) in
    let parts : c.args.self.now ≡ mark ∷ rest = sym c.self.view_is ∙ first_rest marks.items mark some c.in-Some.ensures.lookup in
    elim c.match-read_item.branch [
      | in-Ok w ↦
          rw w.result-is
          (λ m old holds is.
          let sound = subst (IsSound seats) parts c.requires.sound in
          let queued = subst (λ (q : QueueView). IsQueue m q old) parts is in
          ap Some (w.in-Ok.ensures.item m _ _ holds (first_bytes m seats old mark rest sound queued) (first_begins m seats old mark rest sound queued))
          ∙ sym (first_unread m seats old mark rest sound queued))
      | in-Err w ↦ rw w.result-is tt
    ]

pub returns-clause-names : goal.returns-clause-names
returns-clause-names g c =
    let seats = c.args.home.now.seats in
    let marks = c.self.inside.marks in
    let mark = c.in-Some.mark.now in
    let rest = drop 1 marks.items in
    let long : deque_len marks ≡ length marks.items = marks.ok.0 in
    let some : 0 < length marks.items = omega (arith, c.in-Some.ensures.variant.0 refl) in
    let parts : c.args.self.now ≡ mark ∷ rest = sym c.self.view_is ∙ first_rest marks.items mark some c.in-Some.ensures.lookup in
    let numbers : numbers_of c.args.self.now ≡ mark.block ∷ numbers_of rest = ap numbers_of parts in
    elim c.match-read_item.branch [
      | in-Ok w ↦ rw w.result-is tt
      | in-Err w ↦
          rw w.result-is
          (names_in {T = Option (List ℕ)} seats (numbers_of c.args.self.now) 0 mark.block (Err w.in-Err.end)
          (subst (λ (ns : List ℕ). 0 < length ns) (sym numbers) (omega arith)) (ap (λ (ns : List ℕ). get_or ns 0 0) numbers)
          (names_again (List ℕ) (Option (List ℕ)) seats (mark.block ∷ []) w.in-Err.end w.in-Err.ensures.names))
    ]

pub returns-clause-telling : goal.returns-clause-telling
returns-clause-telling g c = λ tells m old holds is.
    let seats = c.args.home.now.seats in
    let marks = c.self.inside.marks in
    let mark = c.in-Some.mark.now in
    let rest = drop 1 marks.items in
    let long : deque_len marks ≡ length marks.items = marks.ok.0 in
    let some : 0 < length marks.items = omega (arith, c.in-Some.ensures.variant.0 refl) in
    let parts : c.args.self.now ≡ mark ∷ rest = sym c.self.view_is ∙ first_rest marks.items mark some c.in-Some.ensures.lookup in
    let sound = subst (IsSound seats) parts c.requires.sound in
    let queued = subst (λ (q : QueueView). IsQueue m q old) parts is in
    elim c.match-read_item.branch [
      | in-Ok w ↦ rw w.result-is tt
      | in-Err w ↦
          rw w.result-is
          (undamaged_again (List ℕ) (Option (List ℕ)) w.in-Err.end
          (w.in-Err.ensures.telling tells m _ _ holds (first_bytes m seats old mark rest sound queued) (first_begins m seats old mark rest sound queued)))
    ]
