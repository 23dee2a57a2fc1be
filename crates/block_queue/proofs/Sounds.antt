-- What stands of a queue over every store, as its blocks change.
use Rattle.std.proofs.Common.{◌≡◌, ◌≢◌, ℕ, suc, ◌+◌, ◌<◌, ◌≤◌, false, is_some, List, [], ◌∷◌, ◌++◌, length, get_or, None, Option, refl, sym, ap, ◌∙◌, subst, inl, inr, arith}
use Rattle.std.specs.Prelude.{All}
use Rattle.std.specs.Ordering.{nat_cmp}
use Rattle.std.specs.FinMap.{find, put}
use Rattle.std.proofs.lemmas.Bool.{cases_eq, cases_lt}
use Rattle.std.proofs.lemmas.List.{get_or-map, length-map, map-append, get_or_push, length_push}
use Rattle.std.proofs.lemmas.List.Elements.{All-cons, All-head, All-tail, All-push, All-weaker}
use Rattle.std.proofs.lemmas.List.Sums.{sum_by-cons, sum_by-append}
use Rattle.block_seats.specs.Blocks.{BlockView, InSlice, length_of, seen}
use Rattle.block_seats.specs.Tables.{without}
use Rattle.block_seats.specs.Seatings.{SeatingView, HasBlock, IsNewNumber, length_at}
use Rattle.block_home.proofs.Held.{put_here, put_other, without_other}
use Rattle.block_list.specs.Lists.{AreThere}
use Rattle.block_list.proofs.There.{there-none, there_kept, there-push}
use Rattle.queue_block.specs.Items.{head}
use Rattle.block_queue.specs.declared.marks.Mark.{Mark}
use Rattle.block_queue.specs.Queues.{QueueView, numbers_of, left_in, count_of, IsMarked, IsSound}
use Rattle.block_queue.proofs.Marked.{All-ends, All-unmap, apart_first, pairs-tail}

-- the block of a mark is there
pub mark_there : (seats : SeatingView) (queue : QueueView) → IsSound seats queue → (i : ℕ) (d : Mark) → i < length queue → HasBlock seats (get_or queue i d).block
mark_there seats queue sound i d inside =
    ap (λ (b : ℕ). is_some (find nat_cmp b seats.blocks)) (sym (get_or-map (λ (mark : Mark). mark.block) queue i d 0 inside))
    ∙ sound.there.each i (omega (arith, length-map queue (λ (mark : Mark). mark.block)))

-- the last block is there
pub mark_here : (seats : SeatingView) (front : List Mark) (mark : Mark) → IsSound seats (front ++ mark ∷ []) → HasBlock seats mark.block
mark_here seats front mark sound =
    ap (λ (x : Mark). is_some (find nat_cmp x.block seats.blocks)) (sym (get_or_push front mark mark (length front) refl))
    ∙ mark_there seats (front ++ mark ∷ []) sound (length front) mark (omega (arith, length_push front mark))

pub sound-none : (seats : SeatingView) → IsSound seats []
sound-none seats = record { there = there-none seats; each = λ k d inside. absurd (omega arith) }

-- a block may grow
pub marked_more : (old new : SeatingView) (mark : Mark) → length_at old mark.block ≤ length_at new mark.block → IsMarked old mark → IsMarked new mark
marked_more old new mark longer is =
    let within = is.within in
    let small = is.small in
    record { left = is.left; within = omega arith; small = omega arith }

-- the same numbers name blocks, none of which is shorter
pub sound_kept : (old new : SeatingView) (queue : QueueView) → ((q : ℕ) → is_some (find nat_cmp q new.blocks) ≡ is_some (find nat_cmp q old.blocks))
    → ((q : ℕ) → length_at old q ≤ length_at new q) → IsSound old queue → IsSound new queue
sound_kept old new queue same longer sound = record {
  there = there_kept old new (numbers_of queue) same sound.there;
  each = λ k d inside. marked_more old new (get_or queue k d) (longer (get_or queue k d).block) (sound.each k d inside);
}

pub numbers-ends : (front : List Mark) (mark : Mark) → numbers_of (front ++ mark ∷ []) ≡ numbers_of front ++ mark.block ∷ []
numbers-ends front mark = map-append (λ (m : Mark). m.block) front (mark ∷ [])

-- the number of the last block
pub last_number : (queue front : List Mark) (mark : Mark) → queue ≡ front ++ mark ∷ [] → (length front < length (numbers_of queue)) × (get_or (numbers_of queue) (length front) 0 ≡ mark.block)
last_number queue front mark parts =
    let are : numbers_of queue ≡ numbers_of front ++ mark.block ∷ [] = ap numbers_of parts ∙ numbers-ends front mark in
    let long : length (numbers_of front) ≡ length front = length-map front (λ (m : Mark). m.block) in (
      omega (arith, ap (λ (ns : List ℕ). length ns) are, length_push (numbers_of front) mark.block, long),
      ap (λ (ns : List ℕ). get_or ns (length front) 0) are ∙ get_or_push (numbers_of front) mark.block 0 (length front) long,
    )

-- a number that no block has isn't the last one's
pub away_last : (front : List Mark) (mark : Mark) (q : ℕ) → All (λ b. q ≢ b) (numbers_of (front ++ mark ∷ [])) → q ≢ mark.block
away_last front mark q away =
    (All-ends (λ (b : ℕ). q ≢ b) (numbers_of front) mark.block (subst (λ (ns : List ℕ). All (λ b. q ≢ b) ns) (numbers-ends front mark) away)).1

-- a new number is one
pub number_one : (seats : SeatingView) (a b : ℕ) → IsNewNumber seats a → IsNewNumber seats b → a ≡ b
number_one seats a b first second =
    elim (cases_lt a b) [
      | inl below ↦ let there = second.least a below in let none = first.fresh in let clash = sym there ∙ ap is_some none in cc
      | inr above ↦
          elim (cases_lt b a) [
            | inl below ↦ let there = first.least b below in let none = second.fresh in let clash = sym there ∙ ap is_some none in cc
            | inr equal ↦ omega arith
          ]
    ]

pub number_kept : (old new : SeatingView) (block : ℕ) → new.blocks ≡ old.blocks → IsNewNumber old block → IsNewNumber new block
number_kept old new block same number = record {
  fresh = ap (find nat_cmp block) same ∙ number.fresh;
  least = λ lower below. ap (λ bs. is_some (find nat_cmp lower bs)) same ∙ number.least lower below;
}

pub numbers_ends_same : (front : List Mark) (mark next : Mark) → next.block ≡ mark.block → numbers_of (front ++ next ∷ []) ≡ numbers_of (front ++ mark ∷ [])
numbers_ends_same front mark next same =
    numbers-ends front next ∙ ap (λ (b : ℕ). numbers_of front ++ b ∷ []) same ∙ sym (numbers-ends front mark)

-- one item more was put in the last block
pub sound_behind : (old new : SeatingView) (front : List Mark) (mark next : Mark) → ((q : ℕ) → is_some (find nat_cmp q new.blocks) ≡ is_some (find nat_cmp q old.blocks))
    → ((q : ℕ) → length_at old q ≤ length_at new q) → length_at old mark.block + head ≤ length_at new mark.block
    → next ≡ record { block = mark.block; put = mark.put + 1; read = mark.read; at = mark.at } → IsSound old (front ++ mark ∷ []) → IsSound new (front ++ next ∷ [])
sound_behind old new front mark next same longer room next_is sound =
    let parts = All-ends (IsMarked old) front mark sound.each in
    let last = parts.1 in
    let left = last.left in
    let within = last.within in
    let small = last.small in
    let grown = longer mark.block in
    let one : IsMarked new (record { block = mark.block; put = mark.put + 1; read = mark.read; at = mark.at }) = record { left = omega arith; within = omega arith; small = omega arith } in
    record {
      there = subst (AreThere new) (sym (numbers_ends_same front mark next (ap (λ (m : Mark). m.block) next_is))) (there_kept old new (numbers_of (front ++ mark ∷ [])) same sound.there);
      each = All-push (IsMarked new) front next
          (All-weaker (IsMarked old) (IsMarked new) (λ m is. marked_more old new m (longer m.block) is) front parts.0)
          (subst (IsMarked new) (sym next_is) one);
    }

-- a block more was made
length_none : (seats : SeatingView) (block : ℕ) → find nat_cmp block seats.blocks ≡ None → length_at seats block ≡ 0
length_none seats block none = ap (λ (o : Option BlockView). length_of (seen o)) none

pub length_new : (old new : SeatingView) (block : ℕ) (piece : List ℕ) → new.blocks ≡ put nat_cmp block (InSlice piece false) old.blocks → length_at new block ≡ length piece
length_new old new block piece is =
    ap (λ (o : Option BlockView). length_of (seen o)) (ap (find nat_cmp block) is ∙ put_here old.blocks block (InSlice piece false))

pub longer_new : (old new : SeatingView) (block : ℕ) (piece : List ℕ) → new.blocks ≡ put nat_cmp block (InSlice piece false) old.blocks → find nat_cmp block old.blocks ≡ None
    → (q : ℕ) → length_at old q ≤ length_at new q
longer_new old new block piece is fresh q =
    elim (cases_eq q block) [
      | inl same ↦
          let none : length_at old q ≡ 0 = ap (length_at old) same ∙ length_none old block fresh in
          omega arith
      | inr apart ↦
          let other : length_at new q ≡ length_at old q = ap (λ (o : Option BlockView). length_of (seen o)) (ap (find nat_cmp q) is ∙ put_other old.blocks block (InSlice piece false) q apart) in
          omega arith
    ]

pub sound_after : (old new : SeatingView) (queue : QueueView) (block : ℕ) (piece : List ℕ) (mark : Mark) → new.blocks ≡ put nat_cmp block (InSlice piece false) old.blocks
    → find nat_cmp block old.blocks ≡ None → head ≤ length piece → mark ≡ record { block = block; put = 1; read = 0; at = 0 } → IsSound old queue → IsSound new (queue ++ mark ∷ [])
sound_after old new queue block piece mark is fresh some mark_is sound =
    let long = length_new old new block piece is in
    let one : IsMarked new (record { block = block; put = 1; read = 0; at = 0 }) = record { left = omega arith; within = omega arith; small = omega arith } in
    record {
      there = subst (AreThere new) (sym (numbers-ends queue mark ∙ ap (λ (m : Mark). numbers_of queue ++ m.block ∷ []) mark_is)) (there-push old new (numbers_of queue) block (InSlice piece false) is fresh sound.there);
      each = All-push (IsMarked new) queue mark
          (All-weaker (IsMarked old) (IsMarked new) (λ m marked. marked_more old new m (longer_new old new block piece is fresh m.block) marked) queue sound.each)
          (subst (IsMarked new) (sym mark_is) one);
    }

-- one item more of the first block was read
pub sound_first : (seats : SeatingView) (mark next : Mark) (rest : List Mark) (at : ℕ) → mark.read + 1 < mark.put → at ≤ length_at seats mark.block
    → next ≡ record { block = mark.block; put = mark.put; read = mark.read + 1; at = at } → IsSound seats (mark ∷ rest) → IsSound seats (next ∷ rest)
sound_first seats mark next rest at more within next_is sound =
    let one : IsMarked seats (record { block = mark.block; put = mark.put; read = mark.read + 1; at = at }) =
    record { left = more; within = within; small = (All-head (IsMarked seats) mark rest sound.each).small } in
    record {
      there = subst (λ (b : ℕ). AreThere seats (b ∷ numbers_of rest)) (sym (ap (λ (m : Mark). m.block) next_is)) sound.there;
      each = All-cons (IsMarked seats) next rest (subst (IsMarked seats) (sym next_is) one) (All-tail (IsMarked seats) mark rest sound.each);
    }

-- the first block was ended
pub sound_rest : (old new : SeatingView) (mark : Mark) (rest : List Mark) → new.blocks ≡ without mark.block old.blocks → IsSound old (mark ∷ rest) → IsSound new rest
sound_rest old new mark rest is sound = record {
  there = record {
    distinct = pairs-tail mark.block (numbers_of rest) sound.there.distinct;
    each = λ i inside. ap is_some (other (get_or (numbers_of rest) i 0) (apart i 0 inside)) ∙ sound.there.each (suc i) (omega arith);
  };
  each = λ k d inside.
      let here : (get_or rest k d).block ≢ mark.block = All-unmap (λ (b : ℕ). b ≢ mark.block) (λ (m : Mark). m.block) rest apart k d inside in
      let same : length_at new (get_or rest k d).block ≡ length_at old (get_or rest k d).block = ap (λ (o : Option BlockView). length_of (seen o)) (other (get_or rest k d).block here) in
      marked_more old new (get_or rest k d) (omega arith) (All-tail (IsMarked old) mark rest sound.each k d inside);
}
  where
    apart : All (λ b. b ≢ mark.block) (numbers_of rest)
    apart = apart_first mark.block (numbers_of rest) sound.there.distinct

    other : (q : ℕ) → q ≢ mark.block → find nat_cmp q new.blocks ≡ find nat_cmp q old.blocks
    other q away = ap (find nat_cmp q) is ∙ without_other old.blocks mark.block q away

-- counts

pub count-ends : (front : List Mark) (mark : Mark) → count_of (front ++ mark ∷ []) ≡ count_of front + left_in mark
count-ends front mark =
    sum_by-append left_in front (mark ∷ []) ∙ ap (λ (n : ℕ). count_of front + n) (sum_by-cons left_in mark [] ∙ (let none : left_in mark + 0 ≡ left_in mark = omega arith in none))

pub count-first : (mark : Mark) (rest : List Mark) → count_of (mark ∷ rest) ≡ left_in mark + count_of rest
count-first mark rest = sum_by-cons left_in mark rest
