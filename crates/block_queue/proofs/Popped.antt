-- The first item of a queue, and what a map has of the queue once that was taken out.
use Rattle.std.proofs.Common.{◌≡◌, ◌≢◌, ℕ, ◌+◌, ◌<◌, ◌≤◌, min, Bool, true, false, cond, List, [], ◌∷◌, ◌++◌, length, map, take, get_or, Some, refl, sym, ap, ◌∙◌, subst, arith}
use Rattle.std.specs.Prelude.{All}
use Rattle.std.specs.List.{slice_get}
use Rattle.std.proofs.lemmas.List.{drop_more}
use Rattle.std.proofs.lemmas.List.Elements.{All-cons, All-head, All-tail, All-same}
use Rattle.shelf_link.specs.Blocks as map
use Rattle.shelf_link.specs.Told.{Told}
use Rattle.shelf_link.proofs.Blocks.{others_without_block}
use Rattle.block_seats.specs.Seatings.{SeatingView, length_at}
use Rattle.block_home.specs.Holding.{Holds}
use Rattle.queue_block.specs.Items.{head, item_size, items_bytes, BeginsAt}
use Rattle.queue_block.specs.Queues.{QueueBlock, unread, is_read_on, popped, popped_out}
use Rattle.queue_block.proofs.Spelling.{begins_behind, place_more, place_within}
use Rattle.block_queue.specs.declared.marks.Mark.{Mark}
use Rattle.block_queue.specs.Queues.{QueueView, numbers_of, mark_of, HasItems, IsQueue, IsMarked, IsSound}
use Rattle.block_queue.specs.Changes.{IsHeldAs, gone_of}
use Rattle.block_queue.proofs.Marked.{lt_is_true, lt_is_false, All-unmap, apart_first}
use Rattle.block_queue.proofs.Sounds.{mark_there}
use Rattle.block_queue.proofs.Queued.{held_length, numbers-blocks, all_kept}

-- the first item

-- the first block of a queue
pub record FirstOf (m : map.Blocks) (blocks : List QueueBlock) (mark : Mark) (rest : List Mark) : Type 0 where
  pub first : QueueBlock
  pub others : List QueueBlock
  pub parts : blocks ≡ first ∷ others
  pub mark_is : mark ≡ mark_of first
  pub rest_is : rest ≡ map mark_of others
  pub has : HasItems m first
  pub each : All (HasItems m) others

pub first_of : (m : map.Blocks) (blocks : List QueueBlock) (mark : Mark) (rest : List Mark) → IsQueue m (mark ∷ rest) blocks → FirstOf m blocks mark rest
first_of m [] mark rest is = let clash = is.marks in cc
first_of m (b ∷ blocks) mark rest is =
    let marks = is.marks in
    record {
      first = b;
      others = blocks;
      parts = refl;
      mark_is = cc;
      rest_is = cc;
      has = All-head (HasItems m) b blocks is.each;
      each = All-tail (HasItems m) b blocks is.each;
    }

module _ (m : map.Blocks) (seats : SeatingView) (blocks : List QueueBlock) (mark : Mark) (rest : List Mark) (sound : IsSound seats (mark ∷ rest)) (is : IsQueue m (mark ∷ rest) blocks) where
  abbrev firsts : FirstOf m blocks mark rest
  firsts = first_of m blocks mark rest is

  abbrev first : QueueBlock
  first = firsts.first

  abbrev item : List ℕ
  item = get_or first.items first.read []

  read_inside : first.read < length first.items
  read_inside =
      let left = (All-head (IsMarked seats) mark rest sound.each).left in
      let put : mark.put ≡ length first.items = ap (λ (x : Mark). x.put) firsts.mark_is in
      let read : mark.read ≡ first.read = ap (λ (x : Mark). x.read) firsts.mark_is in
      omega arith

  pub first_bytes : map.block_at m mark.block ≡ Some (items_bytes first.items)
  first_bytes = ap (λ (x : Mark). map.block_at m x.block) firsts.mark_is ∙ firsts.has.bytes

  -- it begins at the mark's place
  pub first_begins : BeginsAt (items_bytes first.items) mark.at (get_or first.items first.read [])
  first_begins =
      subst (λ (at : ℕ). BeginsAt (items_bytes first.items) at (get_or first.items first.read [])) (sym (ap (λ (x : Mark). x.at) firsts.mark_is))
      (begins_behind first.items first.read read_inside firsts.has.fit)

  -- and is the first that wasn't read
  pub first_unread : slice_get (unread blocks) 0 ≡ Some (get_or first.items first.read [])
  first_unread =
      ap (λ (bs : List QueueBlock). slice_get (unread bs) 0) firsts.parts
      ∙ ap (λ (xs : List (List ℕ)). slice_get (xs ++ unread firsts.others) 0) (drop_more first.items first.read [] read_inside)

  -- the place behind it
  pub next_place : length (items_bytes (take (first.read + 1) first.items)) ≡ mark.at + head + length (get_or first.items first.read [])
  next_place =
      place_more first.items first.read read_inside
      ∙ ap (λ (at : ℕ). at + item_size (get_or first.items first.read [])) (sym (ap (λ (x : Mark). x.at) firsts.mark_is))
      ∙ (let same : mark.at + (head + length (get_or first.items first.read [])) ≡ mark.at + head + length (get_or first.items first.read []) = omega arith in same)

  module _ (told : Told) (user : ℕ) (holds : Holds m told user seats.blocks) where
    first_long : length_at seats mark.block ≡ length (items_bytes first.items)
    first_long = held_length m told user seats mark.block (items_bytes first.items) holds (mark_there seats (mark ∷ rest) sound 0 mark (omega arith)) first_bytes

    -- one item more is read
    pub queue_first : (next : Mark) (len at : ℕ) → mark.read + 1 < mark.put → len ≡ length (get_or first.items first.read []) → at ≡ min (mark.at + head + len) (length_at seats mark.block)
        → next ≡ record { block = mark.block; put = mark.put; read = mark.read + 1; at = at }
        → IsHeldAs m told user seats (next ∷ rest) (popped blocks) (numbers_of (mark ∷ rest))
    queue_first next len at more len_is at_is next_is = record {
      now = m;
      held = holds;
      is = subst (IsQueue m (next ∷ rest)) (sym popped_is) (record {
        marks = (λ i. next_mark i ∷ firsts.rest_is i);
        each = All-cons (HasItems m) after firsts.others (record { bytes = firsts.has.bytes; fit = firsts.has.fit }) firsts.each;
      });
      keeps = record { others = λ q away. refl };
    }
      where
        after : QueueBlock
        after = record { block = first.block; items = first.items; read = first.read + 1 }

        goes_on : is_read_on first ≡ true
        goes_on =
            let put : mark.put ≡ length first.items = ap (λ (x : Mark). x.put) firsts.mark_is in
            let read : mark.read ≡ first.read = ap (λ (x : Mark). x.read) firsts.mark_is in
            lt_is_true (first.read + 1) (length first.items) (omega arith)

        popped_is : popped blocks ≡ record { block = first.block; items = first.items; read = first.read + 1 } ∷ firsts.others
        popped_is =
            ap popped firsts.parts
            ∙ ap (λ (t : Bool). cond t (record { block = first.block; items = first.items; read = first.read + 1 } ∷ firsts.others) firsts.others) goes_on

        at_place : at ≡ length (items_bytes (take (first.read + 1) first.items))
        at_place =
            let within = place_within first.items (first.read + 1) in
            let place = next_place in
            let long = first_long in
            omega arith

        next_mark : next ≡ mark_of (record { block = first.block; items = first.items; read = first.read + 1 })
        next_mark =
            next_is
            ∙ (λ i. record { block = (firsts.mark_is i).block; put = (firsts.mark_is i).put; read = (firsts.mark_is i).read + 1; at = at_place i })

  -- the first block is ended
  pub queue_rest : (told : Told) (user : ℕ) (new : SeatingView) → mark.put ≤ mark.read + 1 → Holds (map.without_block m mark.block) told user new.blocks
      → IsHeldAs m told user new rest (popped blocks) (numbers_of (mark ∷ rest))
  queue_rest told user new all after = record {
    now = map.without_block m mark.block;
    held = after;
    is = subst (IsQueue (map.without_block m mark.block) rest) (sym popped_is) (record {
      marks = firsts.rest_is;
      each = all_kept m (map.without_block m mark.block) mark.block firsts.others (others_without_block m mark.block) apart firsts.each;
    });
    keeps = record { others = λ q away. others_without_block m mark.block q (away 0 0 (omega arith)) };
  }
    where
      ends : is_read_on first ≡ false
      ends =
          let put : mark.put ≡ length first.items = ap (λ (x : Mark). x.put) firsts.mark_is in
          let read : mark.read ≡ first.read = ap (λ (x : Mark). x.read) firsts.mark_is in
          lt_is_false (first.read + 1) (length first.items) (omega arith)

      popped_is : popped blocks ≡ firsts.others
      popped_is =
          ap popped firsts.parts
          ∙ ap (λ (t : Bool). cond t (record { block = first.block; items = first.items; read = first.read + 1 } ∷ firsts.others) firsts.others) ends

      apart : All (λ (b : QueueBlock). b.block ≢ mark.block) firsts.others
      apart =
          let numbers : numbers_of rest ≡ map (λ (b : QueueBlock). b.block) firsts.others = ap numbers_of firsts.rest_is ∙ numbers-blocks firsts.others in
          All-unmap (λ (b : ℕ). b ≢ mark.block) (λ (b : QueueBlock). b.block) firsts.others
          (All-same (λ (b : ℕ). b ≢ mark.block) (map (λ (b : QueueBlock). b.block) firsts.others) (numbers_of rest) (sym numbers)
          (apart_first mark.block (numbers_of rest) sound.there.distinct))

-- the block that goes
pub gone_blocks : (m : map.Blocks) (queue : QueueView) (blocks : List QueueBlock) → IsQueue m queue blocks → gone_of queue ≡ popped_out blocks
gone_blocks m queue blocks is = ap gone_of is.marks ∙ by blocks
  where
    by : (bs : List QueueBlock) → gone_of (map mark_of bs) ≡ popped_out bs
    by [] = refl
    by (b ∷ bs) = refl
