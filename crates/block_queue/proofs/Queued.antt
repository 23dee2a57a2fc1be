-- What a map has of a queue: its blocks and their items.
use Rattle.std.proofs.Common.{◌≡◌, ◌≢◌, ℕ, ◌+◌, true, is_some, List, [], ◌∷◌, ◌++◌, length, map, drop, get_or, Some, None, Option, refl, sym, ap, ◌∙◌, subst, length-append}
use Rattle.std.specs.Prelude.{All}
use Rattle.std.specs.Ordering.{nat_cmp}
use Rattle.std.specs.FinMap.{find}
use Rattle.std.proofs.lemmas.Option.{same_Some}
use Rattle.std.proofs.lemmas.List.{length-drop}
use Rattle.std.proofs.lemmas.List.Sums.{sum_by-cons}
use Rattle.std.proofs.lemmas.List.Elements.{All-nil}
use Rattle.shelf_link.specs.Blocks as map
use Rattle.shelf_link.specs.Told.{Told}
use Rattle.block_seats.specs.Blocks.{BlockView, InSlice, InStore, length_of, seen}
use Rattle.block_seats.specs.Seatings.{SeatingView, HasBlock, length_at}
use Rattle.block_home.specs.Holding.{IsHeld, Holds}
use Rattle.queue_block.specs.Queues.{QueueBlock, unread}
use Rattle.block_queue.specs.declared.marks.Mark.{Mark}
use Rattle.block_queue.specs.Queues.{QueueView, numbers_of, left_in, count_of, mark_of, HasItems, IsQueue, last_mark}
use Rattle.block_queue.proofs.Marked.{ends_in, no_last}

-- a block is as long as its bytes
pub held_length : (m : map.Blocks) (told : Told) (user : ℕ) (seats : SeatingView) (block : ℕ) (bytes : List ℕ) → Holds m told user seats.blocks → HasBlock seats block
    → map.block_at m block ≡ Some bytes → length_at seats block ≡ length bytes
held_length m told user seats block bytes holds there at = by (find nat_cmp block seats.blocks) there (holds.each block)
  where
    by : (o : Option BlockView) → is_some o ≡ true → IsHeld m told user block o → length_of (seen o) ≡ length bytes
    by None some held = cc
    by (Some (InSlice bs was)) some held = ap (λ (xs : List ℕ). length xs) (same_Some bs bytes (sym held ∙ at))
    by (Some (InStore stamp)) some held = ap (λ s. s.length) held.stamped ∙ ap (λ (xs : List ℕ). length xs) (same_Some held.bytes bytes (sym held.there ∙ at))

-- no block of this number is held where none is there
pub held_none : (m : map.Blocks) (told : Told) (user : ℕ) (seats : SeatingView) (block : ℕ) → Holds m told user seats.blocks → find nat_cmp block seats.blocks ≡ None → map.block_at m block ≡ None
held_none m told user seats block holds none = subst (λ o. IsHeld m told user block o) none (holds.each block)

-- a queue has no mark, or a last one
pub data Ends (queue : QueueView) : Type 0 where
  NoMark : (none : queue ≡ []) → Ends queue
  AMark : (front : List Mark) (mark : Mark) (parts : queue ≡ front ++ mark ∷ []) → Ends queue

pub cases_ends : (queue : QueueView) → Ends queue
cases_ends queue = by (last_mark queue) refl
  where
    by : (o : Option Mark) → last_mark queue ≡ o → Ends queue
    by None none = NoMark (no_last queue none)
    by (Some mark) some = let ends = ends_in queue mark some in AMark ends.front mark ends.parts

-- a queue of no block
pub queue-none : (m : map.Blocks) → IsQueue m [] []
queue-none m = record { marks = refl; each = All-nil (HasItems m) }

-- the numbers of blocks
pub numbers-blocks : (blocks : List QueueBlock) → numbers_of (map mark_of blocks) ≡ map (λ (b : QueueBlock). b.block) blocks
numbers-blocks [] = refl
numbers-blocks (b ∷ blocks) = ap (λ (ns : List ℕ). b.block ∷ ns) (numbers-blocks blocks)

-- a last block
pub record LastOf (blocks : List QueueBlock) (front : List Mark) (mark : Mark) : Type 0 where
  pub before : List QueueBlock
  pub last : QueueBlock
  pub parts : blocks ≡ before ++ last ∷ []
  pub front_is : front ≡ map mark_of before
  pub mark_is : mark ≡ mark_of last

pub last_of : (blocks : List QueueBlock) (front : List Mark) (mark : Mark) → front ++ mark ∷ [] ≡ map mark_of blocks → LastOf blocks front mark
last_of [] [] mark same = cc
last_of [] (x ∷ front) mark same = cc
last_of (b ∷ []) [] mark same = record { before = []; last = b; parts = refl; front_is = refl; mark_is = cc }
last_of (b ∷ c ∷ blocks) [] mark same = cc
last_of (b ∷ blocks) (x ∷ front) mark same =
    let rest = last_of blocks front mark cc in
    let first : x ≡ mark_of b = cc in
    record {
      before = b ∷ rest.before;
      last = rest.last;
      parts = ap (λ (bs : List QueueBlock). b ∷ bs) rest.parts;
      front_is = (λ i. first i ∷ rest.front_is i);
      mark_is = rest.mark_is;
    }

-- the blocks of other numbers keep their items
items_kept : (m n : map.Blocks) (b : QueueBlock) → map.block_at n b.block ≡ map.block_at m b.block → HasItems m b → HasItems n b
items_kept m n b same has = record { bytes = same ∙ has.bytes; fit = has.fit }

pub all_kept : (m n : map.Blocks) (block : ℕ) (blocks : List QueueBlock) → ((q : ℕ) → q ≢ block → map.block_at n q ≡ map.block_at m q) → All (λ (b : QueueBlock). b.block ≢ block) blocks
    → All (HasItems m) blocks → All (HasItems n) blocks
all_kept m n block blocks same apart has = λ k d inside. items_kept m n (get_or blocks k d) (same (get_or blocks k d).block (apart k d inside)) (has k d inside)

-- how many items weren't read
pub count_blocks : (m : map.Blocks) (queue : QueueView) (blocks : List QueueBlock) → IsQueue m queue blocks → count_of queue ≡ length (unread blocks)
count_blocks m queue blocks is = ap count_of is.marks ∙ by blocks
  where
    by : (bs : List QueueBlock) → count_of (map mark_of bs) ≡ length (unread bs)
    by [] = refl
    by (b ∷ bs) =
        sum_by-cons left_in (mark_of b) (map mark_of bs)
        ∙ (λ i. sym (length-drop b.read b.items) i + by bs i)
        ∙ sym (length-append (drop b.read b.items) (unread bs))

pub queue_numbers : (m : map.Blocks) (queue : QueueView) (blocks : List QueueBlock) → IsQueue m queue blocks → numbers_of queue ≡ map (λ (b : QueueBlock). b.block) blocks
queue_numbers m queue blocks is = ap numbers_of is.marks ∙ numbers-blocks blocks
