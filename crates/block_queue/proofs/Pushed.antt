-- What a map has of a queue once an item was put in it.
use Rattle.std.proofs.Common.{◌≡◌, ◌≢◌, ℕ, ◌+◌, ◌≤◌, nat_le, Bool, true, false, cond, List, [], ◌∷◌, ◌++◌, length, map, get_or, Some, None, Option, refl, sym, ap, ◌∙◌, subst, append-nil, arith}
use Rattle.std.specs.Prelude.{All, AllPairs}
use Rattle.std.specs.List.{last_or}
use Rattle.std.specs.Option.{unwrap_or, option_map_or}
use Rattle.std.specs.Ordering.{nat_cmp}
use Rattle.std.specs.FinMap.{find}
use Rattle.std.proofs.lemmas.List.{length_push, take-append-le, map_push}
use Rattle.std.proofs.lemmas.List.Elements.{All-nil, All-cons, All-push, All-same}
use Rattle.shelf_link.specs.Blocks as map
use Rattle.shelf_link.specs.Told.{Told}
use Rattle.shelf_link.proofs.Blocks.{at_with_block, others_with_block}
use Rattle.block_seats.specs.Seatings.{SeatingView, HasBlock, length_at}
use Rattle.block_home.specs.Holding.{Holds}
use Rattle.queue_block.specs.Items.{Fits, item_bytes, item_size, items_bytes}
use Rattle.queue_block.specs.Queues.{QueueBlock, has_room, with_item, one_item, pushed_into, pushed}
use Rattle.queue_block.proofs.Spelling.{length-item_bytes, items_bytes-push}
use Rattle.block_queue.specs.declared.marks.Mark.{Mark}
use Rattle.block_queue.specs.Queues.{QueueView, numbers_of, mark_of, HasItems, IsQueue, IsMarked, IsSound, last_mark, has_space, target_of}
use Rattle.block_queue.specs.Changes.{IsHeldAs}
use Rattle.block_queue.proofs.Marked.{last-push, target-at, le_is_true, le_is_false, All-ends, All-unmap, apart_last, no_space}
use Rattle.block_queue.proofs.Sounds.{mark_here, numbers-ends, away_last}
use Rattle.block_queue.proofs.Queued.{held_length, held_none, numbers-blocks, LastOf, last_of, all_kept, Ends, NoMark, AMark, cases_ends}

-- where an item goes

pushed_behind : (size new : ℕ) (before : List QueueBlock) (last : QueueBlock) (item : List ℕ) → has_room size item last ≡ true
    → pushed size new (before ++ last ∷ []) item ≡ before ++ with_item last item ∷ []
pushed_behind size new [] last item room = ap (λ (t : Bool). cond t (with_item last item ∷ []) (last ∷ one_item new item ∷ [])) room
pushed_behind size new (b ∷ []) last item room = ap (λ (bs : List QueueBlock). b ∷ bs) (pushed_behind size new [] last item room)
pushed_behind size new (b ∷ c ∷ before) last item room = ap (λ (bs : List QueueBlock). b ∷ bs) (pushed_behind size new (c ∷ before) last item room)

pushed_after : (size new : ℕ) (before : List QueueBlock) (last : QueueBlock) (item : List ℕ) → has_room size item last ≡ false
    → pushed size new (before ++ last ∷ []) item ≡ (before ++ last ∷ []) ++ one_item new item ∷ []
pushed_after size new [] last item room = ap (λ (t : Bool). cond t (with_item last item ∷ []) (last ∷ one_item new item ∷ [])) room
pushed_after size new (b ∷ []) last item room = ap (λ (bs : List QueueBlock). b ∷ bs) (pushed_after size new [] last item room)
pushed_after size new (b ∷ c ∷ before) last item room = ap (λ (bs : List QueueBlock). b ∷ bs) (pushed_after size new (c ∷ before) last item room)

-- an item was put in the last block
module _ (m : map.Blocks) (told now : Told) (user : ℕ) (old new : SeatingView) (front : List Mark) (mark next : Mark) (blocks : List QueueBlock) (number : ℕ) (item piece : List ℕ)
    (sound : IsSound old (front ++ mark ∷ [])) (is : IsQueue m (front ++ mark ∷ []) blocks) (holds : Holds m told user old.blocks)
    (piece_is : piece ≡ item_bytes item) (fits : Fits item) (space : length_at old mark.block + length piece ≤ old.size)
    (next_is : next ≡ record { block = mark.block; put = mark.put + 1; read = mark.read; at = mark.at })
    (after : (bytes : List ℕ) → map.block_at m mark.block ≡ Some bytes → Holds (map.with_block m mark.block (bytes ++ piece)) now user new.blocks) where
  abbrev ends : LastOf blocks front mark
  ends = last_of blocks front mark is.marks

  abbrev last : QueueBlock
  last = ends.last

  abbrev changed : map.Blocks
  changed = map.with_block m mark.block (items_bytes last.items ++ piece)

  has : All (HasItems m) ends.before × HasItems m last
  has = All-ends (HasItems m) ends.before last (All-same (HasItems m) (ends.before ++ last ∷ []) blocks (sym ends.parts) is.each)

  block_is : mark.block ≡ last.block
  block_is = ap (λ (x : Mark). x.block) ends.mark_is

  there : map.block_at m mark.block ≡ Some (items_bytes last.items)
  there = ap (map.block_at m) block_is ∙ has.1.bytes

  marked : IsMarked old mark
  marked = (All-ends (IsMarked old) front mark sound.each).1

  here : HasBlock old mark.block
  here = mark_here old front mark sound

  long : length_at old mark.block ≡ length (items_bytes last.items)
  long = held_length m told user old mark.block (items_bytes last.items) holds here there

  room : has_room old.size item last ≡ true
  room = le_is_true (length (items_bytes last.items) + item_size item) old.size (omega (arith, long, space, ap (λ (xs : List ℕ). length xs) piece_is, length-item_bytes item))

  apart : All (λ (b : QueueBlock). b.block ≢ mark.block) ends.before
  apart =
      let numbers : numbers_of front ≡ map (λ (b : QueueBlock). b.block) ends.before = ap numbers_of ends.front_is ∙ numbers-blocks ends.before in
      All-unmap (λ (b : ℕ). b ≢ mark.block) (λ (b : QueueBlock). b.block) ends.before
      (All-same (λ (b : ℕ). b ≢ mark.block) (map (λ (b : QueueBlock). b.block) ends.before) (numbers_of front) (sym numbers)
      (apart_last (numbers_of front) mark.block (subst (λ (ns : List ℕ). AllPairs ◌≢◌ ns) (numbers-ends front mark) sound.there.distinct)))

  read_within : last.read ≤ length last.items
  read_within =
      let left = marked.left in
      let put : mark.put ≡ length last.items = ap (λ (x : Mark). x.put) ends.mark_is in
      let read : mark.read ≡ last.read = ap (λ (x : Mark). x.read) ends.mark_is in
      omega arith

  next_mark : next ≡ mark_of (with_item last item)
  next_mark =
      next_is
      ∙ (λ i. record { block = (ends.mark_is i).block; put = (ends.mark_is i).put + 1; read = (ends.mark_is i).read; at = (ends.mark_is i).at })
      ∙ (λ i. record {
        block = last.block;
        put = sym (length_push last.items item) i;
        read = last.read;
        at = length (items_bytes (sym (take-append-le last.read last.items (item ∷ []) read_within) i));
      })

  pub queue_behind : IsHeldAs m now user new (front ++ next ∷ []) (pushed old.size number blocks item) (numbers_of (front ++ next ∷ []))
  queue_behind = record {
    now = changed;
    held = after (items_bytes last.items) there;
    is = subst (IsQueue changed (front ++ next ∷ [])) (sym (ap (λ (bs : List QueueBlock). pushed old.size number bs item) ends.parts ∙ pushed_behind old.size number ends.before last item room)) (record {
      marks = (λ i. ends.front_is i ++ next_mark i ∷ []) ∙ sym (map_push mark_of ends.before (with_item last item));
      each = All-push (HasItems changed) ends.before (with_item last item)
          (all_kept m changed mark.block ends.before (others_with_block m mark.block (items_bytes last.items ++ piece)) apart has.0)
          (record {
            bytes = ap (map.block_at changed) (sym block_is) ∙ at_with_block m mark.block (items_bytes last.items ++ piece)
                ∙ ap Some (ap (λ (xs : List ℕ). items_bytes last.items ++ xs) piece_is ∙ sym (items_bytes-push last.items item));
            fit = All-push Fits last.items item has.1.fit fits;
          });
    });
    keeps = record {
      others = λ q away. others_with_block m mark.block (items_bytes last.items ++ piece) q
          (λ same. away_last front next q away (same ∙ sym (ap (λ (x : Mark). x.block) next_is)));
    };
  }

-- an item was put in a block more
module _ (m : map.Blocks) (told now : Told) (user : ℕ) (old new : SeatingView) (queue : QueueView) (next : Mark) (blocks : List QueueBlock) (number : ℕ) (item piece : List ℕ)
    (sound : IsSound old queue) (is : IsQueue m queue blocks) (holds : Holds m told user old.blocks)
    (piece_is : piece ≡ item_bytes item) (fits : Fits item) (full : target_of old queue (length piece) ≡ None) (fresh : find nat_cmp number old.blocks ≡ None)
    (next_is : next ≡ record { block = number; put = 1; read = 0; at = 0 })
    (after : Holds (map.with_block m number piece) now user new.blocks) where
  abbrev widened : map.Blocks
  widened = map.with_block m number piece

  -- no block of the queue has the new number
  strange : All (λ (b : QueueBlock). b.block ≢ number) blocks
  strange = λ k d inside same.
      let none : map.block_at m number ≡ None = held_none m told user old number holds fresh in
      let some : map.block_at m number ≡ Some (items_bytes (get_or blocks k d).items) = ap (map.block_at m) (sym same) ∙ (is.each k d inside).bytes in
      cc

  pushed_is : pushed old.size number blocks item ≡ blocks ++ one_item number item ∷ []
  pushed_is = by blocks is (cases_ends queue)
    where
      by : (bs : List QueueBlock) → IsQueue m queue bs → Ends queue → pushed old.size number bs item ≡ bs ++ one_item number item ∷ []
      by [] bs_are ends = refl
      by (b ∷ bs) bs_are (NoMark none) = let clash = sym none ∙ bs_are.marks in cc
      by (b ∷ bs) bs_are (AMark front mark parts) =
          let last = last_of (b ∷ bs) front mark (sym parts ∙ bs_are.marks) in
          let has = All-ends (HasItems m) last.before last.last (All-same (HasItems m) (last.before ++ last.last ∷ []) (b ∷ bs) (sym last.parts) bs_are.each) in
          let over = no_space old queue (length piece) full front mark parts in
          let there : map.block_at m mark.block ≡ Some (items_bytes last.last.items) = ap (λ (x : Mark). map.block_at m x.block) last.mark_is ∙ has.1.bytes in
          let long = held_length m told user old mark.block (items_bytes last.last.items) holds (mark_here old front mark (subst (IsSound old) parts sound)) there in
          let room : has_room old.size item last.last ≡ false = le_is_false (length (items_bytes last.last.items) + item_size item) old.size (omega (arith, long, over, ap (λ (xs : List ℕ). length xs) piece_is, length-item_bytes item)) in
          ap (λ (xs : List QueueBlock). pushed old.size number xs item) last.parts
          ∙ pushed_after old.size number last.before last.last item room
          ∙ ap (λ (xs : List QueueBlock). xs ++ one_item number item ∷ []) (sym last.parts)

  pub queue_after : IsHeldAs m now user new (queue ++ next ∷ []) (pushed old.size number blocks item) (numbers_of (queue ++ next ∷ []))
  queue_after = record {
    now = widened;
    held = after;
    is = subst (IsQueue widened (queue ++ next ∷ [])) (sym pushed_is) (record {
      marks = (λ i. is.marks i ++ next_is i ∷ []) ∙ sym (map_push mark_of blocks (one_item number item));
      each = All-push (HasItems widened) blocks (one_item number item)
          (all_kept m widened number blocks (others_with_block m number piece) strange is.each)
          (record {
            bytes = at_with_block m number piece ∙ ap Some (piece_is ∙ sym (append-nil (item_bytes item)));
            fit = All-cons Fits item [] fits (All-nil Fits);
          });
    });
    keeps = record {
      others = λ q away. others_with_block m number piece q
          (λ same. away_last queue next q away (same ∙ sym (ap (λ (x : Mark). x.block) next_is)));
    };
  }

-- the last block, and where an item goes

last_or-push : (o : Option QueueBlock) (before : List QueueBlock) (last : QueueBlock) → last_or o (before ++ last ∷ []) ≡ Some last
last_or-push o [] last = refl
last_or-push o (b ∷ before) last = last_or-push (Some b) before last

unwrapped : (here : Bool) (block number : ℕ) → cond here block number ≡ unwrap_or (cond here (Some block) None) number
unwrapped true block number = refl
unwrapped false block number = refl

pub into_target : (m : map.Blocks) (told : Told) (user : ℕ) (seats : SeatingView) (queue : QueueView) (blocks : List QueueBlock) (number : ℕ) (item : List ℕ) → IsSound seats queue → Holds m told user seats.blocks
    → IsQueue m queue blocks → pushed_into seats.size number blocks item ≡ unwrap_or (target_of seats queue (item_size item)) number
into_target m told user seats queue blocks number item sound holds is = by blocks is (cases_ends queue)
  where
    by : (bs : List QueueBlock) → IsQueue m queue bs → Ends queue → pushed_into seats.size number bs item ≡ unwrap_or (target_of seats queue (item_size item)) number
    by [] bs_are ends = sym (ap (λ (q : QueueView). unwrap_or (target_of seats q (item_size item)) number) bs_are.marks)
    by (b ∷ bs) bs_are (NoMark none) = let clash = sym none ∙ bs_are.marks in cc
    by (b ∷ bs) bs_are (AMark front mark parts) =
        let last = last_of (b ∷ bs) front mark (sym parts ∙ bs_are.marks) in
        let has = All-ends (HasItems m) last.before last.last (All-same (HasItems m) (last.before ++ last.last ∷ []) (b ∷ bs) (sym last.parts) bs_are.each) in
        let there : map.block_at m mark.block ≡ Some (items_bytes last.last.items) = ap (λ (x : Mark). map.block_at m x.block) last.mark_is ∙ has.1.bytes in
        let long = held_length m told user seats mark.block (items_bytes last.last.items) holds (mark_here seats front mark (subst (IsSound seats) parts sound)) there in
        let same : has_room seats.size item last.last ≡ has_space seats (item_size item) mark = ap (λ (n : ℕ). nat_le (n + item_size item) seats.size) (sym long) in
        let block_is : last.last.block ≡ mark.block = ap (λ (x : Mark). x.block) (sym last.mark_is) in
        ap (λ (xs : List QueueBlock). pushed_into seats.size number xs item) last.parts
        ∙ ap (λ (o : Option QueueBlock). option_map_or (λ x. cond (has_room seats.size item x) x.block number) o number) (last_or-push None last.before last.last)
        ∙ (λ i. cond (same i) (block_is i) number)
        ∙ unwrapped (has_space seats (item_size item) mark) mark.block number
        ∙ ap (λ (t : Option ℕ). unwrap_or t number) (sym (target-at seats queue (item_size item) mark (ap last_mark parts ∙ last-push front mark)))
