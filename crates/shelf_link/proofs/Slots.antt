-- What a search among sorted entries finds, and what an edit at that place does.
use Rattle.std.proofs.Common.{◌≡◌, ℕ, zero, suc, ◌<◌, ◌≤◌, Bool, true, false, not, cond, ◌&&◌, List, [], ◌∷◌, ◌++◌, length, get_or, set, take, drop, append_assoc, T, IsTrue, IfOk, IfErr, OnOk, OnErr, is_some, Some, None, Result, Ok, Err, refl, sym, ◌∙◌, ap, subst, arith}
use Rattle.std.specs.declared.cmp.Ordering.{Ordering}
use Rattle.std.specs.declared.cmp.Ordering.TheVariants.{Less, Equal, Greater}
use Rattle.std.specs.List.{insert, remove}
use Rattle.std.specs.List.Sorted.{IsSearchInRange, IsBinarySearchResult, IsNonDecreasingBy}
use Rattle.std.specs.Ordering.{nat_cmp, is_eq, is_lt, eq_by_cmp, ordering_index}
use Rattle.std.specs.Cmp.{nat_cmp_is, nat_cmp_total}
use Rattle.std.specs.FinMap.{is_sorted}
use Rattle.std.specs.FinMap.Entries.{by_order, below_all, is_sorted-put, is_sorted-where_key}
use Rattle.std.proofs.lemmas.List.Elements.{All-push, All-append, All-take, All-drop}
use Rattle.std.proofs.lemmas.Cmp.{ranked}
use Rattle.std.proofs.lemmas.List.Sorted.{IsNonDecreasingBy-from_default}
use Rattle.std.proofs.lemmas.Bool.Decides.{nat_tests}
use Rattle.shelf_link.specs.Blocks.{Blocks, block_at, with_block, without_block}
use Rattle.std.proofs.lemmas.Grind.{common_steps}
use Rattle.std.proofs.lemmas.List.{map-set, length-map}
use Rattle.std.proofs.Math.ListN.{get_or-map}
use Rattle.shelf_link.specs.Slots.{SlotView, blocks_of, number_at, IsAt, IsGapFor, AreSized}

less_is : (a b : ℕ) → a < b → nat_cmp a b ≡ Less
less_is a b l = sym (nat_cmp_is a b Less l)

greater_is : (a b : ℕ) → b < a → nat_cmp a b ≡ Greater
greater_is a b l = sym (nat_cmp_is a b Greater l)

equal_is : (a b : ℕ) → a ≡ b → nat_cmp a b ≡ Equal
equal_is a b e = sym (nat_cmp_is a b Equal e)

tail_at : (e : ℕ × List ℕ) (es : Blocks) (block at : ℕ) → IsAt (e ∷ es) block (suc at) → IsAt es block at
tail_at e es block at there = record { within = omega (arith, there.within); is = there.is }

-- a number that stands at a place, with lower ones before it
module _ (block : ℕ) where
  pub set_is_put : (es : Blocks) (at : ℕ) (bytes : List ℕ) → IsAt es block at → ((i : ℕ) → i < at → number_at es i < block)
      → set es at (block, bytes) ≡ with_block es block bytes
  set_is_put [] at bytes there lower = absurd (omega (arith, there.within))
  set_is_put (e ∷ es) zero bytes there lower =
      ap (λ (k : ℕ). (k, bytes) ∷ es) (sym there.is)
      ∙ ap (λ o. by_order o ((block, bytes) ∷ e ∷ es) ((e.0, bytes) ∷ es) (e ∷ with_block es block bytes)) (sym (equal_is block e.0 (sym there.is)))
  set_is_put (e ∷ es) (suc at) bytes there lower =
      ap (λ rest. e ∷ rest) (set_is_put es at bytes (tail_at e es block at there) (λ i l. lower (suc i) (omega arith)))
      ∙ ap (λ o. by_order o ((block, bytes) ∷ e ∷ es) ((e.0, bytes) ∷ es) (e ∷ with_block es block bytes)) (sym (greater_is block e.0 (lower 0 (omega arith))))

  pub find_there : (es : Blocks) (at : ℕ) → IsAt es block at → ((i : ℕ) → i < at → number_at es i < block)
      → block_at es block ≡ Some (get_or es at (0, [])).1
  find_there [] at there lower = absurd (omega (arith, there.within))
  find_there (e ∷ es) zero there lower = ap (λ o. cond (is_eq o) (Some e.1) (block_at es block)) (equal_is block e.0 (sym there.is))
  find_there (e ∷ es) (suc at) there lower =
      ap (λ o. cond (is_eq o) (Some e.1) (block_at es block)) (greater_is block e.0 (lower 0 (omega arith)))
      ∙ find_there es at (tail_at e es block at there) (λ i l. lower (suc i) (omega arith))

  -- all numbers are higher
  without_higher : (es : Blocks) → ((i : ℕ) → i < length es → block < number_at es i) → without_block es block ≡ es
  without_higher [] higher = refl
  without_higher (e ∷ es) higher =
      ap (λ o. cond (not (is_eq o)) (e ∷ without_block es block) (without_block es block)) (less_is block e.0 (higher 0 (omega arith)))
      ∙ ap (λ rest. e ∷ rest) (without_higher es (λ i l. higher (suc i) (omega arith)))

  find_higher : (es : Blocks) → ((i : ℕ) → i < length es → block < number_at es i) → block_at es block ≡ None
  find_higher [] higher = refl
  find_higher (e ∷ es) higher =
      ap (λ o. cond (is_eq o) (Some e.1) (block_at es block)) (less_is block e.0 (higher 0 (omega arith)))
      ∙ find_higher es (λ i l. higher (suc i) (omega arith))

  put_front : (es : Blocks) (bytes : List ℕ) → ((i : ℕ) → i < length es → block < number_at es i) → with_block es block bytes ≡ (block, bytes) ∷ es
  put_front [] bytes higher = refl
  put_front (e ∷ es) bytes higher =
      ap (λ o. by_order o ((block, bytes) ∷ e ∷ es) ((e.0, bytes) ∷ es) (e ∷ with_block es block bytes)) (less_is block e.0 (higher 0 (omega arith)))

  pub remove_is_without : (es : Blocks) (at : ℕ) → IsAt es block at → ((i : ℕ) → i < at → number_at es i < block)
      → ((i : ℕ) → at < i → i < length es → block < number_at es i) → remove es at ≡ without_block es block
  remove_is_without [] at there lower higher = absurd (omega (arith, there.within))
  remove_is_without (e ∷ es) zero there lower higher =
      sym (ap (λ o. cond (not (is_eq o)) (e ∷ without_block es block) (without_block es block)) (equal_is block e.0 (sym there.is))
      ∙ without_higher es (λ i l. higher (suc i) (omega arith) (omega arith)))
  remove_is_without (e ∷ es) (suc at) there lower higher =
      ap (λ rest. e ∷ rest) (remove_is_without es at (tail_at e es block at there) (λ i l. lower (suc i) (omega arith)) (λ i l m. higher (suc i) (omega arith) (omega arith)))
      ∙ sym (ap (λ o. cond (not (is_eq o)) (e ∷ without_block es block) (without_block es block)) (greater_is block e.0 (lower 0 (omega arith))))

  tail_gap : (e : ℕ × List ℕ) (es : Blocks) (at : ℕ) → IsGapFor (e ∷ es) block (suc at) → IsGapFor es block at
  tail_gap e es at gap = record {
    within = omega (arith, gap.within);
    lower = λ i l. gap.lower (suc i) (omega arith);
    higher = λ i l m. gap.higher (suc i) (omega arith) (omega arith);
  }

  pub insert_is_put : (es : Blocks) (at : ℕ) (bytes : List ℕ) → IsGapFor es block at → insert es at (block, bytes) ≡ with_block es block bytes
  insert_is_put es zero bytes gap = sym (put_front es bytes (λ i l. gap.higher i (omega arith) l))
  insert_is_put [] (suc at) bytes gap = absurd (omega (arith, gap.within))
  insert_is_put (e ∷ es) (suc at) bytes gap =
      ap (λ rest. e ∷ rest) (insert_is_put es at bytes (tail_gap e es at gap))
      ∙ ap (λ o. by_order o ((block, bytes) ∷ e ∷ es) ((e.0, bytes) ∷ es) (e ∷ with_block es block bytes)) (sym (greater_is block e.0 (gap.lower 0 (omega arith))))

  pub find_gap : (es : Blocks) (at : ℕ) → IsGapFor es block at → block_at es block ≡ None
  find_gap es zero gap = find_higher es (λ i l. gap.higher i (omega arith) l)
  find_gap [] (suc at) gap = refl
  find_gap (e ∷ es) (suc at) gap =
      ap (λ o. cond (is_eq o) (Some e.1) (block_at es block)) (greater_is block e.0 (gap.lower 0 (omega arith)))
      ∙ find_gap es at (tail_gap e es at gap)

-- numbers that are in order rise along the entries
lt_of : (a b : ℕ) → IsTrue (is_lt (nat_cmp a b)) → a < b
lt_of a b h = by (nat_cmp a b) refl h
  where
    by : (o : Ordering) → nat_cmp a b ≡ o → IsTrue (is_lt o) → a < b
    by Less e h = ranked a b Less (sym e)
    by Equal e h = absurd (cc)
    by Greater e h = absurd (cc)

fst_of : (a b : Bool) → IsTrue (a && b) → IsTrue a
fst_of true b h = refl
fst_of false b h = absurd (cc)

snd_of : (a b : Bool) → IsTrue (a && b) → IsTrue b
snd_of true b h = h
snd_of false b h = absurd (cc)

below_each : (number : ℕ) (es : Blocks) (i : ℕ) → IsTrue (below_all nat_cmp number es) → i < length es → number < number_at es i
below_each number [] i h l = absurd (omega arith)
below_each number (e ∷ es) zero h l = lt_of number e.0 (fst_of (is_lt (nat_cmp number e.0)) (below_all nat_cmp number es) h)
below_each number (e ∷ es) (suc i) h l = below_each number es i (snd_of (is_lt (nat_cmp number e.0)) (below_all nat_cmp number es) h) (omega arith)

pub numbers_rise : (es : Blocks) → IsTrue (is_sorted nat_cmp es) → (i j : ℕ) → i < j → j < length es → number_at es i < number_at es j
numbers_rise [] sorted i j l m = absurd (omega arith)
numbers_rise (e ∷ es) sorted i zero l m = absurd (omega arith)
numbers_rise (e ∷ es) sorted zero (suc j) l m = below_each e.0 es j (fst_of (below_all nat_cmp e.0 es) (is_sorted nat_cmp es) sorted) (omega arith)
numbers_rise (e ∷ es) sorted (suc i) (suc j) l m = numbers_rise es (snd_of (below_all nat_cmp e.0 es) (is_sorted nat_cmp es) sorted) i j (omega arith) (omega arith)

-- lower numbers stand before a number, and higher ones after it
module _ (es : Blocks) (sorted : IsTrue (is_sorted nat_cmp es)) (block at : ℕ) (there : IsAt es block at) where
  pub lower_before : (i : ℕ) → i < at → number_at es i < block
  lower_before i l = omega (arith, numbers_rise es sorted i at l there.within, there.is)

  pub higher_after : (i : ℕ) → at < i → i < length es → block < number_at es i
  higher_after i l m = omega (arith, numbers_rise es sorted at i l m, there.is)

pub no_slot : SlotView
no_slot = record { block = 0; bytes = []; size = 0 }

map_remove : (slots : List SlotView) (at : ℕ) → blocks_of (remove slots at) ≡ remove (blocks_of slots) at
map_remove [] at = grind (arith, common_steps)
map_remove (s ∷ slots) zero = refl
map_remove (s ∷ slots) (suc at) = ap (λ rest. (s.block, s.bytes) ∷ rest) (map_remove slots at)

map_insert : (slots : List SlotView) (at : ℕ) (slot : SlotView) → blocks_of (insert slots at slot) ≡ insert (blocks_of slots) at (slot.block, slot.bytes)
map_insert slots zero slot = refl
map_insert [] (suc at) slot = refl
map_insert (s ∷ slots) (suc at) slot = ap (λ rest. (s.block, s.bytes) ∷ rest) (map_insert slots at slot)

-- the entry at a place is that of the slot there
pub entry_at : (slots : List SlotView) (at : ℕ) → get_or (blocks_of slots) at (0, []) ≡ ((get_or slots at no_slot).block, (get_or slots at no_slot).bytes)
unfolding no_slot
entry_at slots at = get_or-map (λ (slot : SlotView). (slot.block, slot.bytes)) slots at no_slot

number_of : (slots : List SlotView) (at : ℕ) → number_at (blocks_of slots) at ≡ (get_or slots at no_slot).block
number_of slots at = ap (λ entry. entry.0) (entry_at slots at)

pub length_of : (slots : List SlotView) → length (blocks_of slots) ≡ length slots
length_of slots = length-map slots (λ (slot : SlotView). (slot.block, slot.bytes))

-- slots are searched by their blocks' numbers. A search ends at the number, or at the gap for it
module _ (slots : List SlotView) (sorted : IsTrue (is_sorted nat_cmp (blocks_of slots))) (block : ℕ) where
  comparisons_rise : IsNonDecreasingBy (λ slot. ordering_index (nat_cmp slot.block block)) slots
  comparisons_rise = IsNonDecreasingBy-from_default (λ slot. ordering_index (nat_cmp slot.block block)) slots no_slot (λ i j le in_range.
      let rise : (i < j → number_at (blocks_of slots) i < number_at (blocks_of slots) j) = λ l. numbers_rise (blocks_of slots) sorted i j l (omega (arith, length_of slots)) in
      let risen : (get_or slots i no_slot).block ≤ (get_or slots j no_slot).block =
      grind (arith, rise, number_of slots i, number_of slots j, λ (same : i ≡ j). ap (λ (k : ℕ). (get_or slots k no_slot).block) same) in
      grind (arith, nat_tests))

  pub searched : (r : Result ℕ ℕ) → IsSearchInRange r (length slots) → IsBinarySearchResult (λ slot. nat_cmp slot.block block) slots r
      → record {
        found : IfOk r (IsAt (blocks_of slots) block);
        gap : IfErr r (IsGapFor (blocks_of slots) block);
        there : OnOk r (IsTrue (is_some (block_at (blocks_of slots) block)));
        absent : OnErr r (block_at (blocks_of slots) block ≡ None);
      }
  searched (Ok at) in_range equal =
      let there : IsAt (blocks_of slots) block at = record { within = omega (arith, in_range, length_of slots); is = number_of slots at ∙ ranked _ block _ (sym (equal no_slot)) } in
      record { found = there; gap = tt; there = ap is_some (find_there block (blocks_of slots) at there (lower_before (blocks_of slots) sorted block at there)); absent = tt }
  searched (Err at) in_range parted =
      let gap : IsGapFor (blocks_of slots) block at = record {
        within = omega (arith, in_range, length_of slots);
        lower = λ j l. subst (λ (n : ℕ). n < block) (sym (number_of slots j)) (ranked _ block _ (sym ((parted comparisons_rise).0 j no_slot (omega arith) l)));
        higher = λ j l m. subst (λ (n : ℕ). block < n) (sym (number_of slots j))
            (ranked _ block _ (sym ((parted comparisons_rise).1 j no_slot l (omega (arith, length_of slots)))));
      } in
      record { found = tt; gap = gap; there = tt; absent = find_gap block (blocks_of slots) at gap }

true_of : (b : Bool) → T b → IsTrue b
true_of true h = refl
true_of false h = absurd h

holds_of : (b : Bool) → IsTrue b → T b
holds_of true h = tt
holds_of false h = absurd (cc)

-- a put and a removal keep the order
sorted_put : (es : Blocks) (block : ℕ) (bytes : List ℕ) → IsTrue (is_sorted nat_cmp es) → IsTrue (is_sorted nat_cmp (with_block es block bytes))
sorted_put es block bytes sorted = true_of _ (is_sorted-put nat_cmp nat_cmp_total block bytes es (holds_of _ sorted))

sorted_without : (es : Blocks) (block : ℕ) → IsTrue (is_sorted nat_cmp es) → IsTrue (is_sorted nat_cmp (without_block es block))
sorted_without es block sorted = true_of _ (is_sorted-where_key nat_cmp (λ other. not (eq_by_cmp nat_cmp block other)) es (holds_of _ sorted))

-- edits of slots at a place, as those of their entries
module _ (slots : List SlotView) (sorted : IsTrue (is_sorted nat_cmp (blocks_of slots))) (block at : ℕ) where
  pub set_slot : (slot : SlotView) → IsAt (blocks_of slots) block at → slot.block ≡ block
      → blocks_of (set slots at slot) ≡ with_block (blocks_of slots) block slot.bytes
  set_slot slot there is =
      map-set (λ (s : SlotView). (s.block, s.bytes)) slots at slot
      ∙ ap (λ (k : ℕ). set (blocks_of slots) at (k, slot.bytes)) is
      ∙ set_is_put block (blocks_of slots) at slot.bytes there (lower_before (blocks_of slots) sorted block at there)

  pub remove_slot : IsAt (blocks_of slots) block at → blocks_of (remove slots at) ≡ without_block (blocks_of slots) block
  remove_slot there =
      map_remove slots at
      ∙ remove_is_without block (blocks_of slots) at there (lower_before (blocks_of slots) sorted block at there) (higher_after (blocks_of slots) sorted block at there)

  pub insert_slot : (slot : SlotView) → IsGapFor (blocks_of slots) block at → slot.block ≡ block
      → blocks_of (insert slots at slot) ≡ with_block (blocks_of slots) block slot.bytes
  insert_slot slot gap is =
      map_insert slots at slot
      ∙ ap (λ (k : ℕ). insert (blocks_of slots) at (k, slot.bytes)) is
      ∙ insert_is_put block (blocks_of slots) at slot.bytes gap

  pub bytes_there : IsAt (blocks_of slots) block at → block_at (blocks_of slots) block ≡ Some (get_or slots at no_slot).bytes
  bytes_there there =
      find_there block (blocks_of slots) at there (lower_before (blocks_of slots) sorted block at there)
      ∙ ap (λ entry. Some entry.1) (entry_at slots at)

  -- and they keep the order
  pub set_sorted : (slot : SlotView) → IsAt (blocks_of slots) block at → slot.block ≡ block → IsTrue (is_sorted nat_cmp (blocks_of (set slots at slot)))
  set_sorted slot there is = rw (set_slot slot there is) (sorted_put (blocks_of slots) block slot.bytes sorted)

  pub insert_sorted : (slot : SlotView) → IsGapFor (blocks_of slots) block at → slot.block ≡ block → IsTrue (is_sorted nat_cmp (blocks_of (insert slots at slot)))
  insert_sorted slot gap is = rw (insert_slot slot gap is) (sorted_put (blocks_of slots) block slot.bytes sorted)

  pub remove_sorted : IsAt (blocks_of slots) block at → IsTrue (is_sorted nat_cmp (blocks_of (remove slots at)))
  remove_sorted there = rw (remove_slot there) (sorted_without (blocks_of slots) block sorted)

-- and the rooms' size
module _ (size : ℕ) (slots : List SlotView) (sized : AreSized size slots) (at : ℕ) where
  pub insert_sized : (slot : SlotView) → slot.size ≡ size → AreSized size (insert slots at slot)
  insert_sized slot is =
      let front : AreSized size (take at slots ++ slot ∷ []) = All-push (λ s. s.size ≡ size) (take at slots) slot (All-take (λ s. s.size ≡ size) at slots sized) is in
      subst (AreSized size) (append_assoc (take at slots) (slot ∷ []) (drop at slots))
      (All-append (λ s. s.size ≡ size) (take at slots ++ slot ∷ []) (drop at slots) front (All-drop (λ s. s.size ≡ size) at slots sized))

  pub remove_sized : AreSized size (remove slots at)
  remove_sized =
      All-append (λ s. s.size ≡ size) (take at slots) (drop (suc at) slots) (All-take (λ s. s.size ≡ size) at slots sized) (All-drop (λ s. s.size ≡ size) (suc at) slots sized)
