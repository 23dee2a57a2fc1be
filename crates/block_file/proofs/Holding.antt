-- Blocks that have the pieces of a list, one after the other: what they have once the last was filled, or one more was made.
use Rattle.std.proofs.Common.{◌≡◌, ◌≢◌, ℕ, ◌+◌, ◌-◌, ◌*◌, ◌/◌, ◌%◌, ◌<◌, ◌≤◌, min, is_some, List, [], ◌∷◌, ◌++◌, length, take, drop, get_or, Some, None, Option, true, false, refl, sym, ap, ◌∙◌, subst, inl, inr, arith}
use Rattle.std.specs.Prelude.{AllPairs}
use Rattle.std.specs.Int.{div_ceil}
use Rattle.std.specs.Option.{unwrap_or, option_map}
use Rattle.std.specs.Ordering.{nat_cmp}
use Rattle.std.specs.FinMap.{find}
use Rattle.std.proofs.Math.Nat.{mul-le-mul_left}
use Rattle.std.proofs.lemmas.Bool.{cases_lt}
use Rattle.std.proofs.lemmas.Nat.{div-add-mod'}
use Rattle.std.proofs.lemmas.List.{length_push, get_or_append_left, get_or_push, get_or_default}
use Rattle.std.proofs.lemmas.List.Quantifiers.{all_pairs_push}
use Rattle.shelf_link.specs.Blocks as map
use Rattle.block_seats.specs.Blocks.{Blocks, BlockView, InSlice, length_of}
use Rattle.block_seats.specs.Seatings.{SeatingView}
use Rattle.block_home.specs.Calls.{KeepsLengths}
use Rattle.block_file.specs.Files.{FileView, HoldsBytes, IsSound}
use Rattle.block_file.proofs.Pieces.{ceil_above, ceil_below, ceil_is, ceil_of_none}

-- as many blocks as a list of this length takes have these pieces of it. So have a map's blocks bytes, and a home's lengths
pub record AreBlocks {X : Type 0} (size : ℕ) (at : ℕ → Option X) (blocks : List ℕ) (len : ℕ) (piece : ℕ → X) : Type 0 where
  pub count : length blocks ≡ div_ceil len size
  pub distinct : AllPairs ◌≢◌ blocks
  pub each : (i : ℕ) → i < length blocks → at (get_or blocks i 0) ≡ Some (piece i)

-- two of the blocks are different
pub apart : (blocks : List ℕ) (i j : ℕ) → AllPairs ◌≢◌ blocks → i < j → j < length blocks → get_or blocks i 0 ≢ get_or blocks j 0
apart blocks i j distinct below inside = distinct i j 0 below inside

module _ {X : Type 0} (size : ℕ) (at : ℕ → Option X) (blocks : List ℕ) (len : ℕ) (piece : ℕ → X) (are : AreBlocks size at blocks len piece) (pos : 0 < size) where
  pub count_above : len ≤ length blocks * size
  count_above = subst (λ n. len ≤ n * size) (sym are.count) (ceil_above len size pos)

  pub count_below : length blocks * size < len + size
  count_below = subst (λ n. n * size < len + size) (sym are.count) (ceil_below len size pos)

  -- a block before another ends where the list goes on
  piece_within : (i j : ℕ) → i < j → i * size + size ≤ j * size
  piece_within i j below = let h : i + 1 ≤ j = omega arith in omega (arith, mul-le-mul_left size h)

  -- one block more, after blocks that are all full
  module _ (now : ℕ → Option X) (after : ℕ → X) (block more : ℕ) (fresh : at block ≡ None) (others : (q : ℕ) → q ≢ block → now q ≡ at q) (here : now block ≡ Some (after (length blocks)))
      (same : (i : ℕ) → i * size + size ≤ len → after i ≡ piece i) (full : len ≡ length blocks * size) (some : 0 < more) (fits : more ≤ size) where
    is_there : (k d : ℕ) → k < length blocks → get_or blocks k d ≡ block → ⊥
    is_there k d inside is =
        let there = are.each k inside in
        let at_0 : get_or blocks k 0 ≡ block = get_or_default blocks k 0 d inside ∙ is in
        let gone : at (get_or blocks k 0) ≡ None = ap at at_0 ∙ fresh in
        cc

    each_added : (i : ℕ) → i < length (blocks ++ block ∷ []) → now (get_or (blocks ++ block ∷ []) i 0) ≡ Some (after i)
    each_added i inside =
        elim (cases_lt i (length blocks)) [
          | inl before ↦
              ap now (get_or_append_left blocks (block ∷ []) 0 i before)
              ∙ others (get_or blocks i 0) (λ is. is_there i 0 before is)
              ∙ are.each i before
              ∙ ap Some (sym (same i (let within = piece_within i (length blocks) before in omega arith)))
          | inr not_before ↦
              let last : length blocks ≡ i = let many = length_push blocks block in omega arith in
              ap now (get_or_push blocks block 0 i last) ∙ here ∙ ap (λ n. Some (after n)) last
        ]

    pub are_more : AreBlocks size now (blocks ++ block ∷ []) (len + more) after
    are_more =
        let many = length_push blocks block in
        record {
          count = ceil_is (length (blocks ++ block ∷ [])) (len + more) size pos (rw many (omega arith)) (rw many (omega arith));
          distinct = all_pairs_push ◌≢◌ blocks block are.distinct (λ k d inside is. is_there k d inside is);
          each = each_added;
        }

  abbrev last : ℕ
  last = length blocks - 1

  -- where the last block isn't full, it has what the whole blocks leave over
  pub last_ends : len % size ≢ 0 → last * size + len % size ≡ len
  last_ends part =
      let count = are.count in
      let last_is : last ≡ len / size = omega arith in
      ap (λ n. n * size + len % size) last_is ∙ div-add-mod' len size

  pub last_inside : len % size ≢ 0 → last < length blocks
  last_inside part = let count = are.count in omega arith

  -- the last block, filled by a part of what comes next
  module _ (now : ℕ → Option X) (after : ℕ → X) (start more : ℕ) (others : (q : ℕ) → q ≢ get_or blocks last 0 → now q ≡ at q) (here : now (get_or blocks last 0) ≡ Some (after last))
      (same : (i : ℕ) → i * size + size ≤ len → after i ≡ piece i) (ends : last * size + start ≡ len) (some : 0 < start) (fits : start + more ≤ size) where
    has_last : 0 < length blocks
    has_last =
        let above = count_above in
        elim (cases_lt 0 (length blocks)) [
          | inl some_block ↦ some_block
          | inr no_block ↦ absurd (let zero_is : length blocks ≡ 0 = omega arith in let nothing : len ≤ 0 * size = subst (λ n. len ≤ n * size) zero_is above in omega arith)
        ]

    whole : length blocks * size ≡ last * size + size
    whole = let h : length blocks ≡ last + 1 = let has = has_last in omega arith in ap (λ n. n * size) h ∙ (omega arith)

    each_filled : (i : ℕ) → i < length blocks → now (get_or blocks i 0) ≡ Some (after i)
    each_filled i inside =
        elim (cases_lt i last) [
          | inl before ↦
              others (get_or blocks i 0) (apart blocks i last are.distinct before (omega arith))
              ∙ are.each i inside
              ∙ ap Some (sym (same i (let within = piece_within i last before in omega arith)))
          | inr not_before ↦
              let is : last ≡ i = omega arith in
              subst (λ j. now (get_or blocks j 0) ≡ Some (after j)) is here
        ]

    pub are_filled : AreBlocks size now blocks (len + more) after
    are_filled =
        let within = whole in
        record {
          count = ceil_is (length blocks) (len + more) size pos (omega arith) (omega arith);
          distinct = are.distinct;
          each = each_filled;
        }

-- the blocks of a map have the pieces of bytes
abbrev pub bytes_piece : ℕ → List ℕ → ℕ → List ℕ
bytes_piece size bytes i = take size (drop (i * size) bytes)

pub of_bytes : (size : ℕ) (m : map.Blocks) (blocks bytes : List ℕ) → HoldsBytes size m blocks bytes → AreBlocks size (map.block_at m) blocks (length bytes) (bytes_piece size bytes)
of_bytes size m blocks bytes holds = record { count = holds.count; distinct = holds.distinct; each = holds.each }

pub to_bytes : (size : ℕ) (m : map.Blocks) (blocks bytes : List ℕ) → AreBlocks size (map.block_at m) blocks (length bytes) (bytes_piece size bytes) → HoldsBytes size m blocks bytes
to_bytes size m blocks bytes are = record { count = are.count; distinct = are.distinct; each = are.each }

-- and those of a home their lengths
abbrev pub length_in : Blocks → ℕ → Option ℕ
length_in blocks block = option_map length_of (find nat_cmp block blocks)

abbrev pub long_piece : ℕ → ℕ → ℕ → ℕ
long_piece size len i = min size (len - i * size)

some_long : (o : Option BlockView) (n : ℕ) → is_some o ≡ true → length_of (unwrap_or o (InSlice [] false)) ≡ n → option_map length_of o ≡ Some n
some_long None n some long = cc
some_long (Some view) n some long = ap Some long

long_some : (o : Option BlockView) (n : ℕ) → option_map length_of o ≡ Some n → (is_some o ≡ true) × (length_of (unwrap_or o (InSlice [] false)) ≡ n)
long_some None n is = cc
long_some (Some view) n is = (refl, ap (λ (o : Option ℕ). unwrap_or o n) is)

pub of_lengths : (seats : SeatingView) (file : FileView) → IsSound seats file → AreBlocks seats.size (length_in seats.blocks) file.blocks file.length (long_piece seats.size file.length)
of_lengths seats file sound = record {
  count = sound.count;
  distinct = sound.distinct;
  each = λ i inside. let is = sound.each i inside in some_long (find nat_cmp (get_or file.blocks i 0) seats.blocks) (long_piece seats.size file.length i) is.there is.long;
}

pub to_lengths : (seats : SeatingView) (file : FileView) → AreBlocks seats.size (length_in seats.blocks) file.blocks file.length (long_piece seats.size file.length) → IsSound seats file
to_lengths seats file are = record {
  count = are.count;
  distinct = are.distinct;
  each = λ i inside.
      let is = long_some (find nat_cmp (get_or file.blocks i 0) seats.blocks) (long_piece seats.size file.length i) (are.each i inside) in
      record { there = is.0; long = is.1 };
}

-- no block holds no bytes
pub holds-none : (size : ℕ) (m : map.Blocks) → HoldsBytes size m [] []
holds-none size m = record {
  count = sym (ceil_of_none size);
  distinct = λ i j d before inside. absurd (omega arith);
  each = λ i inside. absurd (omega arith);
}

pub sound-empty : (seats : SeatingView) → IsSound seats (record { length = 0; blocks = [] })
sound-empty seats = record {
  count = sym (ceil_of_none seats.size);
  distinct = λ i j d before inside. absurd (omega arith);
  each = λ i inside. absurd (omega arith);
}

-- a file whose blocks are as long as they were is as sound as it was
pub sound_kept : (file : FileView) (old new : SeatingView) → new.size ≡ old.size → KeepsLengths old new → IsSound old file → IsSound new file
sound_kept file old new size_is kept sound = record {
  count = sound.count ∙ ap (div_ceil file.length) (sym size_is);
  distinct = sound.distinct;
  each = λ i inside.
      let is = sound.each i inside in
      record {
        there = kept.there (get_or file.blocks i 0) ∙ is.there;
        long = kept.lengths (get_or file.blocks i 0) ∙ is.long ∙ ap (λ s. min s (file.length - i * s)) (sym size_is);
      };
}
