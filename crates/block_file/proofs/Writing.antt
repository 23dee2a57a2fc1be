-- What a home and the maps that it holds have of a file, once its last block was filled, or one more was made.
use Rattle.std.proofs.Common.{◌≡◌, ◌≢◌, ℕ, ◌+◌, ◌-◌, ◌*◌, ◌%◌, ◌<◌, ◌≤◌, min, is_some, Bool, true, false, List, [], ◌∷◌, ◌++◌, length, take, drop, get_or, Some, None, Option, refl, sym, ap, ◌∙◌, subst, arith}
use Rattle.std.specs.Option.{unwrap_or, option_map, option_and_then}
use Rattle.std.specs.Ordering.{nat_cmp}
use Rattle.std.specs.FinMap.{find, put}
use Rattle.std.proofs.lemmas.List.{length-append, length_push, get_or_push, append-nil}
use Rattle.slice_seq.specs.Used.{written_at}
use Rattle.shelf_link.specs.Blocks as map
use Rattle.shelf_link.specs.Told.{Told}
use Rattle.shelf_link.proofs.Blocks.{at_with_block, others_with_block}
use Rattle.block_seats.specs.Blocks.{Blocks, BlockView, InSlice, InStore, bytes_of, length_of, stamp_of}
use Rattle.block_seats.specs.Seatings.{SeatingView, bytes_at}
use Rattle.block_home.specs.Holding.{Holds}
use Rattle.block_home.specs.Calls.{stamp_at}
use Rattle.block_home.proofs.Held.{put_here, put_other}
use Rattle.block_home.proofs.Shelved.{seated_held}
use Rattle.block_file.specs.Files.{file_in, HoldsBytes, IsSound}
use Rattle.block_file.specs.Growth.{IsGrown}
use Rattle.block_file.proofs.Pieces.{piece-append, last-append, next-append, written_at_end}
use Rattle.block_file.proofs.Holding.{AreBlocks, are_more, are_filled, bytes_piece, of_bytes, to_bytes, length_in, long_piece, of_lengths, to_lengths, last_ends, last_inside}

-- what is found of a block after one was set
long_here : (old new : Blocks) (block : ℕ) (bytes : List ℕ) (was : Bool) → new ≡ put nat_cmp block (InSlice bytes was) old → length_in new block ≡ Some (length bytes)
long_here old new block bytes was is = ap (λ bs. length_in bs block) is ∙ ap (λ (o : Option BlockView). option_map length_of o) (put_here old block (InSlice bytes was))

long_other : (old new : Blocks) (block : ℕ) (bytes : List ℕ) (was : Bool) → new ≡ put nat_cmp block (InSlice bytes was) old → (q : ℕ) → q ≢ block → length_in new q ≡ length_in old q
long_other old new block bytes was is q apart = ap (λ bs. length_in bs q) is ∙ ap (λ (o : Option BlockView). option_map length_of o) (put_other old block (InSlice bytes was) q apart)

-- a block without a stamp is as long as its bytes
long_seated : (o : Option BlockView) → is_some o ≡ true → option_and_then stamp_of o ≡ None → length_of (unwrap_or o (InSlice [] false)) ≡ length (bytes_of (unwrap_or o (InSlice [] false)))
long_seated None some none = cc
long_seated (Some (InSlice bytes was)) some none = refl
long_seated (Some (InStore stamp)) some none = cc

-- nothing was written
pub grown-none : (m : map.Blocks) (told : Told) (user : ℕ) (seats : SeatingView) (used : ℕ) (blocks old : List ℕ) → Holds m told user seats.blocks → used ≡ length old → HoldsBytes seats.size m blocks old → IsGrown m told user seats (file_in (used + 0) blocks) (old ++ [])
grown-none m told user seats used blocks old holds used_is held = record {
  now = m;
  held = holds;
  is = record {
    size_is = (let nothing : used + 0 ≡ used = omega arith in nothing) ∙ used_is ∙ ap length (sym (append-nil old));
    holds = subst (λ bs. HoldsBytes seats.size m blocks bs) (sym (append-nil old)) held;
  };
  keeps = record { others = λ q apart. refl };
}

pub sound-none : (seats : SeatingView) (used : ℕ) (blocks : List ℕ) → IsSound seats (file_in used blocks) → IsSound seats (file_in (used + 0) blocks)
sound-none seats used blocks sound = subst (λ n. IsSound seats (file_in n blocks)) (let nothing : used ≡ used + 0 = omega arith in nothing) sound

-- the last block is filled by a part of what comes next
module _ (seats : SeatingView) (used : ℕ) (blocks : List ℕ) (sound : IsSound seats (file_in used blocks)) (pos : 0 < seats.size) (over : used % seats.size ≢ 0) (none : stamp_at seats.blocks (get_or blocks (length blocks - 1) 0) ≡ None)
    (new : SeatingView) (part : List ℕ) (was : Bool) (size_is : new.size ≡ seats.size)
    (blocks_are : new.blocks ≡ put nat_cmp (get_or blocks (length blocks - 1) 0) (InSlice (written_at (bytes_at seats (get_or blocks (length blocks - 1) 0)) (used % seats.size) part) was) seats.blocks) (fits : used % seats.size + length part ≤ seats.size) where
  abbrev last : ℕ
  last = length blocks - 1

  abbrev block : ℕ
  block = get_or blocks last 0

  abbrev lengths : AreBlocks seats.size (length_in seats.blocks) blocks used (long_piece seats.size used)
  lengths = of_lengths seats (file_in used blocks) sound

  ends : last * seats.size + used % seats.size ≡ used
  ends = last_ends seats.size (length_in seats.blocks) blocks used (long_piece seats.size used) lengths pos over

  inside : last < length blocks
  inside = last_inside seats.size (length_in seats.blocks) blocks used (long_piece seats.size used) lengths pos over

  some : 0 < used % seats.size
  some = omega arith

  long : length (bytes_at seats block) ≡ used % seats.size
  long =
      let is = sound.each last inside in
      let e = ends in
      let below : used % seats.size < seats.size = omega arith in
      sym (long_seated (find nat_cmp block seats.blocks) is.there none) ∙ is.long ∙ (let same : min seats.size (used - last * seats.size) ≡ used % seats.size = omega arith in same)

  written : written_at (bytes_at seats block) (used % seats.size) part ≡ bytes_at seats block ++ part
  written = written_at_end (bytes_at seats block) part (used % seats.size) (sym long)

  many : length (written_at (bytes_at seats block) (used % seats.size) part) ≡ used % seats.size + length part
  many = ap length written ∙ length-append (bytes_at seats block) part ∙ ap (λ n. n + length part) long

  pub filled_sound : IsSound new (file_in (used + length part) blocks)
  filled_sound =
      let e = ends in
      let after : AreBlocks seats.size (length_in new.blocks) blocks (used + length part) (long_piece seats.size (used + length part)) =
      are_filled seats.size (length_in seats.blocks) blocks used (long_piece seats.size used) lengths pos (length_in new.blocks) (long_piece seats.size (used + length part)) (used % seats.size) (length part)
      (long_other seats.blocks new.blocks block _ was blocks_are)
      (long_here seats.blocks new.blocks block _ was blocks_are ∙ ap Some (many ∙ (let same : used % seats.size + length part ≡ min seats.size (used + length part - last * seats.size) = omega arith in same)))
      (λ i within. let whole : min seats.size (used + length part - i * seats.size) ≡ min seats.size (used - i * seats.size) = omega arith in whole) e some fits in
      to_lengths new (file_in (used + length part) blocks) (subst (λ s. AreBlocks s (length_in new.blocks) blocks (used + length part) (long_piece s (used + length part))) (sym size_is) after)

  module _ (told now : Told) (user : ℕ) (m : map.Blocks) (old : List ℕ) (holds : Holds m told user seats.blocks) (used_is : used ≡ length old) (held : HoldsBytes seats.size m blocks old)
      (after : Holds (map.with_block m block (written_at (bytes_at seats block) (used % seats.size) part)) now user new.blocks) where
    -- the map has the bytes that are in the slice
    bytes_are : bytes_at seats block ≡ take seats.size (drop (last * seats.size) old)
    bytes_are =
        let is = sound.each last inside in
        ap (λ (o : Option (List ℕ)). unwrap_or o []) (sym (seated_held m told user block seats.blocks is.there none holds) ∙ held.each last inside)

    filled_bytes : AreBlocks seats.size (map.block_at (map.with_block m block (written_at (bytes_at seats block) (used % seats.size) part))) blocks (length (old ++ part)) (bytes_piece seats.size (old ++ part))
    filled_bytes =
        let e = ends in
        let more = length-append old part in
        subst (λ n. AreBlocks seats.size (map.block_at (map.with_block m block (written_at (bytes_at seats block) (used % seats.size) part))) blocks n (bytes_piece seats.size (old ++ part))) (sym more)
        (are_filled seats.size (map.block_at m) blocks (length old) (bytes_piece seats.size old) (of_bytes seats.size m blocks old held) pos
        (map.block_at (map.with_block m block (written_at (bytes_at seats block) (used % seats.size) part))) (bytes_piece seats.size (old ++ part)) (used % seats.size) (length part)
        (λ q apart. others_with_block m block _ q apart)
        (at_with_block m block _ ∙ ap Some (written ∙ ap (λ bs. bs ++ part) bytes_are ∙ sym (last-append seats.size (last * seats.size) old part (omega arith) (omega arith))))
        (λ i within. piece-append seats.size (i * seats.size) old part within) (e ∙ used_is) some fits)

    pub filled_grown : IsGrown m now user new (file_in (used + length part) blocks) (old ++ part)
    filled_grown = record {
      now = map.with_block m block (written_at (bytes_at seats block) (used % seats.size) part);
      held = after;
      is = record {
        size_is = ap (λ n. n + length part) used_is ∙ sym (length-append old part);
        holds = subst (λ s. HoldsBytes s (map.with_block m block (written_at (bytes_at seats block) (used % seats.size) part)) blocks (old ++ part)) (sym size_is) (to_bytes seats.size _ blocks (old ++ part) filled_bytes);
      };
      keeps = record { others = λ q apart. others_with_block m block _ q (apart last 0 inside) };
    }

-- one block more is made, after blocks that are all full
module _ (seats : SeatingView) (used : ℕ) (blocks : List ℕ) (sound : IsSound seats (file_in used blocks)) (pos : 0 < seats.size) (new : SeatingView) (block : ℕ) (part : List ℕ) (was : Bool) (size_is : new.size ≡ seats.size)
    (blocks_are : new.blocks ≡ put nat_cmp block (InSlice part was) seats.blocks) (fresh : find nat_cmp block seats.blocks ≡ None) (full : used ≡ length blocks * seats.size) (some : 0 < length part) (fits : length part ≤ seats.size) where
  pub more_sound : IsSound new (file_in (used + length part) (blocks ++ block ∷ []))
  more_sound =
      let after : AreBlocks seats.size (length_in new.blocks) (blocks ++ block ∷ []) (used + length part) (long_piece seats.size (used + length part)) =
      are_more seats.size (length_in seats.blocks) blocks used (long_piece seats.size used) (of_lengths seats (file_in used blocks) sound) pos (length_in new.blocks) (long_piece seats.size (used + length part)) block (length part)
      (ap (λ (o : Option BlockView). option_map length_of o) fresh)
      (long_other seats.blocks new.blocks block part was blocks_are)
      (long_here seats.blocks new.blocks block part was blocks_are ∙ ap Some (let same : length part ≡ min seats.size (used + length part - length blocks * seats.size) = omega arith in same))
      (λ i within. let whole : min seats.size (used + length part - i * seats.size) ≡ min seats.size (used - i * seats.size) = omega arith in whole) full some fits in
      to_lengths new (file_in (used + length part) (blocks ++ block ∷ [])) (subst (λ s. AreBlocks s (length_in new.blocks) (blocks ++ block ∷ []) (used + length part) (long_piece s (used + length part))) (sym size_is) after)

  module _ (now : Told) (user : ℕ) (m : map.Blocks) (old : List ℕ) (gone : map.block_at m block ≡ None) (used_is : used ≡ length old) (held : HoldsBytes seats.size m blocks old)
      (after : Holds (map.with_block m block part) now user new.blocks) where
    more_bytes : AreBlocks seats.size (map.block_at (map.with_block m block part)) (blocks ++ block ∷ []) (length (old ++ part)) (bytes_piece seats.size (old ++ part))
    more_bytes =
        let more = length-append old part in
        subst (λ n. AreBlocks seats.size (map.block_at (map.with_block m block part)) (blocks ++ block ∷ []) n (bytes_piece seats.size (old ++ part))) (sym more)
        (are_more seats.size (map.block_at m) blocks (length old) (bytes_piece seats.size old) (of_bytes seats.size m blocks old held) pos
        (map.block_at (map.with_block m block part)) (bytes_piece seats.size (old ++ part)) block (length part) gone
        (λ q apart. others_with_block m block part q apart)
        (at_with_block m block part ∙ ap Some (sym (next-append seats.size (length blocks * seats.size) old part (sym full ∙ used_is) fits)))
        (λ i within. piece-append seats.size (i * seats.size) old part within) (sym used_is ∙ full) some fits)

    pub more_grown : IsGrown m now user new (file_in (used + length part) (blocks ++ block ∷ [])) (old ++ part)
    more_grown = record {
      now = map.with_block m block part;
      held = after;
      is = record {
        size_is = ap (λ n. n + length part) used_is ∙ sym (length-append old part);
        holds = subst (λ s. HoldsBytes s (map.with_block m block part) (blocks ++ block ∷ []) (old ++ part)) (sym size_is) (to_bytes seats.size _ (blocks ++ block ∷ []) (old ++ part) more_bytes);
      };
      keeps = record { others = λ q apart. others_with_block m block part q (λ same. apart (length blocks) 0 (let many = length_push blocks block in omega arith) (same ∙ sym (get_or_push blocks block 0 (length blocks) refl))) };
    }
