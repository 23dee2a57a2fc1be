-- A loop that reads the bytes from a place on, and has read the first `done` of them.
use Rattle.std.proofs.Common.{◌≡◌, ℕ, ◌+◌, ◌-◌, ◌*◌, ◌/◌, ◌%◌, ◌<◌, ◌≤◌, min, List, ◌++◌, length, take, drop, get_or, Option, sym, ap, ◌∙◌, inl, inr, arith}
use Rattle.std.specs.Option.{unwrap_or}
use Rattle.std.proofs.Math.Nat.{mul-le-mul_left}
use Rattle.std.proofs.lemmas.Bool.{cases_lt}
use Rattle.std.proofs.lemmas.Nat.{div-add-mod'}
use Rattle.std.proofs.lemmas.List.{drop-drop}
use Rattle.std.proofs.lemmas.Slice.{take-put_mid}
use borrow.Rule.Slice.PartMut.{put_mid}
use Rattle.shelf_link.specs.Blocks as map
use Rattle.shelf_link.specs.Told.{Told}
use Rattle.block_seats.specs.Seatings.{SeatingView, HasBlock, length_at}
use Rattle.block_home.specs.Holding.{Holds}
use Rattle.block_home.specs.Calls.{IsPart}
use Rattle.block_file.specs.Files.{file_in, HoldsBytes, IsSound}
use Rattle.block_file.proofs.Pieces.{take-split, part_of_piece}
use Rattle.block_file.proofs.Holding.{count_above, length_in, long_piece, of_lengths}

module _ (seats : SeatingView) (used : ℕ) (blocks : List ℕ) (sound : IsSound seats (file_in used blocks)) (pos : 0 < seats.size) where
  -- the block of a place
  pub block_inside : (at : ℕ) → at < used → at / seats.size < length blocks
  block_inside at inside =
      let above = count_above seats.size (length_in seats.blocks) blocks used (long_piece seats.size used) (of_lengths seats (file_in used blocks) sound) pos in
      let split = div-add-mod' at seats.size in
      elim (cases_lt (at / seats.size) (length blocks)) [
        | inl below ↦ below
        | inr past ↦ let h : length blocks ≤ at / seats.size = past in absurd (omega (arith, mul-le-mul_left seats.size h))
      ]

  pub block_there : (at : ℕ) → at < used → HasBlock seats (get_or blocks (at / seats.size) 0)
  block_there at inside = let is = sound.each (at / seats.size) (block_inside at inside) in is.there

  -- a part of it that begins there is in the block
  pub part_within : (at count : ℕ) → at % seats.size + count ≤ seats.size → at + count ≤ used → 0 < count → at % seats.size + count ≤ length_at seats (get_or blocks (at / seats.size) 0)
  part_within at count fits inside some =
      let split = div-add-mod' at seats.size in
      let is = sound.each (at / seats.size) (block_inside at (omega arith)) in
      let long : length_at seats (get_or blocks (at / seats.size) 0) ≡ min seats.size (used - at / seats.size * seats.size) = is.long in
      rw long (omega arith)

-- one part more was read
module _ (told : Told) (user : ℕ) (seats : SeatingView) (blocks bytes : List ℕ) (m : map.Blocks) (held : Holds m told user seats.blocks) (holds : HoldsBytes seats.size m blocks bytes) where
  -- what is read of a block is that part of the bytes
  part_is : (at : ℕ) (part : List ℕ) → at % seats.size + length part ≤ seats.size → at / seats.size < length blocks → IsPart user (get_or blocks (at / seats.size) 0) (at % seats.size) part told seats.blocks → part ≡ take (length part) (drop at bytes)
  part_is at part fits inside is =
      let there = is m held in
      let same : there.0 ≡ take seats.size (drop (at / seats.size * seats.size) bytes) = ap (λ (o : Option (List ℕ)). unwrap_or o there.0) (sym there.1 ∙ holds.each (at / seats.size) inside) in
      there.2
      ∙ ap (λ bs. take (length part) (drop (at % seats.size) bs)) same
      ∙ part_of_piece seats.size (at / seats.size * seats.size) (at % seats.size) (length part) bytes fits
      ∙ ap (λ n. take (length part) (drop n bytes)) (div-add-mod' at seats.size)

  pub read_more : (from done end : ℕ) (out part : List ℕ) → done ≤ end → end ≤ length out → (from + done) % seats.size + (end - done) ≤ seats.size → (from + done) / seats.size < length blocks → take done out ≡ take done (drop from bytes)
      → IsPart user (get_or blocks ((from + done) / seats.size) 0) ((from + done) % seats.size) part told seats.blocks → length part ≡ end - done → take end (put_mid done (end - done) out part) ≡ take end (drop from bytes)
  read_more from done end out part forward within fits inside so_far is many =
      let all : end ≡ done + (end - done) = omega arith in
      let part_are : part ≡ take (end - done) (drop (from + done) bytes) = part_is (from + done) part (omega arith) inside is ∙ ap (λ n. take n (drop (from + done) bytes)) many in
      take-put_mid done (end - done) out part end (omega arith) (omega arith)
      ∙ (λ i. so_far i ++ (part_are ∙ ap (take (end - done)) (sym (drop-drop done from bytes))) i)
      ∙ sym (take-split done (end - done) (drop from bytes))
      ∙ ap (λ n. take n (drop from bytes)) (sym all)

-- places of one block
same_block : (place at size : ℕ) → 0 < size → at ≤ place → place < at / size * size + size → place / size ≡ at / size
same_block place at size pos above below =
    let split = div-add-mod' at size in
    let parts = div-add-mod' place size in
    elim (cases_lt (place / size) (at / size)) [
      | inl less ↦ let h : place / size + 1 ≤ at / size = omega arith in absurd (omega (arith, mul-le-mul_left size h))
      | inr not_less ↦
          elim (cases_lt (at / size) (place / size)) [
            | inl more ↦ let h : at / size + 1 ≤ place / size = omega arith in absurd (omega (arith, mul-le-mul_left size h))
            | inr not_more ↦ omega arith
          ]
    ]

-- a place up to the end of what is read next was read before, or is in the block that is read
pub place_between : {A : Type 0} (size from done end place : ℕ) → 0 < size → (from + done) % size + (end - done) ≤ size → place < from + end → (place < from + done → A) → (place / size ≡ (from + done) / size → A) → A
place_between size from done end place pos fits below before here =
    elim (cases_lt place (from + done)) [
      | inl early ↦ before early
      | inr not_early ↦ here (same_block place (from + done) size pos (omega arith) (let split = div-add-mod' (from + done) size in omega arith))
    ]
