-- A loop that makes the blocks of `bytes`, and has made those of the first `done` of them.
use Rattle.std.proofs.Common.{◌≡◌, ℕ, ◌+◌, ◌-◌, ◌*◌, ◌<◌, ◌≤◌, is_some, false, List, [], ◌∷◌, ◌++◌, length, take, drop, min, None, refl, sym, ap, ◌∙◌, subst, arith}
use Rattle.std.specs.Int.{div_ceil}
use Rattle.std.specs.Ordering.{nat_cmp}
use Rattle.std.specs.FinMap.{find, put}
use Rattle.std.proofs.lemmas.List.{append_assoc, append-nil, length-take, length-drop, length_push, get_or_push}
use Rattle.shelf_link.specs.Blocks as map
use Rattle.shelf_link.specs.Told.{Told}
use Rattle.block_seats.specs.Blocks.{InSlice}
use Rattle.block_seats.specs.Noted.{noting_placed}
use Rattle.block_seats.specs.Purses.{with_block, next_place}
use Rattle.block_seats.specs.Seatings.{SeatingView, IsAlike, IsNewNumber}
use Rattle.block_home.specs.Holding.{Holds, IsHeld}
use Rattle.block_home.specs.Homes.{room_of}
use Rattle.block_home.specs.Calls.{CarriesWith}
use Rattle.block_home.proofs.Held.{put_other}
use Rattle.block_file.specs.Files.{file_in, HoldsBytes, IsSound}
use Rattle.block_file.specs.Growth.{IsGrown}
use Rattle.block_list.specs.Growth.{ComeIn, AddsBlocks}
use Rattle.block_list.specs.Lists.{KeepsOthers}
use Rattle.block_file.proofs.Appending.{grown_then}
use Rattle.block_list.proofs.Listed.{All-front}
use Rattle.block_list.proofs.Growing.{adds-push, come-append, come-none}
use Rattle.block_file.proofs.Pieces.{take-split, ceil_step}
use Rattle.block_file.proofs.Writing.{sound-none, grown-none, more_sound, more_grown}

pub record Adding (told : Told) (user : ℕ) (start : SeatingView) (first : List ℕ) (used : ℕ) (bytes : List ℕ) (seats : SeatingView) (blocks : List ℕ) (capacity done : ℕ) : Type 0 where
  pub within : done ≤ length bytes
  pub size_is : seats.size ≡ start.size
  pub room : div_ceil (length bytes - done) start.size ≤ room_of seats
  pub space : length blocks + div_ceil (length bytes - done) start.size ≤ capacity
  pub full : done < length bytes → used + done ≡ length blocks * start.size
  pub sound : IsSound seats (file_in (used + done) blocks)
  pub grown : (m : map.Blocks) (old : List ℕ) → Holds m told user start.blocks → used ≡ length old → HoldsBytes start.size m first old → IsGrown m told user seats (file_in (used + done) blocks) (old ++ take done bytes)
  pub added : (added : List ℕ) × (blocks ≡ first ++ added) × ComeIn added start seats × AddsBlocks start added seats
  pub others : KeepsOthers start.blocks seats.blocks blocks

pub adding-none : (told : Told) (user : ℕ) (start : SeatingView) (first : List ℕ) (used : ℕ) (bytes : List ℕ) (capacity : ℕ) → IsSound start (file_in used first) → (0 < length bytes → used ≡ length first * start.size)
    → div_ceil (length bytes) start.size ≤ room_of start → length first + div_ceil (length bytes) start.size ≤ capacity → Adding told user start first used bytes start first capacity 0
adding-none told user start first used bytes capacity sound full room space = record {
  within = omega arith;
  size_is = refl;
  room = subst (λ n. div_ceil n start.size ≤ room_of start) (sym whole) room;
  space = subst (λ n. length first + div_ceil n start.size ≤ capacity) (sym whole) space;
  full = λ some. nothing ∙ full some;
  sound = sound-none start used first sound;
  grown = λ m old holds used_is held. grown-none m told user start used first old holds used_is held;
  added = ([], sym (append-nil first), come-none start start refl, λ q. refl);
  others = record { others = λ q apart. refl };
}
  where
    whole : length bytes - 0 ≡ length bytes
    whole = omega arith

    nothing : used + 0 ≡ used
    nothing = omega arith

module _ (told : Told) (user : ℕ) (start : SeatingView) (first : List ℕ) (used : ℕ) (bytes : List ℕ) (seats : SeatingView) (blocks : List ℕ) (capacity done : ℕ) (a : Adding told user start first used bytes seats blocks capacity done) (pos : 0 < start.size) (more : done < length bytes)
    (new : SeatingView) (block end : ℕ) (end_is : end ≡ min (length bytes) (done + start.size)) (number : IsNewNumber seats block) (alike : IsAlike seats new)
    (blocks_are : new.blocks ≡ put nat_cmp block (InSlice (take (end - done) (drop done bytes)) false) seats.blocks) (purse_is : new.purse ≡ with_block seats.purse block) (moves_are : new.moves ≡ noting_placed seats.moves (next_place seats.purse) block)
    (left : room_of new + 1 ≡ room_of seats) (carries : CarriesWith user block (take (end - done) (drop done bytes)) told seats.blocks told new.blocks) where
  abbrev part : List ℕ
  part = take (end - done) (drop done bytes)

  long : length part ≡ end - done
  long = let within = a.within in omega (arith, length-take (end - done) (drop done bytes), length-drop done bytes)

  size_now : new.size ≡ seats.size
  size_now = ap (λ (s : SeatingView). s.size) alike

  pos_now : 0 < seats.size
  pos_now = let same = a.size_is in omega arith

  some : 0 < length part
  some = let many = long in omega arith

  fits : length part ≤ seats.size
  fits = let many = long in let same = a.size_is in omega arith

  full_now : used + done ≡ length blocks * seats.size
  full_now = a.full more ∙ ap (λ s. length blocks * s) (sym a.size_is)

  used_now : used + done + length part ≡ used + end
  used_now = let many = long in omega arith

  bytes_now : (old : List ℕ) → (old ++ take done bytes) ++ part ≡ old ++ take end bytes
  bytes_now old =
      append_assoc old (take done bytes) part
      ∙ ap (λ bs. old ++ bs) (sym (take-split done (end - done) bytes) ∙ ap (λ n. take n bytes) (let forward = a.within in omega arith))

  -- no map that is held has the new block
  gone : (m : map.Blocks) → Holds m told user seats.blocks → map.block_at m block ≡ None
  gone m holds = subst (λ o. IsHeld m told user block o) number.fresh (holds.each block)

  grown_now : (m : map.Blocks) (old : List ℕ) → Holds m told user start.blocks → used ≡ length old → HoldsBytes start.size m first old → IsGrown m told user new (file_in (used + end) (blocks ++ block ∷ [])) (old ++ take end bytes)
  grown_now m old holds used_is held =
      let before = a.grown m old holds used_is held in
      let after = more_grown seats (used + done) blocks a.sound pos_now new block part false size_now blocks_are number.fresh full_now some fits
      told user before.now (old ++ take done bytes) (gone before.now before.held) before.is.size_is before.is.holds (carries before.now before.held) in
      grown_then m told told user seats new (file_in (used + done) blocks) (file_in (used + end) (blocks ++ block ∷ [])) (old ++ take done bytes) (old ++ take end bytes) (λ q apart. All-front q blocks (block ∷ []) (blocks ++ block ∷ []) refl apart) before
      (subst (λ n. IsGrown before.now told user new (file_in n (blocks ++ block ∷ [])) (old ++ take end bytes)) used_now
      (subst (λ bs. IsGrown before.now told user new (file_in (used + done + length part) (blocks ++ block ∷ [])) bs) (bytes_now old) after))

  -- one block more was made
  pub adding-more : Adding told user start first used bytes new (blocks ++ block ∷ []) capacity end
  adding-more =
      let within = a.within in
      let step = ceil_step (length bytes - done) start.size pos (omega arith) in
      let rest : length bytes - end ≡ (length bytes - done) - start.size = omega arith in
      let many = length_push blocks block in
      record {
        within = omega arith;
        size_is = size_now ∙ a.size_is;
        room = rw rest (let room = a.room in omega arith);
        space = rw rest (let space = a.space in omega arith);
        full = λ still. rw many (let full = a.full more in let whole : end ≡ done + start.size = omega arith in omega arith);
        sound = subst (λ n. IsSound new (file_in n (blocks ++ block ∷ []))) used_now
            (more_sound seats (used + done) blocks a.sound pos_now new block part false size_now blocks_are number.fresh full_now some fits);
        grown = grown_now;
        added = (
          a.added.0 ++ block ∷ [],
          ap (λ bs. bs ++ block ∷ []) a.added.1 ∙ append_assoc first a.added.0 (block ∷ []),
          come-append a.added.0 (block ∷ []) start seats new a.added.2 (record { purse = purse_is; moves = moves_are; alike = alike }),
          adds-push start a.added.0 seats new block (InSlice part false) a.added.3 number (λ q. ap (λ bs. is_some (find nat_cmp q bs)) blocks_are),
        );
        others = record {
          others = λ q apart.
              ap (find nat_cmp q) blocks_are
              ∙ put_other seats.blocks block (InSlice part false) q (λ same. apart (length blocks) 0 (omega arith) (same ∙ sym (get_or_push blocks block 0 (length blocks) refl)))
              ∙ a.others.others q (All-front q blocks (block ∷ []) (blocks ++ block ∷ []) refl apart);
        };
      }
