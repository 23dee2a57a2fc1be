-- Bytes written at the end of a block, which comes into a slice first.
use Rattle.std.proofs.Common.{◌≡◌, ◌≢◌, ℕ, ◌+◌, ◌≤◌, Bool, true, false, not, cond, is_some, List, [], ◌∷◌, ◌++◌, length, drop, Some, None, Option, refl, sym, ap, ◌∙◌, subst, inl, inr, append-nil, length-append, arith}
use Rattle.std.specs.Option.{option_map_or}
use Rattle.std.specs.Ordering.{nat_cmp}
use Rattle.std.specs.FinMap.{find, put}
use Rattle.std.proofs.lemmas.Bool.{cases_eq}
use Rattle.std.proofs.lemmas.List.{take_all, drop_all}
use Rattle.slice_seq.specs.Used.{written_at}
use Rattle.slice_seq.specs.Purses.{has_block}
use Rattle.block_seats.specs.Blocks.{BlockView, InSlice, length_of, seen}
use Rattle.block_seats.specs.Purses.{place_of}
use Rattle.block_seats.specs.Seatings.{SeatingView, HasBlock, bytes_at, length_at}
use Rattle.block_seats.proofs.Purses.{has_block-place}
use Rattle.block_home.specs.Homes.{room_of}
use Rattle.block_home.specs.Calls.{stamp_at, IsLoaded, KeepsLengths}
use Rattle.block_home.proofs.Held.{put_here, put_other}
use Rattle.block_home.proofs.Shelved.{length_seated}
use Rattle.block_list.specs.Lists.{KeepsOthers, parked_of}
use Rattle.block_list.specs.Growth.{ComeIn}
use Rattle.block_list.proofs.Coming.{come_one}
use Rattle.block_list.proofs.Growing.{come-append, come-blocks, come-none, same_put}
use Rattle.block_queue.specs.Queues.{QueueView, target_of, needed_of, added_of, need_of}

written_end : (bytes piece : List ℕ) (at : ℕ) → at ≡ length bytes → written_at bytes at piece ≡ bytes ++ piece
written_end bytes piece at end =
    ap (λ front. front ++ piece ++ drop (at + length piece) bytes) (take_all at bytes (omega arith))
    ∙ ap (λ back. bytes ++ piece ++ back) (drop_all (at + length piece) bytes (omega arith))
    ∙ append-nil (bytes ++ piece)

-- a parked block has room
pub room_for : (seats : SeatingView) (block : ℕ) → length (parked_of seats.purse (block ∷ [])) ≤ room_of seats → place_of seats.purse block ≡ None → 1 ≤ room_of seats
room_for seats block room none =
    subst (λ (b : Bool). length (cond (not b) (block ∷ []) []) ≤ room_of seats) (has_block-place seats.purse block ∙ ap is_some none) room

-- a last block that is needed is in no slice
pub needed_away : (seats : SeatingView) (queue : QueueView) (bytes block : ℕ) → target_of seats queue bytes ≡ Some block → needed_of seats queue bytes ≢ [] → place_of seats.purse block ≡ None
needed_away seats queue bytes block target needed = by (place_of seats.purse block) refl
  where
    by : (o : Option (ℕ × ℕ)) → place_of seats.purse block ≡ o → o ≡ None
    by None none = refl
    by (Some place) here =
        absurd (needed (ap (λ (t : Option ℕ). option_map_or (λ b. parked_of seats.purse (b ∷ [])) t []) target
        ∙ ap (λ (t : Bool). cond (not t) (block ∷ []) []) (has_block-place seats.purse block ∙ ap is_some here)))

-- what a push needs
pub need_at : (seats : SeatingView) (queue : QueueView) (bytes block : ℕ) (here : Bool) → target_of seats queue bytes ≡ Some block → is_some (place_of seats.purse block) ≡ here
    → need_of seats queue bytes ≡ cond here 0 1
need_at seats queue bytes block here target is =
    ap (λ (t : Option ℕ). option_map_or (λ b. cond (has_block seats.purse b) 0 1) t 1) target
    ∙ ap (λ (t : Bool). cond {A = ℕ} t 0 1) (has_block-place seats.purse block ∙ is)

pub need_parts : (seats : SeatingView) (queue : QueueView) (bytes number : ℕ) → need_of seats queue bytes ≡ length (needed_of seats queue bytes) + length (added_of seats queue bytes number)
need_parts seats queue bytes number = by (target_of seats queue bytes)
  where
    one : (here : Bool) (block : ℕ) → cond {A = ℕ} here 0 1 ≡ length (cond (not here) (block ∷ []) []) + 0
    one true block = refl
    one false block = refl

    by : (t : Option ℕ) → option_map_or (λ b. cond (has_block seats.purse b) 0 1) t 1 ≡ length (option_map_or (λ b. parked_of seats.purse (b ∷ [])) t []) + length (option_map_or (λ b. []) t (number ∷ []))
    by None = refl
    by (Some block) = one (has_block seats.purse block) block

module _ (block : ℕ) (old mid : SeatingView) (loaded : IsLoaded block old mid) where
  -- it came in, or was there
  came_one : ComeIn (parked_of old.purse (block ∷ [])) old mid
  came_one =
      subst (λ (b : Bool). ComeIn (cond (not b) (block ∷ []) []) old mid) (sym (has_block-place old.purse block)) (by (place_of old.purse block) refl)
    where
      by : (o : Option (ℕ × ℕ)) → place_of old.purse block ≡ o → ComeIn (cond (not (is_some o)) (block ∷ []) []) old mid
      by None none = let came = loaded.came none in come_one block came.0 old mid came.2
      by (Some place) here = come-none old mid (loaded.stays (ap is_some here))

  loaded_other : (q : ℕ) → q ≢ block → find nat_cmp q mid.blocks ≡ find nat_cmp q old.blocks
  loaded_other q apart = by (place_of old.purse block) refl
    where
      by : (o : Option (ℕ × ℕ)) → place_of old.purse block ≡ o → find nat_cmp q mid.blocks ≡ find nat_cmp q old.blocks
      by None none = let came = loaded.came none in ap (find nat_cmp q) came.2.blocks ∙ put_other old.blocks block (InSlice came.0 true) q apart
      by (Some place) here = ap (λ (s : SeatingView). find nat_cmp q s.blocks) (loaded.stays (ap is_some here))

  -- and bytes were written at its end
  module _ (lengths : KeepsLengths old mid) (there : HasBlock old block) (unstamped : stamp_at mid.blocks block ≡ None) (new : SeatingView) (at : ℕ) (piece : List ℕ) (was : Bool)
      (end : at ≡ length_at mid block) (rest : new ≡ record mid { blocks = new.blocks }) (blocks : new.blocks ≡ put nat_cmp block (InSlice (written_at (bytes_at mid block) at piece) was) mid.blocks) where
    there_mid : HasBlock mid block
    there_mid = lengths.there block ∙ there

    pub written_is : written_at (bytes_at mid block) at piece ≡ bytes_at mid block ++ piece
    written_is = written_end (bytes_at mid block) piece at (end ∙ sym (length_seated (find nat_cmp block mid.blocks) there_mid unstamped))

    pub behind_came : ComeIn (parked_of old.purse (block ∷ [])) old new
    behind_came =
        subst (λ (came : List ℕ). ComeIn came old new) (append-nil (parked_of old.purse (block ∷ [])))
        (come-append (parked_of old.purse (block ∷ [])) [] old mid new came_one (come-blocks mid new rest))

    pub behind_longer : length_at new block ≡ length_at old block + length piece
    behind_longer =
        ap (λ (o : Option BlockView). length_of (seen o)) (ap (find nat_cmp block) blocks ∙ put_here mid.blocks block _)
        ∙ ap (λ (xs : List ℕ). length xs) written_is
        ∙ length-append (bytes_at mid block) piece
        ∙ ap (λ (n : ℕ). n + length piece) (length_seated (find nat_cmp block mid.blocks) there_mid unstamped ∙ lengths.lengths block)

    pub behind_lengths : (q : ℕ) → length_at old q ≤ length_at new q
    behind_lengths q =
        elim (cases_eq q block) [
          | inl same ↦
              let longer = behind_longer in
              subst (λ (p : ℕ). length_at old p ≤ length_at new p) (sym same) (let grown : length_at old block ≤ length_at new block = omega arith in grown)
          | inr apart ↦
              let other : length_at new q ≡ length_at old q = ap (λ (o : Option BlockView). length_of (seen o)) (ap (find nat_cmp q) blocks ∙ put_other mid.blocks block _ q apart) ∙ lengths.lengths q in
              omega arith
        ]

    pub behind_same : (q : ℕ) → is_some (find nat_cmp q new.blocks) ≡ is_some (find nat_cmp q old.blocks)
    behind_same q = same_put mid.blocks new.blocks block _ blocks there_mid q ∙ lengths.there q

    pub behind_others : KeepsOthers old.blocks new.blocks (block ∷ [])
    behind_others = record {
      others = λ q apart.
          let away : q ≢ block = apart 0 0 (omega arith) in
          ap (find nat_cmp q) blocks ∙ put_other mid.blocks block _ q away ∙ loaded_other q away;
    }
