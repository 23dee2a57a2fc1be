-- Parked blocks come into slices, one after the other.
use Rattle.std.proofs.Common.{◌≡◌, ◌≢◌, ℕ, suc, ◌+◌, ◌<◌, ◌≤◌, ◌⊎◌, Bool, true, false, not, cond, is_some, List, [], ◌∷◌, ◌++◌, length, take, drop, get_or, Some, None, Option, refl, sym, ap, ◌∙◌, subst, inl, inr, arith, append-nil}
use Rattle.std.specs.Prelude.{All, AllPairs}
use Rattle.std.specs.Ordering.{nat_cmp}
use Rattle.std.specs.FinMap.{find}
use Rattle.std.proofs.Math.Seq.{drop-cons}
use Rattle.slice_seq.specs.Purses.{has_block}
use Rattle.block_seats.specs.Blocks.{InSlice}
use Rattle.block_seats.specs.Purses.{place_of, next_place}
use Rattle.block_seats.specs.Seatings.{SeatingView, IsSeated}
use Rattle.block_seats.proofs.Purses.{has_block-place}
use Rattle.block_home.specs.Homes.{room_of}
use Rattle.block_home.specs.Calls.{KeepsLengths, ComesIn, IsLoaded}
use Rattle.block_home.proofs.Held.{put_other}
use Rattle.block_list.specs.Lists.{parked_of}
use Rattle.block_list.specs.Growth.{ComeIn}
use Rattle.block_list.proofs.Growing.{come-append, come-none}
use Rattle.block_list.proofs.Listed.{eq_false, filter-front, filter-more, next_apart, All-take}
use Rattle.block_list.proofs.Going.{lengths_then, lengths_same}

-- one block came in
pub come_one : (block : ℕ) (bytes : List ℕ) (old new : SeatingView) → ComesIn block bytes old new → ComeIn (block ∷ []) old new
come_one block bytes old new comes = record { purse = comes.purse; moves = comes.moves; alike = comes.alike }

-- a loop that loads blocks, and came to the one at an index
pub record Loading (old : SeatingView) (blocks : List ℕ) (seats : SeatingView) (i : ℕ) : Type 0 where
  pub comes : ComeIn (parked_of old.purse (take i blocks)) old seats
  pub places : (q : ℕ) → All (λ b. q ≢ b) (take i blocks) → place_of seats.purse q ≡ place_of old.purse q
  pub lengths : KeepsLengths old seats
  pub others : (q : ℕ) → All (λ b. q ≢ b) (take i blocks) → find nat_cmp q seats.blocks ≡ find nat_cmp q old.blocks
  pub room : length (parked_of old.purse (drop i blocks)) ≤ room_of seats

pub loading-none : (old : SeatingView) (blocks : List ℕ) → length (parked_of old.purse blocks) ≤ room_of old → Loading old blocks old 0
loading-none old blocks room = record { comes = come-none old old refl; places = λ q apart. refl; lengths = lengths_same old; others = λ q apart. refl; room = room }

module _ (old : SeatingView) (blocks : List ℕ) (distinct : AllPairs ◌≢◌ blocks) (seats : SeatingView) (i : ℕ) (p : Loading old blocks seats i) (inside : i < length blocks) where
  abbrev block : ℕ
  block = get_or blocks i 0

  -- the next block is where it was at first
  pub loading_place : place_of seats.purse block ≡ place_of old.purse block
  loading_place = p.places block (next_apart blocks i distinct inside)

  pub loading_find : find nat_cmp block seats.blocks ≡ find nat_cmp block old.blocks
  loading_find = p.others block (next_apart blocks i distinct inside)

  parked_is : (b : Bool) → is_some (place_of seats.purse block) ≡ b → not (has_block old.purse block) ≡ not b
  parked_is b is = ap not (has_block-place old.purse block ∙ ap is_some (sym loading_place) ∙ is)

  parked_now : (b : Bool) → is_some (place_of seats.purse block) ≡ b → parked_of old.purse (take (i + 1) blocks) ≡ parked_of old.purse (take i blocks) ++ cond (not b) (block ∷ []) []
  parked_now b is =
      filter-more (λ b. not (has_block old.purse b)) i blocks inside
      ∙ ap (λ t. parked_of old.purse (take i blocks) ++ cond t (block ∷ []) []) (parked_is b is)

  rest_now : (b : Bool) → is_some (place_of seats.purse block) ≡ b → parked_of old.purse (drop i blocks) ≡ cond (not b) (block ∷ parked_of old.purse (drop (i + 1) blocks)) (parked_of old.purse (drop (i + 1) blocks))
  rest_now b is =
      ap (parked_of old.purse) (drop-cons blocks i 0 inside ∙ ap (λ n. block ∷ drop n blocks) (let next : suc i ≡ i + 1 = omega arith in next))
      ∙ ap (λ t. cond t (block ∷ parked_of old.purse (drop (i + 1) blocks)) (parked_of old.purse (drop (i + 1) blocks))) (parked_is b is)

  -- there is room for it
  pub loading_room : place_of seats.purse block ≡ None → 1 ≤ room_of seats
  loading_room none =
      let room = p.room in
      let rest : length (parked_of old.purse (drop i blocks)) ≡ suc (length (parked_of old.purse (drop (i + 1) blocks))) = ap length (rest_now false (ap is_some none)) in
      omega arith

  -- whether one of the blocks so far was parked
  pub loading_parked : place_of seats.purse block ≡ None → 0 < length (parked_of old.purse (drop i blocks))
  loading_parked none =
      let rest : length (parked_of old.purse (drop i blocks)) ≡ suc (length (parked_of old.purse (drop (i + 1) blocks))) = ap length (rest_now false (ap is_some none)) in
      omega arith

  pub loading_seated : (place : ℕ × ℕ) → place_of seats.purse block ≡ Some place → parked_of old.purse (take (i + 1) blocks) ≡ parked_of old.purse (take i blocks)
  loading_seated place some = parked_now true (ap is_some some) ∙ append-nil (parked_of old.purse (take i blocks))

  module _ (new : SeatingView) where
    others_now : ((q : ℕ) → q ≢ block → find nat_cmp q new.blocks ≡ find nat_cmp q seats.blocks) → (q : ℕ) → All (λ b. q ≢ b) (take (i + 1) blocks) → find nat_cmp q new.blocks ≡ find nat_cmp q old.blocks
    others_now same q apart = let parts = All-take q i blocks inside apart in same q parts.0 ∙ p.others q parts.1

    places_now : ((q : ℕ) → q ≢ block → place_of new.purse q ≡ place_of seats.purse q) → (q : ℕ) → All (λ b. q ≢ b) (take (i + 1) blocks) → place_of new.purse q ≡ place_of old.purse q
    places_now same q apart = let parts = All-take q i blocks inside apart in same q parts.0 ∙ p.places q parts.1

    pub loading-more : IsLoaded block seats new → KeepsLengths seats new → Loading old blocks new (i + 1)
    loading-more loaded lengths_kept = by (place_of seats.purse block) refl
      where
        by : (o : Option (ℕ × ℕ)) → place_of seats.purse block ≡ o → Loading old blocks new (i + 1)
        by None none =
            let came = loaded.came none in
            let comes = came.2 in
            let room = p.room in
            let left = comes.left in
            let spare = comes.spare in
            let rest : length (parked_of old.purse (drop i blocks)) ≡ suc (length (parked_of old.purse (drop (i + 1) blocks))) = ap length (rest_now false (ap is_some none)) in
            record {
              comes = subst (λ l. ComeIn l old new) (sym (parked_now false (ap is_some none))) (come-append (parked_of old.purse (take i blocks)) (block ∷ []) old seats new p.comes (come_one block came.0 seats new comes));
              places = places_now (λ q apart. comes.places q ∙ ap (λ (t : Bool). cond t (next_place seats.purse) (place_of seats.purse q)) (eq_false q block apart));
              lengths = lengths_then old seats new p.lengths lengths_kept;
              others = others_now (λ q apart. ap (find nat_cmp q) comes.blocks ∙ put_other seats.blocks block (InSlice came.0 true) q apart);
              room = omega arith;
            }
        by (Some place) some =
            let same : new ≡ seats = loaded.stays (ap is_some some) in
            let room = p.room in
            let rest : length (parked_of old.purse (drop i blocks)) ≡ length (parked_of old.purse (drop (i + 1) blocks)) = ap length (rest_now true (ap is_some some)) in
            record {
              comes = subst (λ l. ComeIn l old new) (sym (loading_seated place some)) (subst (λ s. ComeIn (parked_of old.purse (take i blocks)) old s) (sym same) p.comes);
              places = places_now (λ q apart. ap (λ (s : SeatingView). place_of s.purse q) same);
              lengths = lengths_then old seats new p.lengths lengths_kept;
              others = others_now (λ q apart. ap (λ (s : SeatingView). find nat_cmp q s.blocks) same);
              room = subst (λ s. length (parked_of old.purse (drop (i + 1) blocks)) ≤ room_of s) (sym same) (omega arith);
            }

    -- and one stayed parked, which the store didn't give
    pub loading-stopped : new ≡ seats → (n : ℕ) × ComeIn (take n (parked_of old.purse blocks)) old new
    loading-stopped same = (
      length (parked_of old.purse (take i blocks)),
      subst (λ l. ComeIn l old new) (sym (filter-front (λ b. not (has_block old.purse b)) i blocks)) (subst (λ s. ComeIn (parked_of old.purse (take i blocks)) old s) (sym same) p.comes),
    )

pub seated_or : (seats : SeatingView) (block : ℕ) → (place_of seats.purse block ≡ None → 1 ≤ room_of seats) → IsSeated seats block ⊎ (1 ≤ room_of seats)
seated_or seats block room = by (place_of seats.purse block) refl
  where
    by : (o : Option (ℕ × ℕ)) → place_of seats.purse block ≡ o → IsSeated seats block ⊎ (1 ≤ room_of seats)
    by None none = inr (room none)
    by (Some place) here = inl (ap is_some here)

-- where no parked block can come in, none of those so far was parked
pub still_seated : (old : SeatingView) (blocks : List ℕ) (distinct : AllPairs ◌≢◌ blocks) (seats : SeatingView) (i : ℕ) (p : Loading old blocks seats i) (inside : i < length blocks)
    → (place_of seats.purse (get_or blocks i 0) ≡ None → ⊥) → length (parked_of old.purse (take i blocks)) ≡ 0 → length (parked_of old.purse (take (i + 1) blocks)) ≡ 0
still_seated old blocks distinct seats i p inside never before = by (place_of seats.purse (get_or blocks i 0)) refl
  where
    by : (o : Option (ℕ × ℕ)) → place_of seats.purse (get_or blocks i 0) ≡ o → length (parked_of old.purse (take (i + 1) blocks)) ≡ 0
    by None none = absurd (never none)
    by (Some place) here = ap length (loading_seated old blocks distinct seats i p inside place here) ∙ before
