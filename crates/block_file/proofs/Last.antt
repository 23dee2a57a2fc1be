-- The last block of a file, and whether an append needs it.
use Rattle.std.proofs.Common.{◌≡◌, ◌≢◌, ℕ, ◌+◌, ◌-◌, ◌%◌, ◌==◌, ◌<◌, ◌≤◌, ◌&&◌, nat_lt, Bool, true, false, not, cond, is_some, List, [], ◌∷◌, length, get_or, Some, None, Option, refl, sym, ap, ◌∙◌, subst, arith, OnOk, OnErr, Result, Ok, Err, IsTrue}
use Rattle.std.specs.Option.{option_map_or}
use Rattle.std.specs.Ordering.{nat_cmp}
use Rattle.std.specs.FinMap.{find}
use Rattle.std.proofs.lemmas.Bool.{eqb-false}
use Rattle.std.proofs.lemmas.Bool.Decides.{nat_tests}
use Rattle.std.proofs.lemmas.Option.{slice_get-get_or}
use Rattle.slice_seq.specs.Purses.{has_block}
use Rattle.slice_seq.specs.Needs.{is_last_parked}
use Rattle.block_seats.specs.Blocks.{InSlice}
use Rattle.block_seats.specs.Purses.{place_of}
use Rattle.block_seats.specs.Seatings.{SeatingView}
use Rattle.block_seats.proofs.Purses.{has_block-place}
use Rattle.block_home.specs.Homes.{room_of}
use Rattle.block_home.specs.Calls.{IsLoaded}
use Rattle.block_home.specs.declared.end.HomeEnd.{HomeEnd}
use Rattle.block_home.proofs.Held.{put_other}
use Rattle.block_file.specs.Files.{file_in, IsSound, needs_last, needed_last}
use Rattle.block_list.specs.Growth.{ComeIn}
use Rattle.block_list.specs.Lists.{KeepsOthers}
use Rattle.block_list.proofs.Coming.{come_one}
use Rattle.block_list.proofs.Listed.{eq_true, eq_false}
use Rattle.block_list.proofs.Growing.{come-none}
use Rattle.block_file.proofs.Holding.{length_in, long_piece, of_lengths, last_inside}

less_true : (a b : ℕ) → a < b → nat_lt a b ≡ true
less_true a b less = grind (arith, nat_tests)

never : (a b : Bool) → ((a && false) && b) ≡ false
never true b = refl
never false b = refl

-- no byte comes, or the last block is full
pub unneeded_none : (seats : SeatingView) (used : ℕ) (blocks : List ℕ) (more : ℕ) → more ≡ 0 → needs_last seats (file_in used blocks) more ≡ false
unneeded_none seats used blocks more none = subst (λ n. needs_last seats (file_in used blocks) n ≡ false) (sym none) refl

pub unneeded_full : (seats : SeatingView) (used : ℕ) (blocks : List ℕ) (more : ℕ) → used % seats.size ≡ 0 → needs_last seats (file_in used blocks) more ≡ false
unneeded_full seats used blocks more whole =
    ap (λ b. (nat_lt 0 more && not b) && is_last_parked seats.purse blocks) (eq_true (used % seats.size) 0 whole)
    ∙ never (nat_lt 0 more) (is_last_parked seats.purse blocks)

module _ (seats : SeatingView) (used : ℕ) (blocks : List ℕ) (more : ℕ) (sound : IsSound seats (file_in used blocks)) (pos : 0 < seats.size) (some : 0 < more) (over : used % seats.size ≢ 0) where
  abbrev last : ℕ
  last = get_or blocks (length blocks - 1) 0

  pub inside : length blocks - 1 < length blocks
  inside = last_inside seats.size (length_in seats.blocks) blocks used (long_piece seats.size used) (of_lengths seats (file_in used blocks) sound) pos over

  -- then it is needed where it is parked
  pub needed_is : needs_last seats (file_in used blocks) more ≡ not (is_some (place_of seats.purse last))
  needed_is =
      let parked : is_last_parked seats.purse blocks ≡ not (is_some (place_of seats.purse last)) =
      ap (λ (o : Option ℕ). not (option_map_or (has_block seats.purse) o false)) (slice_get-get_or blocks (length blocks - 1) 0 inside) ∙ ap not (has_block-place seats.purse last) in
      λ i. (less_true 0 more some i && not (eq_false (used % seats.size) 0 over i)) && parked i

  pub needed_away : IsTrue (needs_last seats (file_in used blocks) more) → place_of seats.purse last ≡ None
  needed_away needed = by (place_of seats.purse last) (sym needed_is ∙ needed)
    where
      by : (o : Option (ℕ × ℕ)) → not (is_some o) ≡ true → o ≡ None
      by None e = refl
      by (Some place) e = cc

  pub away_needed : place_of seats.purse last ≡ None → IsTrue (needs_last seats (file_in used blocks) more)
  away_needed none = needed_is ∙ ap (λ (o : Option (ℕ × ℕ)). not (is_some o)) none

  -- it is in a slice, or there is room for it
  pub room_last : length (needed_last seats (file_in used blocks) more) ≤ room_of seats → (place_of seats.purse last ≡ None) → 1 ≤ room_of seats
  room_last room none = subst (λ b. length (cond b (last ∷ []) []) ≤ room_of seats) (away_needed none) room

  module _ (new : SeatingView) where
    pub last_came : IsLoaded last seats new → ComeIn (needed_last seats (file_in used blocks) more) seats new
    last_came loaded = subst (λ b. ComeIn (cond b (last ∷ []) []) seats new) (sym needed_is) (by (place_of seats.purse last) refl)
      where
        by : (o : Option (ℕ × ℕ)) → place_of seats.purse last ≡ o → ComeIn (cond (not (is_some o)) (last ∷ []) []) seats new
        by None none = let came = loaded.came none in come_one last came.0 seats new came.2
        by (Some place) here = come-none seats new (loaded.stays (ap is_some here))

    pub last_left : IsLoaded last seats new → room_of seats ≤ room_of new + length (needed_last seats (file_in used blocks) more)
    last_left loaded = subst (λ b. room_of seats ≤ room_of new + length (cond b (last ∷ []) [])) (sym needed_is) (by (place_of seats.purse last) refl)
      where
        by : (o : Option (ℕ × ℕ)) → place_of seats.purse last ≡ o → room_of seats ≤ room_of new + length (cond (not (is_some o)) (last ∷ []) [])
        by None none = let came = loaded.came none in let left = came.2.left in let spare = came.2.spare in omega arith
        by (Some place) here = let same : new ≡ seats = loaded.stays (ap is_some here) in let room : room_of new ≡ room_of seats = ap room_of same in omega arith

    pub last_others : (result : Result (Unit {0}) HomeEnd) → OnOk result (IsLoaded last seats new) → OnErr result (new ≡ seats) → KeepsOthers seats.blocks new.blocks blocks
    last_others result loaded same = record { others = λ q apart. by result loaded same q (apart (length blocks - 1) 0 inside) }
      where
        came_other : IsLoaded last seats new → (q : ℕ) → q ≢ last → (o : Option (ℕ × ℕ)) → place_of seats.purse last ≡ o → find nat_cmp q new.blocks ≡ find nat_cmp q seats.blocks
        came_other loaded q apart None none = let came = loaded.came none in ap (find nat_cmp q) came.2.blocks ∙ put_other seats.blocks last (InSlice came.0 true) q apart
        came_other loaded q apart (Some place) here = ap (λ (s : SeatingView). find nat_cmp q s.blocks) (loaded.stays (ap is_some here))

        by : (result : Result (Unit {0}) HomeEnd) → OnOk result (IsLoaded last seats new) → OnErr result (new ≡ seats) → (q : ℕ) → q ≢ last → find nat_cmp q new.blocks ≡ find nat_cmp q seats.blocks
        by (Ok done) loaded same q apart = came_other loaded q apart (place_of seats.purse last) refl
        by (Err end) loaded same q apart = ap (λ (s : SeatingView). find nat_cmp q s.blocks) same

pub some_of : (n : ℕ) → (n == 0) ≡ false → 0 < n
some_of n e = let apart = eqb-false n 0 e in omega arith
