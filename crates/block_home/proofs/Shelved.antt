-- What one call on a home does to the maps that it holds, from what its store did.
use Rattle.std.proofs.Common.{◌≡◌, ◌≢◌, ℕ, ◌+◌, ◌==◌, ◌≤◌, ◌||◌, ◌⊎◌, inl, inr, Bool, true, false, List, [], ◌∷◌, length, take, drop, is_some, IsTrue, Some, None, Option, Result, Ok, Err, refl, sym, ap, subst, ◌∙◌, arith}
use Rattle.std.specs.Option.{unwrap_or, option_map, option_and_then}
use Rattle.std.proofs.lemmas.Bool.{cases_eq}
use Rattle.std.proofs.lemmas.Bool.Decides.{nat_tests}
use Rattle.std.specs.Ordering.{nat_cmp}
use Rattle.std.specs.FinMap.{find, put}
use Rattle.far_words.specs.declared.stamp.Stamp.{Stamp}
use Rattle.block_image.specs.Images.{stamp_for}
use Rattle.shelf_link.specs.Told.{Told, tells, is_sure, IsSameKind, KeepsOthers}
use Rattle.shelf_link.specs.Blocks as map
use Rattle.slice_seq.specs.Purses.{Held, Purse, open_slices}
use Rattle.block_seats.specs.Blocks.{Blocks, BlockView, InSlice, InStore, block_at, bytes_of, length_of, stamp_of}
use Rattle.block_seats.specs.Purses.{lowest, next_place}
use Rattle.block_seats.specs.Seatings.{SeatingView, length_at}
use Rattle.block_home.specs.Stored.{IsStored, IsRead, NamesStamp, content_in, Fetches}
use Rattle.block_home.specs.Holding.{IsAway, IsHeld, Holds}
use Rattle.block_home.specs.Calls.{stamp_at, Carries, IsUndamaged, IsSound, IsPart, KeepsLengths}
use Rattle.block_home.specs.declared.end.HomeEnd.{HomeEnd}
use Rattle.block_home.specs.declared.end.HomeEnd.TheVariants.{Exhausted, StoreFault, Damaged, NoMemory}
use Rattle.block_home.proofs.Held.{put_here, put_other, kind_same, others_same, held_put}

false_true : {A : Type 0} → false ≡ true → A
false_true e = cc

sure_cases : (a b : Bool) → IsTrue (a || b) → IsTrue a ⊎ IsTrue b
sure_cases true b e = inl refl
sure_cases false b e = inr e

-- a parked block, and one in a slice, as they are held

away_of : (m : map.Blocks) (told : Told) (user block : ℕ) (stamp : Stamp) (o : Option BlockView) → option_and_then stamp_of o ≡ Some stamp → IsHeld m told user block o → IsAway m told user block stamp
away_of m told user block stamp None e held = cc
away_of m told user block stamp (Some (InSlice bytes was)) e held = cc
away_of m told user block stamp (Some (InStore kept)) e held = subst (λ s. IsAway m told user block s) (ap (λ (o : Option Stamp). unwrap_or o kept) e) held

seated_of : (m : map.Blocks) (told : Told) (user block : ℕ) (o : Option BlockView) → is_some o ≡ true → option_and_then stamp_of o ≡ None → IsHeld m told user block o
    → map.block_at m block ≡ Some (bytes_of (unwrap_or o (InSlice [] false)))
seated_of m told user block None some e held = cc
seated_of m told user block (Some (InSlice bytes was)) some e held = held
seated_of m told user block (Some (InStore kept)) some e held = cc

pub away_held : (m : map.Blocks) (told : Told) (user block : ℕ) (old : Blocks) (stamp : Stamp) → stamp_at old block ≡ Some stamp → Holds m told user old → IsAway m told user block stamp
away_held m told user block old stamp e holds = away_of m told user block stamp (find nat_cmp block old) e (holds.each block)

pub seated_held : (m : map.Blocks) (told : Told) (user block : ℕ) (old : Blocks) → is_some (find nat_cmp block old) ≡ true → stamp_at old block ≡ None → Holds m told user old
    → map.block_at m block ≡ Some (bytes_of (block_at old block))
seated_held m told user block old some e holds = seated_of m told user block (find nat_cmp block old) some e (holds.each block)

-- what is fetched is what the map has
pub fetched_held : (m : map.Blocks) (told : Told) (user block : ℕ) (stamp : Stamp) (image : List ℕ) → IsTrue (is_sure told) → IsAway m told user block stamp
    → Fetches told block stamp image (Ok tt) → map.block_at m block ≡ Some (content_in stamp.length image)
fetched_held m told user block stamp image sure away got = elim (sure_cases (tells told) told.void sure) [
  | inl t ↦ away.there ∙ ap Some (sym (got.stored away.bytes t (away.stored t)))
  | inr v ↦ false_true (got.void v)
]

read_undamaged : (bytes content : List ℕ) (result : Result (Unit {0}) HomeEnd) → IsRead bytes content result → IsUndamaged result
read_undamaged bytes content (Ok done) is = tt
read_undamaged bytes content (Err (Exhausted need used granted)) is = tt
read_undamaged bytes content (Err StoreFault) is = tt
read_undamaged bytes content (Err (Damaged kept found)) is = is
read_undamaged bytes content (Err NoMemory) is = tt

some_none : {X A : Type 0} (o : Option X) (x : X) → o ≡ Some x → o ≡ None → A
some_none o x some none = let clash = sym some ∙ none in cc

-- what a call answers that fetches a parked block
pub sound_fetch : (told : Told) (user block : ℕ) (old : Blocks) (stamp : Stamp) (image : List ℕ) (result : Result (Unit {0}) HomeEnd) → stamp_at old block ≡ Some stamp
    → Fetches told block stamp image result → IsSound user block told old result
sound_fetch told user block old stamp image result at got = record {
  telling = λ t m holds.
      let away = away_held m told user block old stamp at holds in
      read_undamaged away.bytes (content_in stamp.length image) result (got.stored away.bytes t (away.stored t));
  void = λ v s e. got.void v;
  names = λ s e. subst (λ x. NamesStamp x result) (ap (λ (o : Option Stamp). unwrap_or o stamp) (sym at ∙ e)) got.names;
  seated = λ none. some_none (stamp_at old block) stamp at none;
}

-- and of one that is in a slice
pub sound_here : (told : Told) (user block : ℕ) (old : Blocks) → stamp_at old block ≡ None → IsSound user block told old (Ok tt)
sound_here told user block old none = record {
  telling = λ t m holds. tt;
  void = λ v s e. some_none (stamp_at old block) s e none;
  names = λ s e. tt;
  seated = λ n. refl;
}

-- parts of a block

pub part_fetched : (told : Told) (user block from : ℕ) (old : Blocks) (stamp : Stamp) (image part : List ℕ) → stamp_at old block ≡ Some stamp → Fetches told block stamp image (Ok tt)
    → part ≡ take (length part) (drop from (content_in stamp.length image)) → IsPart user block from part told old
part_fetched told user block from old stamp image part at got is = λ m holds.
    (content_in stamp.length image, fetched_held m told user block stamp image holds.sure (away_held m told user block old stamp at holds) got, is)

pub part_here : (told : Told) (user block from : ℕ) (old : Blocks) (part : List ℕ) → is_some (find nat_cmp block old) ≡ true → stamp_at old block ≡ None
    → part ≡ take (length part) (drop from (bytes_of (block_at old block))) → IsPart user block from part told old
part_here told user block from old part some none is = λ m holds. (bytes_of (block_at old block), seated_held m told user block old some none holds, is)

-- a block comes back
pub carries_load : (before now : Told) (user block : ℕ) (old : Blocks) (stamp : Stamp) (image : List ℕ) → now ≡ before → stamp_at old block ≡ Some stamp → Fetches before block stamp image (Ok tt)
    → Carries user before old now (put nat_cmp block (InSlice (content_in stamp.length image) true) old)
carries_load before now user block old stamp image same at got = λ m holds.
    held_put m before now user old block (InSlice (content_in stamp.length image) true) (kind_same before now same) (others_same before now block same)
    (fetched_held m before user block stamp image holds.sure (away_held m before user block old stamp at holds) got) holds

pub carries_told : (before now : Told) (user : ℕ) (old : Blocks) → now ≡ before → Carries user before old now old
carries_told before now user old same = λ m holds. subst (λ t. Holds m t user old) (sym same) holds

-- a block goes, or stays after a put that failed
pub carries_park : (before now : Told) (user block : ℕ) (old : Blocks) → is_some (find nat_cmp block old) ≡ true → stamp_at old block ≡ None
    → (IsTrue (tells now) → IsStored now block (stamp_for user block (bytes_of (block_at old block))) (bytes_of (block_at old block))) → IsSameKind before now → KeepsOthers before now block
    → Carries user before old now (put nat_cmp block (InStore (stamp_for user block (bytes_of (block_at old block)))) old)
carries_park before now user block old some none stored kind others = λ m holds.
    held_put m before now user old block (InStore (stamp_for user block (bytes_of (block_at old block)))) kind others
    (record { bytes = bytes_of (block_at old block); there = seated_held m before user block old some none holds; stamped = refl; stored = stored }) holds

pub carries_kept : (before now : Told) (user block : ℕ) (old : Blocks) → is_some (find nat_cmp block old) ≡ true → stamp_at old block ≡ None → IsSameKind before now → KeepsOthers before now block
    → Carries user before old now (put nat_cmp block (InSlice (bytes_of (block_at old block)) true) old)
carries_kept before now user block old some none kind others = λ m holds.
    held_put m before now user old block (InSlice (bytes_of (block_at old block)) true) kind others (seated_held m before user block old some none holds) holds

-- a block stays as long as it was

pub length_seated : (o : Option BlockView) → is_some o ≡ true → option_and_then stamp_of o ≡ None → length (bytes_of (unwrap_or o (InSlice [] false))) ≡ length_of (unwrap_or o (InSlice [] false))
length_seated None some none = cc
length_seated (Some (InSlice bytes was)) some none = refl
length_seated (Some (InStore stamp)) some none = cc

pub length_stamped : (o : Option BlockView) (stamp : Stamp) → option_and_then stamp_of o ≡ Some stamp → stamp.length ≡ length_of (unwrap_or o (InSlice [] false))
length_stamped None stamp e = cc
length_stamped (Some (InSlice bytes was)) stamp e = cc
length_stamped (Some (InStore kept)) stamp e = ap (λ (o : Option Stamp). length_of (InStore (unwrap_or o kept))) (sym e)

pub stamped_there : (o : Option BlockView) (stamp : Stamp) → option_and_then stamp_of o ≡ Some stamp → is_some o ≡ true
stamped_there None stamp e = cc
stamped_there (Some view) stamp e = refl

pub itself : (n : ℕ) → (n == n) ≡ true
itself n = grind (arith, nat_tests)

pub keeps_put : (old new : SeatingView) (block : ℕ) (view : BlockView) → new.blocks ≡ put nat_cmp block view old.blocks → is_some (find nat_cmp block old.blocks) ≡ true → length_of view ≡ length_at old block → KeepsLengths old new
keeps_put old new block view is there long = record {
  there = λ q. elim (cases_eq q block) [
    | inl same ↦ subst (λ p. is_some (find nat_cmp p new.blocks) ≡ is_some (find nat_cmp p old.blocks)) (sym same) (ap is_some here ∙ sym there)
    | inr apart ↦ ap is_some (other q apart)
  ];
  lengths = λ q. elim (cases_eq q block) [
    | inl same ↦ subst (λ p. length_at new p ≡ length_at old p) (sym same) (ap (λ (o : Option BlockView). length_of (unwrap_or o (InSlice [] false))) here ∙ long)
    | inr apart ↦ ap (λ (o : Option BlockView). length_of (unwrap_or o (InSlice [] false))) (other q apart)
  ];
}
  where
    here : find nat_cmp block new.blocks ≡ Some view
    here = ap (find nat_cmp block) is ∙ put_here old.blocks block view

    other : (q : ℕ) → q ≢ block → find nat_cmp q new.blocks ≡ find nat_cmp q old.blocks
    other q apart = ap (find nat_cmp q) is ∙ put_other old.blocks block view q apart

-- where a slice is open, there is a next place
pub next_there : (purse : Purse) → 1 ≤ length (open_slices purse) → is_some (next_place purse) ≡ true
next_there purse some = by (open_slices purse) some
  where
    by : (open_ones : Purse) → 1 ≤ length open_ones → is_some {T = ℕ × ℕ} (option_map (λ (e : ℕ × Held). (e.0, e.1.number + 1)) (lowest open_ones)) ≡ true
    by [] none = absurd (omega arith)
    by (e ∷ es) one = refl
