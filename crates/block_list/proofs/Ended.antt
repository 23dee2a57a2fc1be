-- Why a call on a list of blocks ends, from what a call on one of its blocks answers.
use Rattle.std.proofs.Common.{◌≡◌, ℕ, ◌<◌, List, [], ◌∷◌, length, get_or, arith, Ok, Err, Some, None, Option, Result, refl, sym, ap, ◌∙◌, subst}
use Rattle.std.specs.Prelude.{OnOk, OnErr}
use Rattle.std.specs.Option.{option_and_then}
use Rattle.std.specs.Ordering.{nat_cmp}
use Rattle.std.specs.FinMap.{find}
use Rattle.far_io.specs.Faults.{Faults, Follows}
use Rattle.far_io.proofs.Faults.{follows_on, rose_before}
use Rattle.far_words.specs.declared.stamp.Stamp.{Stamp}
use Rattle.shelf_link.specs.Told.{Told}
use Rattle.block_seats.specs.Blocks.{BlockView, stamp_of}
use Rattle.block_seats.specs.Purses.{place_of}
use Rattle.block_seats.specs.Seatings.{SeatingView}
use Rattle.block_home.specs.Stored.{FaultRose, Causes}
use Rattle.block_home.specs.Calls.{stamp_at, IsUndamaged, IsSound}
use Rattle.block_home.specs.declared.end.HomeEnd.{HomeEnd}
use Rattle.block_home.specs.declared.end.HomeEnd.TheVariants.{Exhausted, StoreFault, Damaged, NoMemory}
use Rattle.block_list.specs.Ends.{NamesBlock}

-- an error is the same whatever is answered else
pub undamaged_again : (T U : Type 0) (end : HomeEnd) → IsUndamaged {T = T} (Err end) → IsUndamaged {T = U} (Err end)
undamaged_again T U (Exhausted need used granted) is = tt
undamaged_again T U StoreFault is = tt
undamaged_again T U (Damaged kept found) is = is
undamaged_again T U NoMemory is = tt

rose_later : {T : Type 0} (a b c : Faults) (result : Result T HomeEnd) → Follows a b → FaultRose b c result → FaultRose a c result
rose_later a b c (Ok x) follows rose = tt
rose_later a b c (Err (Exhausted need used granted)) follows rose = tt
rose_later a b c (Err StoreFault) follows rose = rose_before a b c follows rose
rose_later a b c (Err (Damaged kept found)) follows rose = tt
rose_later a b c (Err NoMemory) follows rose = tt

-- a cause of the last of several calls
pub causes_later : {T : Type 0} (a b c : Faults) (result : Result T HomeEnd) → Follows a b → Causes b c result → Causes a c result
causes_later a b c result follows causes = record { follows = follows_on a b c follows causes.follows; rose = rose_later a b c result follows causes.rose }

-- a Damaged of a parked block of the list
pub names_one : (told : Told) (user : ℕ) (seats : SeatingView) (blocks : List ℕ) (index : ℕ) (result : Result (Unit {0}) HomeEnd) → index < length blocks → IsSound user (get_or blocks index 0) told seats.blocks result
    → OnErr result (place_of seats.purse (get_or blocks index 0) ≡ None) → NamesBlock seats blocks result
names_one told user seats blocks index (Ok done) inside sound away = tt
names_one told user seats blocks index (Err (Exhausted need used granted)) inside sound away = tt
names_one told user seats blocks index (Err StoreFault) inside sound away = tt
names_one told user seats blocks index (Err NoMemory) inside sound away = tt
names_one told user seats blocks index (Err (Damaged kept found)) inside sound away = by (stamp_at seats.blocks (get_or blocks index 0)) refl
  where
    by : (o : Option Stamp) → stamp_at seats.blocks (get_or blocks index 0) ≡ o → NamesBlock {T = Unit {0}} seats blocks (Err (Damaged kept found))
    by None none = let clash = sound.seated none in cc
    by (Some stamp) some =
        let names = sound.names stamp some in (
          record { index = index; within = inside; away = away; stamp_is = some ∙ ap (λ (s : Stamp). Some s) (sym names.0) },
          names.1,
        )

-- one of the list's blocks that is as it was at first
pub names_first : (old seats : SeatingView) (blocks : List ℕ) (index : ℕ) (result : Result (Unit {0}) HomeEnd) → index < length blocks → place_of seats.purse (get_or blocks index 0) ≡ place_of old.purse (get_or blocks index 0)
    → find nat_cmp (get_or blocks index 0) seats.blocks ≡ find nat_cmp (get_or blocks index 0) old.blocks → NamesBlock seats (get_or blocks index 0 ∷ []) result → NamesBlock old blocks result
names_first old seats blocks index (Ok done) inside place_is find_is names = tt
names_first old seats blocks index (Err (Exhausted need used granted)) inside place_is find_is names = tt
names_first old seats blocks index (Err StoreFault) inside place_is find_is names = tt
names_first old seats blocks index (Err NoMemory) inside place_is find_is names = tt
names_first old seats blocks index (Err (Damaged kept found)) inside place_is find_is names =
    let one = names.0 in
    let within = one.within in
    let first : one.index ≡ 0 = omega arith in
    let is : get_or (get_or blocks index 0 ∷ []) one.index 0 ≡ get_or blocks index 0 = ap (λ i. get_or (get_or blocks index 0 ∷ []) i 0) first in (
      record {
        index = index;
        within = inside;
        away = sym place_is ∙ ap (place_of seats.purse) (sym is) ∙ one.away;
        stamp_is = ap (λ (o : Option BlockView). option_and_then stamp_of o) (sym find_is) ∙ ap (stamp_at seats.blocks) (sym is) ∙ one.stamp_is;
      },
      names.1,
    )

pub ok_map : {P Q : Type 0} (result : Result (Unit {0}) HomeEnd) → (P → Q) → OnOk result P → OnOk result Q
ok_map (Ok done) f p = f p
ok_map (Err end) f p = tt

pub err_map : {P Q : Type 0} (result : Result (Unit {0}) HomeEnd) → (P → Q) → OnErr result P → OnErr result Q
err_map (Ok done) f p = tt
err_map (Err end) f p = f p

pub on_err : {T E P : Type 0} (result : Result T E) (end : E) → result ≡ Err end → P → OnErr result P
on_err {T} {E} {P} result end is p = subst (λ (r : Result T E). OnErr r P) (sym is) p
