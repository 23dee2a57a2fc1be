-- Why a call on a queue ends, from what a call on one of its blocks answers.
use Rattle.std.proofs.Common.{◌≡◌, ℕ, ◌<◌, List, [], ◌∷◌, length, get_or, Ok, Err, Result, sym, ap, ◌∙◌, arith}
use Rattle.far_io.specs.Faults.{Faults}
use Rattle.block_seats.specs.Purses.{place_of}
use Rattle.block_seats.specs.Seatings.{SeatingView}
use Rattle.block_home.specs.Stored.{FaultRose, Causes}
use Rattle.block_home.specs.Calls.{stamp_at}
use Rattle.block_home.specs.declared.end.HomeEnd.{HomeEnd}
use Rattle.block_home.specs.declared.end.HomeEnd.TheVariants.{Exhausted, StoreFault, Damaged, NoMemory}
use Rattle.block_list.specs.Ends.{NamesBlock}

-- one of the queue's blocks
pub names_in : {T : Type 0} (seats : SeatingView) (blocks : List ℕ) (index block : ℕ) (result : Result T HomeEnd) → index < length blocks → get_or blocks index 0 ≡ block
    → NamesBlock seats (block ∷ []) result → NamesBlock seats blocks result
names_in seats blocks index block (Ok x) inside is names = tt
names_in seats blocks index block (Err (Exhausted need used granted)) inside is names = tt
names_in seats blocks index block (Err StoreFault) inside is names = tt
names_in seats blocks index block (Err NoMemory) inside is names = tt
names_in seats blocks index block (Err (Damaged kept found)) inside is names =
    let one = names.0 in
    let within = one.within in
    let first : one.index ≡ 0 = omega arith in
    let here : get_or (block ∷ []) one.index 0 ≡ get_or blocks index 0 = ap (λ i. get_or (block ∷ []) i 0) first ∙ sym is in (
      record {
        index = index;
        within = inside;
        away = ap (place_of seats.purse) (sym here) ∙ one.away;
        stamp_is = ap (stamp_at seats.blocks) (sym here) ∙ one.stamp_is;
      },
      names.1,
    )

-- an error is the same whatever is answered else

pub names_again : (T U : Type 0) (seats : SeatingView) (blocks : List ℕ) (end : HomeEnd) → NamesBlock {T = T} seats blocks (Err end) → NamesBlock {T = U} seats blocks (Err end)
names_again T U seats blocks (Exhausted need used granted) names = tt
names_again T U seats blocks StoreFault names = tt
names_again T U seats blocks (Damaged kept found) names = names
names_again T U seats blocks NoMemory names = tt

rose_again : (T U : Type 0) (before now : Faults) (end : HomeEnd) → FaultRose {T = T} before now (Err end) → FaultRose {T = U} before now (Err end)
rose_again T U before now (Exhausted need used granted) rose = tt
rose_again T U before now StoreFault rose = rose
rose_again T U before now (Damaged kept found) rose = tt
rose_again T U before now NoMemory rose = tt

pub causes_again : (T U : Type 0) (before now : Faults) (end : HomeEnd) → Causes {T = T} before now (Err end) → Causes {T = U} before now (Err end)
causes_again T U before now end causes = record { follows = causes.follows; rose = rose_again T U before now end causes.rose }
