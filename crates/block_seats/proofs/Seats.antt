-- What the tables say of its blocks and of its purse.
use Rattle.std.proofs.Common.{◌≡◌, ◌≢◌, ℕ, ◌+◌, ◌<◌, ◌==◌, nat_le, Bool, true, false, not, is_some, cond, List, [], ◌∷◌, length, filter, map, count_by, get_or, refl, ap, sym, ◌∙◌, arith, Some, None}
use Rattle.std.specs.declared.option.Option.{Option}
use Rattle.std.specs.Option.{option_map, option_and_then, unwrap_or}
use Rattle.std.specs.Ordering.{nat_cmp}
use Rattle.std.specs.FinMap.{find}
use Rattle.std.specs.List.{position}
use Rattle.std.proofs.Math.ListN.{get_or-map}
use Rattle.std.proofs.Math.Nat.{lt_of_not-le}
use Rattle.std.proofs.lemmas.Bool.{eqb-true, both_ways}
use Rattle.std.proofs.lemmas.Bool.Decides.{nat_tests}
use Rattle.std.proofs.lemmas.List.Quantifiers.{position-Some}
use Rattle.slice_seq.specs.declared.TheConstants.{WORN}
use Rattle.std.proofs.lemmas.List.{get_or_past}
use Rattle.std.proofs.lemmas.List.Sums.{length-filter}
use Rattle.std.proofs.lemmas.List.Filters.{length-filter_both}
use Rattle.block_seats.specs.declared.seat.Seat.{Seat}
use Rattle.block_seats.specs.declared.seat.Seat.TheVariants.{Empty, Idle, Busy, Stray}
use Rattle.block_seats.specs.declared.cell.Cell.{Cell}
use Rattle.block_seats.specs.declared.cell.Cell.TheVariants.{Vacant, Resident, Parked}
use Rattle.block_seats.specs.Blocks.{Blocks, BlockView, InSlice, seen, block_at}
use Rattle.slice_seq.specs.Purses.{Held, Purse, is_used, used, open_slices, holds}
use Rattle.slice_seq.specs.Slice.{SliceView}
use Rattle.slice_seq.specs.Idle.{is_idle, idle_slices, seated_slices}
use Rattle.block_seats.specs.Purses.{next_place, next_idle, first_block, place_of, block_in}
use Rattle.block_seats.specs.Seats.{held_in, block_of, slice_of, view_in, is_open, is_empty, is_busy, is_stray, keeps_slice, purse_of, blocks_of, strays_of, slice_in, used_in, put_in, is_vacant}
use Rattle.block_seats.specs.Well.{AreTables}
use Rattle.id_set.proofs.Tables.{find-entries, length-entries, count_by-cons, count_by-map}
use Rattle.block_seats.proofs.Purses.{passes, open_at, holds_at, lowest_passing, length-passing, lowest_none, length-open, lowest-open, place-entries, no_place-entries}

-- counts

three_parts : (seats : List Seat) → count_by (λ seat. is_some (held_in seat)) seats + count_by is_stray seats + count_by is_empty seats ≡ length seats
three_parts [] = refl
three_parts (seat ∷ seats) =
    let rest : count_by (λ seat. is_some (held_in seat)) seats + count_by is_stray seats + count_by is_empty seats ≡ length seats = three_parts seats in
    let a : count_by (λ seat. is_some (held_in seat)) (seat ∷ seats) ≡ cond (is_some (held_in seat)) 1 0 + count_by (λ seat. is_some (held_in seat)) seats = count_by-cons (λ seat. is_some (held_in seat)) seat seats in
    let b : count_by is_stray (seat ∷ seats) ≡ cond (is_stray seat) 1 0 + count_by is_stray seats = count_by-cons is_stray seat seats in
    let d : count_by is_empty (seat ∷ seats) ≡ cond (is_empty seat) 1 0 + count_by is_empty seats = count_by-cons is_empty seat seats in
    let one : cond (is_some (held_in seat)) 1 0 + cond (is_stray seat) 1 0 + cond (is_empty seat) 1 0 ≡ 1 = one_of seat in
    omega arith
  where
    one_of : (seat : Seat) → cond (is_some (held_in seat)) 1 0 + cond (is_stray seat) 1 0 + cond (is_empty seat) 1 0 ≡ 1
    one_of Empty = refl
    one_of (Idle slice) = refl
    one_of (Busy block number) = refl
    one_of (Stray slice) = refl

-- the held slices and the empty seats are all seats
pub length-purse : (seats : List Seat) → length (purse_of seats) + strays_of seats + count_by (λ (b : Bool). b) (map is_empty seats) ≡ length seats
length-purse seats =
    let a : length (purse_of seats) ≡ count_by (λ seat. is_some (held_in seat)) seats = length-entries 0 (map held_in seats) ∙ count_by-map (λ (o : Option Held). is_some o) held_in seats in
    let b : count_by (λ (b : Bool). b) (map is_empty seats) ≡ count_by is_empty seats = count_by-map (λ (b : Bool). b) is_empty seats in
    let d : count_by (λ seat. is_some (held_in seat)) seats + count_by is_stray seats + count_by is_empty seats ≡ length seats = three_parts seats in
    omega arith

pub open_is : (seat : Seat) → open_at (held_in seat) ≡ is_open seat
open_is Empty = refl
open_is (Idle slice) = refl
open_is (Busy block number) = refl
open_is (Stray slice) = refl

count_by-same : {X : Type 0} (p q : X → Bool) → ((x : X) → p x ≡ q x) → (xs : List X) → count_by p xs ≡ count_by q xs
count_by-same p q same [] = refl
count_by-same p q same (x ∷ xs) =
    count_by-cons p x xs ∙ ap (λ b. cond b 1 0 + count_by p xs) (same x) ∙ ap (λ n. cond (q x) 1 0 + n) (count_by-same p q same xs) ∙ sym (count_by-cons q x xs)

-- the open slices of the purse are the open seats
pub length-open_purse : (seats : List Seat) → length (open_slices (purse_of seats)) ≡ count_by (λ (b : Bool). b) (map is_open seats)
length-open_purse seats =
    length-open (map held_in seats) ∙ count_by-map open_at held_in seats ∙ count_by-same (λ seat. open_at (held_in seat)) is_open open_is seats ∙ sym (count_by-map (λ (b : Bool). b) is_open seats)

pub used_and_open : (purse : Purse) → length purse ≡ used purse + length (open_slices purse)
used_and_open purse =
    let q : ℕ × Held → Bool = λ e. is_used e.1 in
    let sum : length (filter (λ e. not (q e)) purse) + length (filter q purse) ≡ length purse = length-filter_both (λ e. not (q e)) q (λ e. twice (q e)) purse in
    let few : length (filter q purse) ≡ used purse = length-filter q purse in
    omega arith
  where
    twice : (b : Bool) → b ≡ not (not b)
    twice true = refl
    twice false = refl

-- blocks

pub find-blocks : (cells : List Cell) (block : ℕ) → find nat_cmp block (blocks_of cells) ≡ view_in (get_or cells block Vacant)
find-blocks cells block = find-entries block (map view_in cells) ∙ get_or-map view_in cells block Vacant

pub find-purse : (seats : List Seat) (id : ℕ) → find nat_cmp id (purse_of seats) ≡ held_in (get_or seats id Empty)
find-purse seats id = find-entries id (map held_in seats) ∙ get_or-map held_in seats id Empty

-- where a test passes that the default fails, the place is within the table
pub within_by : {X : Type 0} (p : X → Bool) (xs : List X) (i : ℕ) (d : X) → p d ≡ false → p (get_or xs i d) ≡ true → i < length xs
within_by p xs i d fails e = lt_of_not-le (λ past. both_ways (p d) fails (ap p (sym (get_or_past xs i d past)) ∙ e))

pub same_or_not : (a b : ℕ) (P : Type 0) → (a ≡ b → P) → (a ≢ b → P) → P
same_or_not a b P f g = by (a == b) refl
  where
    by : (t : Bool) → (a == b) ≡ t → P
    by true e = f (eqb-true a b e)
    by false e = g (λ s. let t : (a == b) ≡ true = grind (arith, nat_tests) in both_ways (a == b) e t)

-- a value by whether two numbers are the same
pub by_same : {X : Type 0} (a b : ℕ) (x y z : X) → (a ≡ b → z ≡ x) → (a ≢ b → z ≡ y) → z ≡ cond (a == b) x y
by_same a b x y z f g = by (a == b) refl
  where
    by : (t : Bool) → (a == b) ≡ t → z ≡ cond t x y
    by true e = f (eqb-true a b e)
    by false e = g (λ s. let t : (a == b) ≡ true = grind (arith, nat_tests) in both_ways (a == b) e t)

-- a block with a slice
pub cell_there : (cell : Cell) → is_some (slice_of cell) ≡ true → cell ≡ Resident (used_in cell) (put_in cell)
cell_there Vacant e = cc
cell_there (Resident used put) e = refl
cell_there (Parked stamp) e = cc

pub cell_within : (cells : List Cell) (block : ℕ) → is_some (slice_of (get_or cells block Vacant)) ≡ true → block < length cells
cell_within cells block e = within_by (λ cell. is_some (slice_of cell)) cells block Vacant refl e

pub vacant_view : (cell : Cell) → is_some (view_in cell) ≡ not (is_vacant cell)
vacant_view Vacant = refl
vacant_view (Resident used put) = refl
vacant_view (Parked stamp) = refl

-- the blocks and the vacant numbers are all numbers
pub length-blocks : (cells : List Cell) → length (blocks_of cells) + count_by is_vacant cells ≡ length cells
length-blocks cells =
    let blocks : length (blocks_of cells) ≡ count_by (λ cell. is_some (view_in cell)) cells
    = length-entries 0 (map view_in cells) ∙ count_by-map (λ (o : Option BlockView). is_some o) view_in cells in
    let sum : count_by (λ cell. is_some (view_in cell)) cells + count_by is_vacant cells ≡ length cells = two_parts cells in
    omega arith
  where
    one_of : (b : Bool) → cond (not b) 1 0 + cond b 1 0 ≡ 1
    one_of true = refl
    one_of false = refl

    two_parts : (cells : List Cell) → count_by (λ cell. is_some (view_in cell)) cells + count_by is_vacant cells ≡ length cells
    two_parts [] = refl
    two_parts (cell ∷ cells) =
        let rest : count_by (λ c. is_some (view_in c)) cells + count_by is_vacant cells ≡ length cells = two_parts cells in
        let a : count_by (λ c. is_some (view_in c)) (cell ∷ cells) ≡ cond (is_some (view_in cell)) 1 0 + count_by (λ c. is_some (view_in c)) cells = count_by-cons (λ c. is_some (view_in c)) cell cells in
        let b : count_by is_vacant (cell ∷ cells) ≡ cond (is_vacant cell) 1 0 + count_by is_vacant cells = count_by-cons is_vacant cell cells in
        let view : cond {A = ℕ} (is_some (view_in cell)) 1 0 ≡ cond {A = ℕ} (not (is_vacant cell)) 1 0 = ap (λ (t : Bool). cond {A = ℕ} t 1 0) (vacant_view cell) in
        let one : cond {A = ℕ} (not (is_vacant cell)) 1 0 + cond {A = ℕ} (is_vacant cell) 1 0 ≡ 1 = one_of (is_vacant cell) in
        omega (arith, rest, a, b, view, one)

-- places

seat_holds : (block : ℕ) (seat : Seat) → holds_at block (held_in seat) ≡ true → (number : ℕ) × (block_of seat ≡ Some (block, number))
seat_holds block Empty e = cc
seat_holds block (Idle slice) e = cc
seat_holds block (Busy other number) e = (number, ap (λ b. Some (b, number)) (eqb-true other block e))
seat_holds block (Stray slice) e = cc

pub seat_held : (block number : ℕ) (seat : Seat) → block_of seat ≡ Some (block, number) → held_in seat ≡ Some (record { number = number; block = Some block })
seat_held block number Empty e = cc
seat_held block number (Idle slice) e = cc
seat_held block number (Busy b n) e = ap (option_map (λ (p : ℕ × ℕ). record { number = p.1; block = Some p.0 })) e
seat_held block number (Stray slice) e = cc

held_holds : (block number : ℕ) → holds block (record { number = number; block = Some block }) ≡ true
held_holds block number = grind (arith, nat_tests)

-- the look-up of a table of seats, and of a table of cells, by what they name in each other
pub seat_names : (seats : List Seat) (id : ℕ) → get_or (map block_of seats) id None ≡ block_of (get_or seats id Empty)
seat_names seats id = get_or-map block_of seats id Empty

pub cell_names : (cells : List Cell) (block : ℕ) → get_or (map slice_of cells) block None ≡ slice_of (get_or cells block Vacant)
cell_names cells block = get_or-map slice_of cells block Vacant

pub first_of_pair : (a b c d : ℕ) → ◌≡◌ {A = Option (ℕ × ℕ)} (Some (a, b)) (Some (c, d)) → a ≡ c
first_of_pair a b c d e = ap (λ (o : Option (ℕ × ℕ)). (unwrap_or o (0, 0)).0) e

pub second_of_pair : (a b c d : ℕ) → ◌≡◌ {A = Option (ℕ × ℕ)} (Some (a, b)) (Some (c, d)) → b ≡ d
second_of_pair a b c d e = ap (λ (o : Option (ℕ × ℕ)). (unwrap_or o (0, 0)).1) e

other_seat : (size slices : ℕ) (seats : List Seat) (cells : List Cell) → AreTables size slices seats cells → (block j : ℕ) (o : Option (ℕ × ℕ)) → slice_of (get_or cells block Vacant) ≡ o
    → ((number : ℕ) → o ≡ Some (j, number) → ⊥) → holds_at block (get_or (map held_in seats) j None) ≡ false
other_seat size slices seats cells t block j o here apart = by (holds_at block (get_or (map held_in seats) j None)) refl
  where
    by : (b : Bool) → holds_at block (get_or (map held_in seats) j None) ≡ b → b ≡ false
    by false e = refl
    by true e =
        let h = seat_holds block (get_or seats j Empty) (ap (holds_at block) (sym (get_or-map held_in seats j Empty)) ∙ e) in
        let back : get_or (map slice_of cells) block None ≡ Some (j, h.0) = t.blocks_lie.back j block h.0 (seat_names seats j ∙ h.1) in
        absurd (apart h.0 (sym here ∙ sym (cell_names cells block) ∙ back))

-- the purse says where a block lies, as the table of blocks does
pub place_is : (size slices : ℕ) (seats : List Seat) (cells : List Cell) → AreTables size slices seats cells → (block : ℕ) → place_of (purse_of seats) block ≡ slice_of (get_or cells block Vacant)
place_is size slices seats cells t block = by (get_or cells block Vacant) refl
  where
    by : (cell : Cell) → get_or cells block Vacant ≡ cell → place_of (purse_of seats) block ≡ slice_of cell
    by Vacant e = no_place-entries (map held_in seats) block (λ j. other_seat size slices seats cells t block j None (ap slice_of e) (λ number g. cc))
    by (Parked stamp) e = no_place-entries (map held_in seats) block (λ j. other_seat size slices seats cells t block j None (ap slice_of e) (λ number g. cc))
    by (Resident used put) e =
        let lies : block_of (get_or seats used.id Empty) ≡ Some (block, used.number)
        = sym (seat_names seats used.id) ∙ t.slices_lend.back block used.id used.number (cell_names cells block ∙ ap slice_of e) in
        let held : get_or (map held_in seats) used.id None ≡ Some (record { number = used.number; block = Some block })
        = get_or-map held_in seats used.id Empty ∙ seat_held block used.number (get_or seats used.id Empty) lies in
        place-entries (map held_in seats) used.id block (record { number = used.number; block = Some block })
        (λ j l. other_seat size slices seats cells t block j (Some (used.id, used.number)) (ap slice_of e) (λ number g. let same : used.id ≡ j = first_of_pair used.id used.number j number g in omega arith))
        held (held_holds block used.number)

pub block_is : (seats : List Seat) (id : ℕ) → block_in (purse_of seats) id ≡ block_of (get_or seats id Empty)
block_is seats id = ap (option_and_then (λ (held : Held). option_map (λ block. (block, held.number)) held.block)) (find-purse seats id) ∙ by (get_or seats id Empty)
  where
    by : (seat : Seat) → option_and_then (λ (held : Held). option_map (λ block. (block, held.number)) held.block) (held_in seat) ≡ block_of seat
    by Empty = refl
    by (Idle slice) = refl
    by (Busy block number) = refl
    by (Stray slice) = refl

-- slices without a block, and those with one

not_idle : (seat : Seat) → keeps_slice seat ≡ false → passes is_idle (held_in seat) ≡ false
not_idle Empty e = refl
not_idle (Idle slice) e = cc
not_idle (Busy block number) e = refl
not_idle (Stray slice) e = cc

abbrev has_one : Held → Bool
has_one held = is_some held.block

busy_seat : (seat : Seat) → passes has_one (held_in seat) ≡ is_busy seat
busy_seat Empty = refl
busy_seat (Idle slice) = refl
busy_seat (Busy block number) = refl
busy_seat (Stray slice) = refl

pub next_idle_is : (seats : List Seat) (id : ℕ) (held : Held) → ((j : ℕ) → j < id → passes is_idle (held_in (get_or seats j Empty)) ≡ false)
    → held_in (get_or seats id Empty) ≡ Some held → is_idle held ≡ true → next_idle (purse_of seats) ≡ Some (id, held.number)
next_idle_is seats id held before here is =
    ap (option_map (λ (e : ℕ × Held). (e.0, e.1.number)))
    (lowest_passing is_idle (map held_in seats) id held (λ j l. ap (passes is_idle) (get_or-map held_in seats j Empty) ∙ before j l) (get_or-map held_in seats id Empty ∙ here) is)

pub first_idle_is : (seats : List Seat) (id : ℕ) (slice : SliceView) → ((j : ℕ) → j < id → keeps_slice (get_or seats j Empty) ≡ false)
    → get_or seats id Empty ≡ Idle slice → next_idle (purse_of seats) ≡ Some (id, slice.number)
first_idle_is seats id slice before here =
    next_idle_is seats id (record { number = slice.number; block = None }) (λ j l. not_idle (get_or seats j Empty) (before j l)) (ap held_in here) refl

pub first_block_is : (seats : List Seat) (id block number : ℕ) → ((j : ℕ) → j < id → is_busy (get_or seats j Empty) ≡ false)
    → get_or seats id Empty ≡ Busy block number → first_block (purse_of seats) ≡ Some block
first_block_is seats id block number before here =
    ap (option_and_then (λ (e : ℕ × Held). e.1.block))
    (lowest_passing has_one (map held_in seats) id (record { number = number; block = Some block })
    (λ j l. ap (passes has_one) (get_or-map held_in seats j Empty) ∙ busy_seat (get_or seats j Empty) ∙ before j l) (get_or-map held_in seats id Empty ∙ ap held_in here) refl)

kept_parts : (seats : List Seat) → count_by keeps_slice seats ≡ count_by is_stray seats + count_by (λ seat. passes is_idle (held_in seat)) seats
kept_parts [] = refl
kept_parts (seat ∷ seats) =
    let rest : count_by keeps_slice seats ≡ count_by is_stray seats + count_by (λ seat. passes is_idle (held_in seat)) seats = kept_parts seats in
    let a : count_by keeps_slice (seat ∷ seats) ≡ cond (keeps_slice seat) 1 0 + count_by keeps_slice seats = count_by-cons keeps_slice seat seats in
    let b : count_by is_stray (seat ∷ seats) ≡ cond (is_stray seat) 1 0 + count_by is_stray seats = count_by-cons is_stray seat seats in
    let d : count_by (λ seat. passes is_idle (held_in seat)) (seat ∷ seats) ≡ cond (passes is_idle (held_in seat)) 1 0 + count_by (λ seat. passes is_idle (held_in seat)) seats
    = count_by-cons (λ seat. passes is_idle (held_in seat)) seat seats in
    let one : cond {A = ℕ} (keeps_slice seat) 1 0 ≡ cond {A = ℕ} (is_stray seat) 1 0 + cond {A = ℕ} (passes is_idle (held_in seat)) 1 0 = one_of seat in
    omega arith
  where
    one_of : (seat : Seat) → cond {A = ℕ} (keeps_slice seat) 1 0 ≡ cond {A = ℕ} (is_stray seat) 1 0 + cond {A = ℕ} (passes is_idle (held_in seat)) 1 0
    one_of Empty = refl
    one_of (Idle slice) = refl
    one_of (Busy block number) = refl
    one_of (Stray slice) = refl

-- where no seat keeps a slice, none is without a block, and where none is busy, none has one

pub no_idle : (seats : List Seat) → count_by keeps_slice seats ≡ 0 → (next_idle (purse_of seats) ≡ None) × (strays_of seats ≡ 0)
no_idle seats none =
    let parts = kept_parts seats in
    let idle : length (idle_slices (purse_of seats)) ≡ count_by (λ seat. passes is_idle (held_in seat)) seats = length-passing is_idle (map held_in seats) ∙ count_by-map (passes is_idle) held_in seats in
    let empty : length (idle_slices (purse_of seats)) ≡ 0 = omega arith in
    let strays : strays_of seats ≡ 0 = omega arith in
    (ap (option_map (λ (e : ℕ × Held). (e.0, e.1.number))) (lowest_none (idle_slices (purse_of seats)) empty), strays)

pub no_block : (seats : List Seat) → count_by is_busy seats ≡ 0 → first_block (purse_of seats) ≡ None
no_block seats none =
    let empty : length (seated_slices (purse_of seats)) ≡ 0
    = length-passing has_one (map held_in seats) ∙ count_by-map (passes has_one) held_in seats ∙ count_by-same (λ seat. passes has_one (held_in seat)) is_busy busy_seat seats ∙ none in
    ap (option_and_then (λ (e : ℕ × Held). e.1.block)) (lowest_none (seated_slices (purse_of seats)) empty)

-- the next place

unused : (seat : Seat) → is_open seat ≡ true → (held_in seat ≡ Some (record { number = (slice_in seat).number; block = None })) × (is_used (record { number = (slice_in seat).number; block = None }) ≡ false)
unused Empty e = cc
unused (Idle slice) e = (refl, untwist (nat_le WORN slice.number) e)
  where
    untwist : (b : Bool) → not b ≡ true → b ≡ false
    untwist true e = cc
    untwist false e = refl
unused (Busy block number) e = cc
unused (Stray slice) e = cc

pub next_is : (seats : List Seat) (id : ℕ) → position (λ (b : Bool). b) (map is_open seats) ≡ Some id → next_place (purse_of seats) ≡ Some (id, (slice_in (get_or seats id Empty)).number + 1)
next_is seats id e =
    let at = position-Some (λ (b : Bool). b) (map is_open seats) id false e in
    let here : is_open (get_or seats id Empty) ≡ true = sym (get_or-map is_open seats id Empty) ∙ at.1 in
    let free = unused (get_or seats id Empty) here in
    ap (option_map (λ (e : ℕ × Held). (e.0, e.1.number + 1)))
    (lowest-open (map held_in seats) id (record { number = (slice_in (get_or seats id Empty)).number; block = None })
    (λ j l. ap open_at (get_or-map held_in seats j Empty) ∙ open_is (get_or seats j Empty) ∙ sym (get_or-map is_open seats j Empty) ∙ at.2 j l)
    (get_or-map held_in seats id Empty ∙ free.0) free.1)

-- what a number names stands in the table
pub has_cell : (cells : List Cell) (blocks : Blocks) → blocks_of cells ≡ blocks → (block : ℕ) → find nat_cmp block blocks ≡ view_in (get_or cells block Vacant)
has_cell cells blocks are block = ap (λ bs. find nat_cmp block bs) (sym are) ∙ find-blocks cells block

pub has_within : (cells : List Cell) (blocks : Blocks) → blocks_of cells ≡ blocks → (block : ℕ) → is_some (find nat_cmp block blocks) ≡ true → block < length cells
has_within cells blocks are block e = within_by (λ cell. is_some (view_in cell)) cells block Vacant refl (ap is_some (sym (has_cell cells blocks are block)) ∙ e)

-- a block with a slice, as it is seen
seated_view : (cell : Cell) → is_some (slice_of cell) ≡ true → seen (view_in cell) ≡ InSlice (used_in cell).bytes (put_in cell)
seated_view Vacant e = cc
seated_view (Resident used put) e = refl
seated_view (Parked stamp) e = cc

pub block_seen : (cells : List Cell) (blocks : Blocks) → blocks_of cells ≡ blocks → (block : ℕ) → is_some (slice_of (get_or cells block Vacant)) ≡ true
    → block_at blocks block ≡ InSlice (used_in (get_or cells block Vacant)).bytes (put_in (get_or cells block Vacant))
block_seen cells blocks are block e = ap (λ o. seen o) (has_cell cells blocks are block) ∙ seated_view (get_or cells block Vacant) e

-- a block that has a slice is there
pub seated_there : (cell : Cell) → is_some (slice_of cell) ≡ true → is_some (view_in cell) ≡ true
seated_there Vacant e = cc
seated_there (Resident used put) e = refl
seated_there (Parked stamp) e = cc
