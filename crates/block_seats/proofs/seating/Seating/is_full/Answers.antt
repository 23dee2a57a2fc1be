use Rattle.std.proofs.Common.{◌≡◌, ◌+◌, ◌<◌, ◌≤◌, ℕ, Bool, List, true, false, cond, length, map, get_or, refl, sym, ap, subst, ◌∙◌, arith}
use Rattle.std.proofs.lemmas.Bool.Decides.{nat_tests}
use Rattle.std.proofs.lemmas.List.Sums.{get_or-le-sum_by}
use Rattle.id_set.specs.IdSet as set
use Rattle.block_seats.specs.Seats.{is_empty, purse_of, strays_of}
use Rattle.block_seats.specs.Seatings.{SeatingView, granted_of}
use Rattle.block_seats.proofs.Seats.{length-purse, within_by}
use Rattle.block_seats.proofs.Views.{cannot_hold}
use Rattle.block_seats.proofs.seating.Seating.is_full.Goals as goal
use Rattle.block_seats.proofs.seating.Seating.is_full.Goals.{After-count}

-- the held slices and the empty seats make up all
sum_is : (c : After-count) → granted_of c.args.self.now + c.count.result ≡ c.args.self.now.slices
sum_is c =
    let seating = c.self.inside in
    let seats = seating.seats.items in
    let count : c.count.result ≡ set.count (map is_empty seats) = c.count.ensures ∙ ap set.count c.self.invariant.empty_are in
    let all : length (purse_of seats) + strays_of seats + set.count (map is_empty seats) ≡ length seats = length-purse seats in
    let seats_are : length seats ≡ seating.slices = c.self.invariant.tables.seats_for_all in
    let is : length (purse_of seats) + strays_of seats + c.count.result ≡ seating.slices = omega arith in
    subst (λ (v : SeatingView). granted_of v + c.count.result ≡ v.slices) c.self.view_is is

pub returns-clause-full : goal.returns-clause-full
returns-clause-full c =
    let sum = sum_is c in
    grind (arith, nat_tests)

-- a seat that is free for a slice is counted
counted : (flags : List Bool) (slice : ℕ) → get_or flags slice false ≡ true → 1 ≤ set.count flags
counted flags slice e =
    let low : slice < length flags = within_by (λ (b : Bool). b) flags slice false refl e in
    subst (λ (b : Bool). cond b 1 0 ≤ set.count flags) e (get_or-le-sum_by (λ (b : Bool). cond b 1 0) flags slice false low)

pub returns-clause-open : goal.returns-clause-open
returns-clause-open c = λ slice can none.
    let seating = c.self.inside in
    let some : 1 ≤ set.count seating.empty_seats = elim (get_or seating.empty_seats slice false) as (λ b. get_or seating.empty_seats slice false ≡ b → 1 ≤ set.count seating.empty_seats) [
      | true ↦ λ e. counted seating.empty_seats slice e
      | false ↦ λ e. absurd (cannot_hold seating _ c.self.view_is c.self.invariant slice e none can)
    ] refl in
    let more : 1 ≤ c.count.result = subst (λ n. 1 ≤ n) (sym c.count.ensures) some in
    grind (arith, nat_tests)
