-- The tables after a slice without a block was taken out.
use Rattle.std.proofs.Common.{◌≡◌, ℕ, ◌+◌, ◌<◌, Bool, true, false, is_some, List, length, get_or, set, refl, ap, sym, subst, ◌∙◌, arith, ◌⊎◌, inl, inr, Some, None}
use Rattle.std.specs.List.{position}
use Rattle.slice_seq.specs.Slice.{SliceView}
use Rattle.slice_seq.specs.Purses.{Purse}
use Rattle.block_seats.specs.declared.seating.Seating.TheInside.{Inside}
use Rattle.block_seats.specs.declared.seat.Seat.{Seat}
use Rattle.block_seats.specs.declared.seat.Seat.TheVariants.{Empty, Idle, Busy, Stray}
use Rattle.block_seats.specs.Tables.{without}
use Rattle.block_seats.specs.Purses.{next_idle, place_of}
use Rattle.block_seats.specs.Seats.{block_of, held_in, is_busy, is_stray, keeps_slice, slice_in, purse_of, strays_of}
use Rattle.block_seats.specs.Seatings.{SeatingView, granted_of, with_stray, TakesIdle}
use Rattle.block_seats.specs.Well.{view_of, AreTables, IsWell}
use Rattle.block_seats.proofs.Seats.{place_is, first_idle_is}
use Rattle.block_seats.proofs.Updates.{one_if, seat_tables, purse-clear, purse_same, strays_same, strays_less, length-purse_less}
use Rattle.block_seats.proofs.Views.{purse_in, size_in, cell_place, kept_seat, kept_before, kept_low}

no_name : (seat : Seat) → keeps_slice seat ≡ true → block_of seat ≡ None
no_name Empty e = cc
no_name (Idle slice) e = refl
no_name (Busy block number) e = cc
no_name (Stray slice) e = refl

pub kept_not_busy : (seat : Seat) → keeps_slice seat ≡ true → is_busy seat ≡ false
kept_not_busy Empty e = cc
kept_not_busy (Idle slice) e = refl
kept_not_busy (Busy block number) e = cc
kept_not_busy (Stray slice) e = refl

one_kept : (seat : Seat) → keeps_slice seat ≡ true → one_if (is_some (held_in seat)) + one_if (is_stray seat) ≡ 1
one_kept Empty e = cc
one_kept (Idle slice) e = refl
one_kept (Busy block number) e = cc
one_kept (Stray slice) e = refl

module _ (seating : Inside) (v : SeatingView) (is : view_of seating ≡ v) (well : IsWell seating) (id : ℕ) (first : position (λ (b : Bool). b) seating.idle_seats ≡ Some id)
    (seats : List Seat) (written : seats ≡ set seating.seats.items id Empty) where
  low : id < length seating.seats.items
  low = kept_low seating v is well id first

  kept : keeps_slice (get_or seating.seats.items id Empty) ≡ true
  kept = kept_seat seating v is well id first

  pub taken_tables : AreTables seating.size seating.slices seats seating.cells.items
  taken_tables =
      subst (λ (xs : List Seat). AreTables seating.size seating.slices xs seating.cells.items) (sym written)
      (seat_tables seating.size seating.slices seating.seats.items seating.cells.items well.tables id Empty (omega (arith, low, well.tables.seats_for_all))
      (no_name (get_or seating.seats.items id Empty) kept) refl (λ slice e. cc))

  pub taken_places : (block : ℕ) → place_of (purse_of seats) block ≡ place_of v.purse block
  taken_places block = place_is seating.size seating.slices seats seating.cells.items taken_tables block ∙ sym (cell_place seating v is well block)

  pub taken_granted : granted_of v ≡ length (purse_of seats) + strays_of seats + 1
  taken_granted =
      let purse : length (purse_of seats) + one_if (is_some (held_in (get_or seating.seats.items id Empty))) ≡ length (purse_of seating.seats.items)
      = ap (λ (xs : List Seat). length (purse_of xs) + one_if (is_some (held_in (get_or seating.seats.items id Empty)))) written ∙ length-purse_less seating.seats.items id low in
      let strays : strays_of seats + one_if (is_stray (get_or seating.seats.items id Empty)) ≡ strays_of seating.seats.items
      = ap (λ (xs : List Seat). strays_of xs + one_if (is_stray (get_or seating.seats.items id Empty))) written ∙ strays_less seating.seats.items id low in
      let one = one_kept (get_or seating.seats.items id Empty) kept in
      let before : length (purse_of seating.seats.items) + strays_of seating.seats.items ≡ granted_of v = ap granted_of is in
      omega arith

  -- the lowest slice without a block, or one that was kept aside
  pub taken_is : (slice : SliceView) → slice ≡ slice_in (get_or seating.seats.items id Empty) → (now : SeatingView) → now ≡ record v { purse = purse_of seats; strays = strays_of seats }
      → TakesIdle slice v now ⊎ (v ≡ with_stray now)
  taken_is taken same now rest = subst (λ (s : SliceView). TakesIdle s v now ⊎ (v ≡ with_stray now)) (sym same) (by (get_or seating.seats.items id Empty) refl kept)
    where
      by : (seat : Seat) → get_or seating.seats.items id Empty ≡ seat → keeps_slice seat ≡ true → TakesIdle (slice_in seat) v now ⊎ (v ≡ with_stray now)
      by Empty here e = cc
      by (Busy block number) here e = cc
      by (Idle slice) here e =
          let fits = well.tables.seated.seated id slice here in
          let purse : purse_of seats ≡ without slice.id v.purse
          = ap (λ (xs : List Seat). purse_of xs) written ∙ purse-clear seating.seats.items id ∙ ap (λ (p : Purse). without id p) (purse_in seating v is well) ∙ ap (λ n. without n v.purse) (sym fits.0) in
          let strays : strays_of seats ≡ v.strays
          = ap (λ (xs : List Seat). strays_of xs) written ∙ strays_same seating.seats.items id Empty low (sym (ap is_stray here)) ∙ ap (λ (w : SeatingView). w.strays) is in
          inl (record {
            lowest = ap (λ (p : Purse). next_idle p) (sym (purse_in seating v is well)) ∙ first_idle_is seating.seats.items id slice (kept_before seating v is well id first) here
                ∙ ap (λ n. Some (n, slice.number)) (sym fits.0);
            size = fits.1 ∙ size_in seating v is well;
            rest = rest ∙ (λ i. record v { purse = purse i; strays = strays i });
          })
      by (Stray slice) here e =
          let purse : purse_of seats ≡ v.purse
          = ap (λ (xs : List Seat). purse_of xs) written ∙ purse_same seating.seats.items id Empty (sym (ap held_in here)) ∙ purse_in seating v is well in
          let one : one_if (is_stray (get_or seating.seats.items id Empty)) ≡ 1 = ap (λ s. one_if (is_stray s)) here in
          let less : strays_of seats + one_if (is_stray (get_or seating.seats.items id Empty)) ≡ strays_of seating.seats.items
          = ap (λ (xs : List Seat). strays_of xs + one_if (is_stray (get_or seating.seats.items id Empty))) written ∙ strays_less seating.seats.items id low in
          let before : strays_of seating.seats.items ≡ v.strays = ap (λ (w : SeatingView). w.strays) is in
          let strays : strays_of seats + 1 ≡ v.strays = omega arith in
          inr (sym (ap with_stray rest ∙ (λ i. record v { purse = purse i; strays = strays i })))
