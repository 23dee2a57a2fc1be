-- The tables without blocks and slices, and with more places at their end.
use Rattle.std.proofs.Common.{◌≡◌, ℕ, zero, suc, ◌+◌, ◌-◌, ◌*◌, Bool, true, cond, List, [], ◌∷◌, ◌++◌, length, map, replicate, get_or, refl, ap, sym, subst, ◌∙◌, arith, Some, None}
use Rattle.std.specs.declared.option.Option.{Option}
use Rattle.std.proofs.lemmas.List.{length-replicate, length-map, map-append}
use Rattle.std.proofs.lemmas.List.Folds.{sum_by-replicate}
use Rattle.block_seats.specs.declared.seat.Seat.{Seat}
use Rattle.block_seats.specs.declared.seat.Seat.TheVariants.{Empty}
use Rattle.block_seats.specs.declared.cell.Cell.{Cell}
use Rattle.block_seats.specs.declared.cell.Cell.TheVariants.{Vacant}
use Rattle.block_seats.specs.Tables.{entries_from, entries_of}
use Rattle.block_seats.specs.Seats.{held_in, view_in, block_of, slice_of, is_vacant, is_stray, purse_of, blocks_of, strays_of}
use Rattle.block_seats.specs.Well.{CellFits, AreTables}
use Rattle.id_set.proofs.Tables.{entries-replicate}

pub map-replicate : {X Y : Type 0} (f : X → Y) (n : ℕ) (x : X) → map f (replicate n x) ≡ replicate n (f x)
map-replicate f zero x = refl
map-replicate f (suc n) x = ap (λ ys. f x ∷ ys) (map-replicate f n x)

-- each place has the default
same_everywhere : {X : Type 0} (n i : ℕ) (d : X) → get_or (replicate n d) i d ≡ d
same_everywhere zero i d = refl
same_everywhere (suc n) zero d = refl
same_everywhere (suc n) (suc i) d = same_everywhere n i d

none_named : {X : Type 0} (f : X → Option (ℕ × ℕ)) (n i : ℕ) (x : X) → f x ≡ None → get_or (map f (replicate n x)) i None ≡ None
none_named f n i x e = ap (λ xs. get_or xs i None) (map-replicate f n x ∙ ap (λ o. replicate n o) e) ∙ same_everywhere n i None

pub new_tables : (size slices : ℕ) → AreTables size slices (replicate slices Empty) (replicate slices Vacant)
new_tables size slices = record {
  seats_for_all = length-replicate slices Empty;
  seated = record { seated = λ id slice e. let clash = sym (same_everywhere slices id Empty) ∙ e in cc };
  sized = record { each = λ block. subst (λ c. CellFits size c) (sym (same_everywhere slices block Vacant)) tt };
  blocks_lie = record { back = λ i j number e. let clash = sym (none_named block_of slices i Empty refl) ∙ e in cc };
  slices_lend = record { back = λ i j number e. let clash = sym (none_named slice_of slices i Vacant refl) ∙ e in cc };
}

pub new_blocks : (slices : ℕ) → blocks_of (replicate slices Vacant) ≡ []
new_blocks slices = ap (λ xs. entries_of xs) (map-replicate view_in slices Vacant) ∙ entries-replicate 0 slices

pub new_purse : (slices : ℕ) → purse_of (replicate slices Empty) ≡ []
new_purse slices = ap (λ xs. entries_of xs) (map-replicate held_in slices Empty) ∙ entries-replicate 0 slices

pub new_strays : (slices : ℕ) → strays_of (replicate slices Empty) ≡ 0
new_strays slices = let sum : strays_of (replicate slices Empty) ≡ slices * 0 = sum_by-replicate (λ s. cond (is_stray s) 1 0) slices Empty in omega arith

-- places at the end of a table, which have the default

get_or-padded : {X : Type 0} (xs : List X) (n i : ℕ) (d : X) → get_or (xs ++ replicate n d) i d ≡ get_or xs i d
get_or-padded [] n i d = same_everywhere n i d
get_or-padded (x ∷ xs) n zero d = refl
get_or-padded (x ∷ xs) n (suc i) d = get_or-padded xs n i d

entries-padded : {X : Type 0} (from : ℕ) (xs : List (Option X)) (n : ℕ) → entries_from from (xs ++ replicate n None) ≡ entries_from from xs
entries-padded from [] n = entries-replicate from n
entries-padded from (None ∷ xs) n = entries-padded (from + 1) xs n
entries-padded from (Some x ∷ xs) n = ap (λ es. (from, x) ∷ es) (entries-padded (from + 1) xs n)

map-padded : {X Y : Type 0} (f : X → Y) (xs : List X) (n : ℕ) (x : X) → map f (xs ++ replicate n x) ≡ map f xs ++ replicate n (f x)
map-padded f xs n x = map-append f xs (replicate n x) ∙ ap (λ ys. map f xs ++ ys) (map-replicate f n x)

pub padded_blocks : (cells : List Cell) (n : ℕ) → blocks_of (cells ++ replicate n Vacant) ≡ blocks_of cells
padded_blocks cells n = ap (λ xs. entries_of xs) (map-padded view_in cells n Vacant) ∙ entries-padded 0 (map view_in cells) n

pub padded_vacant : (vacant : List Bool) (cells : List Cell) (bound n : ℕ) → vacant ≡ map is_vacant cells → bound ≡ length cells + n → vacant ++ replicate (bound - length vacant) true ≡ map is_vacant (cells ++ replicate n Vacant)
padded_vacant vacant cells bound n are is =
    let many : length vacant ≡ length cells = ap (λ (f : List Bool). length f) are ∙ length-map cells is_vacant in
    let more : bound - length vacant ≡ n = omega arith in
    ap (λ k. vacant ++ replicate k true) more ∙ ap (λ f. f ++ replicate n true) are ∙ sym (map-padded is_vacant cells n Vacant)

pub padded_tables : (size slices n : ℕ) (seats : List Seat) (cells : List Cell) → AreTables size slices seats cells → AreTables size slices seats (cells ++ replicate n Vacant)
padded_tables size slices n seats cells t =
    let names : map slice_of (cells ++ replicate n Vacant) ≡ map slice_of cells ++ replicate n None = map-padded slice_of cells n Vacant in
    record {
      seats_for_all = t.seats_for_all;
      seated = t.seated;
      sized = record { each = λ block. subst (λ c. CellFits size c) (sym (get_or-padded cells n block Vacant)) (t.sized.each block) };
      blocks_lie = record { back = λ i j number e. ap (λ ys. get_or ys j None) names ∙ get_or-padded (map slice_of cells) n j None ∙ t.blocks_lie.back i j number e };
      slices_lend = record { back = λ i j number e. t.slices_lend.back i j number (sym (ap (λ ys. get_or ys i None) names ∙ get_or-padded (map slice_of cells) n i None) ∙ e) };
    }
