use Rattle.std.proofs.Common.{◌≡◌, ℕ, List, [], length, map, replicate, ap, sym, subst, ◌∙◌, arith}
use Rattle.std.proofs.lemmas.List.{length-replicate}
use Rattle.block_seats.specs.declared.seat.Seat.{Seat}
use Rattle.block_seats.specs.declared.seat.Seat.TheVariants.{Empty}
use Rattle.block_seats.specs.declared.cell.Cell.{Cell}
use Rattle.block_seats.specs.declared.cell.Cell.TheVariants.{Vacant}
use Rattle.block_seats.specs.Noted.{NotedView}
use Rattle.block_seats.specs.Seats.{blocks_of, purse_of, strays_of, is_open, is_empty, is_busy, keeps_slice, is_vacant}
use Rattle.block_seats.specs.Well.{AreTables}
use Rattle.block_seats.proofs.New.{map-replicate, new_tables, new_blocks, new_purse, new_strays}
use Rattle.block_seats.proofs.seating.Seating.new.Goals as goal

pub invariant_of-result : goal.invariant_of-result
invariant_of-result c =
    let n : ℕ = c.args.slices in
    record {
      some = c.requires.some;
      size = c.requires.limit;
      slices = omega arith;
      few = omega (arith, ap (λ (ys : List Cell). length ys) c.in_ok-seats.ensures.cells, length-replicate n Vacant);
      tables = subst (λ (xs : List Seat). AreTables c.args.size n xs c.in_ok-seats.cells.items) (sym c.in_ok-seats.ensures.seats)
          (subst (λ (ys : List Cell). AreTables c.args.size n (replicate n Empty) ys) (sym c.in_ok-seats.ensures.cells) (new_tables c.args.size n));
      open_are = c.in_ok-open_seats.ensures.open ∙ sym (ap (λ (xs : List Seat). map is_open xs) c.in_ok-seats.ensures.seats ∙ map-replicate is_open n Empty);
      empty_are = c.in_ok-open_seats.ensures.empty ∙ sym (ap (λ (xs : List Seat). map is_empty xs) c.in_ok-seats.ensures.seats ∙ map-replicate is_empty n Empty);
      idle_are = c.in_ok-open_seats.ensures.idle ∙ sym (ap (λ (xs : List Seat). map keeps_slice xs) c.in_ok-seats.ensures.seats ∙ map-replicate keeps_slice n Empty);
      busy_are = c.in_ok-open_seats.ensures.busy ∙ sym (ap (λ (xs : List Seat). map is_busy xs) c.in_ok-seats.ensures.seats ∙ map-replicate is_busy n Empty);
      vacant_are = c.in_ok-vacant_cells.ensures ∙ sym (ap (λ (ys : List Cell). map is_vacant ys) c.in_ok-seats.ensures.cells ∙ map-replicate is_vacant n Vacant);
      most = ap (λ (m : NotedView). m.most) c.in_ok-moves.ensures;
    }

pub returns : goal.returns
returns c =
    let n : ℕ = c.args.slices in
    let blocks : blocks_of c.in_ok-seats.cells.items ≡ [] = ap (λ (ys : List Cell). blocks_of ys) c.in_ok-seats.ensures.cells ∙ new_blocks n in
    let purse : purse_of c.in_ok-seats.seats.items ≡ [] = ap (λ (xs : List Seat). purse_of xs) c.in_ok-seats.ensures.seats ∙ new_purse n in
    let strays : strays_of c.in_ok-seats.seats.items ≡ 0 = ap (λ (xs : List Seat). strays_of xs) c.in_ok-seats.ensures.seats ∙ new_strays n in
    let numbers : length c.in_ok-seats.cells.items ≡ n = ap (λ (ys : List Cell). length ys) c.in_ok-seats.ensures.cells ∙ length-replicate n Vacant in
    λ i. record {
      size = c.args.size;
      slices = n;
      blocks = blocks i;
      purse = purse i;
      strays = strays i;
      numbers = numbers i;
      moves = c.in_ok-moves.ensures i;
    }
