-- Seats that are read word by word, and their fair shares together.
use Rattle.std.proofs.Common.{◌≡◌, ◌≢◌, ℕ, ◌+◌, ◌*◌, ◌^◌, ◌<◌, ◌≤◌, Bor, Bool, true, false, List, [], ◌∷◌, ◌++◌, length, map, take, drop, get_or, set, Option, Some, None, refl, sym, ◌∙◌, ap, subst, append-nil, arith}
use Rattle.std.specs.Prelude.{◌↔◌, All, codes}
use Rattle.std.specs.List.{sum_by}
use Rattle.std.proofs.lemmas.List.{map-set, set-get_or, get_or-map, take_all, take_more, drop_all, length-map}
use mathlib.Core.Bool.{true≢false}
use Rattle.std.proofs.lemmas.List.Sums.{sum_by_push}
use Rattle.std.specs.Option.{option_copied, is_some}
use Rattle.far_io.specs.Words.{words_of, words_after}
use Rattle.karma_rule.specs.declared.row.Row.{Row}
use Rattle.karma_rule.specs.declared.row.Share.{Share}
use Rattle.karma_rule.specs.declared.shape.Shape.{Shape}
use Rattle.demand_book.specs.declared.report.Report.{Report}
use Rattle.demand_book.specs.Roster.{seat_of, fair_of_seat}
use Rattle.quantum_text.specs.declared.line_kind.LineKind.{LineKind}
use Rattle.quantum_text.specs.declared.line_kind.LineKind.TheVariants.{Quantum, Demand, Slices, Credits}
use Rattle.quantum_text.specs.LineKind.{numbers_of, without_seat}
use Rattle.quantum_text.specs.Shares.{seat_word, IsSeat, IsSeated, AreSeats, SeatsTogether, IsSharesLine, IsNoSharesLine, ChangesRoster}
use Rattle.quantum_text.proofs.Items.{Seen, Due, seen_none, seen_more, due_item}
use Rattle.quantum_text.proofs.Seats.{seat_word_injective, shares_words, shares_from_words, seats_injective}

column_stands : (column : Row → ℕ) → ((row : Row) → column (without_seat row) ≡ column row) → (new old : List Row) → map without_seat new ≡ map without_seat old → map column new ≡ map column old
column_stands column seatless [] [] same = refl
column_stands column seatless [] (y ∷ ys) same = cc
column_stands column seatless (x ∷ xs) [] same = cc
column_stands column seatless (x ∷ xs) (y ∷ ys) same =
    let head : without_seat x ≡ without_seat y = cc in
    let tails : map without_seat xs ≡ map without_seat ys = cc in
    let number : column x ≡ column y = sym (seatless x) ∙ ap column head ∙ seatless y in
    ap (λ n. n ∷ map column xs) number ∙ ap (λ ns. column y ∷ ns) (column_stands column seatless xs ys tails)

-- i seats were read, whose fair shares together are so many
pub record SeenFair (i : ℕ) (words rest : List (List ℕ)) (total : ℕ) : Type 0 where
  pub seen : Seen seat_word IsSeat i words rest
  pub together : total ≡ sum_by fair_of_seat seen.found
  pub most : total ≤ i * 2 ^ 32

pub fair_most : (seat : Option Share) → IsSeat seat → fair_of_seat seat ≤ 2 ^ 32
fair_most None is = omega arith
fair_most (Some share) is = omega (arith, is.fair)

pub fair_none : (words : List (List ℕ)) → SeenFair 0 words words 0
unfolding seen_none
fair_none words = record { seen = seen_none seat_word IsSeat words; together = refl; most = omega arith }

pub fair_more : (i : ℕ) (words rest others : List (List ℕ)) (seat : Option Share) (total more : ℕ) → SeenFair i words rest total → rest ≡ seat_word seat ∷ others → IsSeat seat
    → more ≡ total + fair_of_seat seat → SeenFair (i + 1) words others more
unfolding seen_more
fair_more i words rest others seat total more fair next within more_is = record {
  seen = seen_more seat_word IsSeat i words rest others seat fair.seen next within;
  together = more_is ∙ ap (λ t. t + fair_of_seat seat) fair.together ∙ sym (sum_by_push fair_of_seat fair.seen.found seat);
  most = omega (arith, more_is, fair.most, fair_most seat within);
}

pub fair_all : (users i : ℕ) (words rest : List (List ℕ)) (total : ℕ) → SeenFair i words rest total → rest ≡ [] → i ≡ users → SeatsTogether users words total
fair_all users i words rest total fair none end = record {
  seats = fair.seen.found;
  are = record {
    spelled = fair.seen.whole ∙ ap (λ t. map seat_word fair.seen.found ++ t) none ∙ append-nil (map seat_word fair.seen.found);
    many = fair.seen.long ∙ end;
    within = fair.seen.within;
  };
  together = fair.together;
}

pub none_left : (rest : Option (Bor (List ℕ))) → is_some rest ≡ false → words_after (option_copied rest) ≡ []
none_left None none = refl
none_left (Some bytes) none = cc

-- ---- the line of a roster, by its words
module _ (shape : Shape) (before : List (Option Share)) (line word : List ℕ) (others : List (List ℕ)) (parted : words_of line ≡ word ∷ others) where
  words_spelled : (roster : List (Option Share)) → IsSharesLine shape before line roster → word ∷ others ≡ codes "shares" ∷ map seat_word roster
  words_spelled roster is_line = sym parted ∙ ap words_of is_line.spelled ∙ shares_words roster is_line.told.within

  seats_of : (roster : List (Option Share)) → IsSharesLine shape before line roster → AreSeats (length before) others roster
  seats_of roster is_line =
      let same = words_spelled roster is_line in
      record { spelled = cc; many = is_line.told.many; within = is_line.told.within }

  pub other_word : word ≢ codes "shares" → IsNoSharesLine shape before line
  other_word other = λ roster is_line. let same = words_spelled roster is_line in other cc

  pub no_seats : (users : ℕ) → users ≡ length before → ((seats : List (Option Share)) → AreSeats users others seats → ⊥) → IsNoSharesLine shape before line
  no_seats users same_users none = λ roster is_line. none roster (subst (λ n. AreSeats n others roster) (sym same_users) (seats_of roster is_line))

  pub too_many : (users total : ℕ) → users ≡ length before → SeatsTogether users others total → shape.users * shape.share.fair < total → IsNoSharesLine shape before line
  too_many users total same_users seats above = λ roster is_line.
      let are = seats_of roster is_line in
      let same : roster ≡ seats.seats = seats_injective roster seats.seats are.within seats.are.within (sym are.spelled ∙ seats.are.spelled) in
      absurd (omega (arith, is_line.told.together, ap (sum_by fair_of_seat) same, seats.together, above))

  pub same_roster : (users : ℕ) → users ≡ length before → ((seats : List (Option Share)) → AreSeats users others seats → seats ≡ before) → IsNoSharesLine shape before line
  same_roster users same_users all = λ roster is_line. is_line.told.another (all roster (subst (λ n. AreSeats n others roster) (sym same_users) (seats_of roster is_line)))

  pub its_roster : (users total : ℕ) (roster : List (Option Share)) → users ≡ length before → word ≡ codes "shares" → SeatsTogether users others total → total ≤ shape.users * shape.share.fair
      → ((seats : List (Option Share)) → AreSeats users others seats → seats ≢ before) → AreSeats users others roster → IsSharesLine shape before line roster
  its_roster users total roster same_users is_word seats within another are =
      let same : roster ≡ seats.seats = seats_injective roster seats.seats are.within seats.are.within (sym are.spelled ∙ seats.are.spelled) in
      record {
        spelled = shares_from_words line roster are.within (parted ∙ ap (λ w. w ∷ others) is_word ∙ ap (λ o. codes "shares" ∷ o) are.spelled);
        told = record {
          many = are.many ∙ same_users;
          within = are.within;
          together = omega (arith, ap (sum_by fair_of_seat) same, seats.together, within);
          another = another roster are;
        };
      }

-- ---- rows that were given seats
-- a number that these lines tell stands
pub numbers_stand : (kind : LineKind) (old new : Report) → new.quantum ≡ old.quantum → map without_seat new.rows ≡ map without_seat old.rows → numbers_of kind new ≡ numbers_of kind old
numbers_stand Quantum old new quantum same = ap (λ q. q ∷ []) quantum
numbers_stand Demand old new quantum same = column_stands (λ (row : Row). row.demand) (λ row. refl) new.rows old.rows same
numbers_stand Slices old new quantum same = column_stands (λ (row : Row). row.given) (λ row. refl) new.rows old.rows same
numbers_stand Credits old new quantum same = column_stands (λ (row : Row). row.credits) (λ row. refl) new.rows old.rows same

pub rows_stand : (old new : List Row) → map without_seat new ≡ map without_seat old → length new ≡ length old
rows_stand old new same = sym (length-map new without_seat) ∙ ap length same ∙ length-map old without_seat

-- the rows after all of them were written
pub refilled : (old new : List Row) → length new ≡ length old → take (length old) (new ++ drop (length new) old) ≡ new
refilled old new long =
    ap (λ t. take (length old) (new ++ t)) (drop_all (length new) old (omega (arith, long))) ∙ ap (take (length old)) (append-nil new) ∙ take_all (length old) new (omega (arith, long))

pub roster_changes : (old : Report) (rows : List Row) → map without_seat rows ≡ map without_seat old.rows → All IsSeated rows
    → ChangesRoster old (record { quantum = old.quantum; rows = take (length old.rows) (rows ++ drop (length rows) old.rows); changed = true })
roster_changes old rows stand seated =
    let made = λ (rs : List Row). let report : Report = record { quantum = old.quantum; rows = rs; changed = true } in report in
    let changes : ChangesRoster old (made rows) = record {
      users = rows_stand old.rows rows stand;
      changed = refl;
      seated = seated;
      numbers = λ kind. numbers_stand kind old (made rows) refl stand;
    } in
    subst (λ rs. ChangesRoster old (made rs)) (sym (refilled old.rows rows (rows_stand old.rows rows stand))) changes

-- ---- rows beside the seats that are due
module _ (rows : List Row) (i : ℕ) (d : Row) (words rest others : List (List ℕ)) (seat : Option Share) (due : Due seat_word IsSeat (length rows) i words rest) (here : i < length rows)
    (next : rest ≡ seat_word seat ∷ others) (within : IsSeat seat) (had : Bool) (had_is : (had ≡ true) ↔ (seat_of (get_or rows i d) ≡ seat)) where
  seat_there : get_or (map seat_of rows) i None ≡ seat_of (get_or rows i d)
  seat_there = get_or-map seat_of rows i d None here

  seat_due : (seats : List (Option Share)) → AreSeats (length rows) words seats → seat ≡ get_or seats i None
  seat_due seats are = due_item seat_word IsSeat None (length rows) i words rest others seat seat_word_injective due here next within seats are

  pub is_other : had ≡ false → (seats : List (Option Share)) → AreSeats (length rows) words seats → seats ≢ map seat_of rows
  is_other other seats are same =
      let is : seat_of (get_or rows i d) ≡ seat = sym seat_there ∙ sym (ap (λ s. get_or s i None) same) ∙ sym (seat_due seats are) in
      true≢false (sym (had_is.1 is) ∙ other)

  pub same_more : had ≡ true → (seats : List (Option Share)) → AreSeats (length rows) words seats → take i (map seat_of rows) ≡ take i seats → take (i + 1) (map seat_of rows) ≡ take (i + 1) seats
  same_more same seats are before =
      let inside : i < length (map seat_of rows) = omega (arith, length-map rows seat_of) in
      let there : i < length seats = omega (arith, are.many) in
      let is : get_or (map seat_of rows) i None ≡ get_or seats i None = seat_there ∙ had_is.0 same ∙ seat_due seats are in
      take_more (map seat_of rows) i None inside ∙ ap (λ t. t ++ get_or (map seat_of rows) i None ∷ []) before ∙ ap (λ s. take i seats ++ s ∷ []) is ∙ sym (take_more seats i None there)

-- one row was given a seat, and its numbers stand
pub numbers_kept : (rows : List Row) (i : ℕ) (row d : Row) → i < length rows → without_seat row ≡ without_seat (get_or rows i d) → map without_seat (set rows i row) ≡ map without_seat rows
numbers_kept rows i row d here kept =
    map-set without_seat rows i row ∙ ap (set (map without_seat rows) i) (kept ∙ sym (get_or-map without_seat rows i d (without_seat d) here))
    ∙ set-get_or (map without_seat rows) i (without_seat d)
