-- What a line of shares tells.
use Rattle.std.proofs.Common.{◌≡◌, ◌≢◌, ℕ, ◌+◌, ◌*◌, ◌<◌, ◌≤◌, ◌^◌, ◌==◌, Bool, true, false, not, cond, ◌&&◌, if◌then◌else◌, nat_le, List, [], ◌∷◌, ◌++◌, length, map, drop, Option, Some, None, codes, decimal, refl, sym, ◌∙◌, ap, subst, arith, length-append}
use Rattle.std.specs.Bool.{Decides}
use Rattle.std.specs.List.{All, list_all, flat_map, sum_by}
use Rattle.std.specs.Str.{bytes_eq}
use Rattle.std.proofs.lemmas.Bool.{cond-true, cond-false, and_from, and_parts, le-leb, leb-true, eq-eqb, eqb-true, not-true, false_from_ne_true, true≢false}
use Rattle.std.proofs.lemmas.Bool.Decides.{Decides-by_and}
use Rattle.std.proofs.lemmas.List.Elements.{All-head, All-tail, All-from_recursion}
use Rattle.std.proofs.lemmas.Slice.Eq.{bytes_eq-Decides, slice_eq-Decides}
use Rattle.far_io.specs.Decimals.{value_of}
use Rattle.far_io.specs.Words.{words_of}
use Rattle.far_io.proofs.Decimals.{value_of-decimal, decimal_short}
use Rattle.karma_rule.specs.declared.limits.TheConstants.{MOST_FAIR}
use Rattle.karma_rule.specs.declared.row.Share.{Share}
use Rattle.karma_rule.specs.declared.shape.Shape.{Shape}
use Rattle.demand_book.specs.Roster.{fair_of_seat}
use Rattle.quantum_text.specs.Shares.{seat_word, seat_text, shares_text, HasNoColon, IsSeat, IsSharesLine, IsNoSharesLine}
use Rattle.quantum_text.proofs.Seats.{decimal_no_colon, has_colon, shares_words}
use Rattle.run_end.specs.declared.TheConstants.{MOST_LINE}
use Rattle.plan_run.proofs.Choices.{some_in, no_choice}
use Rattle.plan_run.specs.SharesLine.{same_seat, same_roster, is_seat, is_roster, before_colon, after_colon, seat_read, roster_of_line}

-- ---- tests of rosters
share_is : (share other : Share) → share.fair ≡ other.fair → share.floor ≡ other.floor → share ≡ other
share_is share other fair floor = ap (λ f. record { fair = f; floor = share.floor }) fair ∙ ap (λ g. record { fair = other.fair; floor = g }) floor

same_seat-Decides : (seat other : Option Share) → Decides (same_seat seat other) (seat ≡ other)
same_seat-Decides None None = (λ test. refl, λ same. refl)
same_seat-Decides None (Some other) = (λ test. absurd (cc), λ same. absurd (cc))
same_seat-Decides (Some share) None = (λ test. absurd (cc), λ same. absurd (cc))
same_seat-Decides (Some share) (Some other) = (
  λ test.
      let parts = and_parts _ _ test in
      ap Some (share_is share other (eqb-true share.fair other.fair parts.0) (eqb-true share.floor other.floor parts.1)),
  λ same.
      let is : share ≡ other = cc in
      and_from _ _ (eq-eqb share.fair other.fair (ap (λ s. s.fair) is)) (eq-eqb share.floor other.floor (ap (λ s. s.floor) is)),
)

pub same_roster-Decides : (roster other : List (Option Share)) → Decides (same_roster roster other) (roster ≡ other)
same_roster-Decides roster other = slice_eq-Decides same_seat-Decides roster other (same_roster roster other) refl

pub same_roster_self : (roster : List (Option Share)) → same_roster roster roster ≡ true
same_roster_self roster = (same_roster-Decides roster roster).1 refl

seat-Decides : (seat : Option Share) → Decides (is_seat seat) (IsSeat seat)
seat-Decides None = (λ test. tt, λ is. refl)
seat-Decides (Some share) = (
  λ test.
      let parts = and_parts _ _ test in
      let two = and_parts _ _ parts.0 in
      record { some = leb-true 1 share.fair two.0; fair = leb-true share.fair MOST_FAIR two.1; floor = leb-true share.floor share.fair parts.1 },
  λ is. and_from _ _ (and_from _ _ (le-leb 1 share.fair is.some) (le-leb share.fair MOST_FAIR is.fair)) (le-leb share.floor share.fair is.floor),
)

seats-Decides : (roster : List (Option Share)) → Decides (list_all is_seat roster) (All IsSeat roster)
seats-Decides roster = Decides-by_and is_seat IsSeat (list_all is_seat) seat-Decides refl (λ seat seats. refl) roster

-- what a roster is, by its parts
pub record IsRoster (shape : Shape) (roster : List (Option Share)) : Type 0 where
  pub many : length roster ≡ shape.users
  pub within : All IsSeat roster
  pub together : sum_by fair_of_seat roster ≤ shape.users * shape.share.fair

pub roster_parts : (shape : Shape) (roster : List (Option Share)) → is_roster shape roster ≡ true → IsRoster shape roster
roster_parts shape roster test =
    let parts = and_parts _ _ test in
    let two = and_parts _ _ parts.0 in
    record {
      many = eqb-true (length roster) shape.users two.0;
      within = (seats-Decides roster).0 two.1;
      together = leb-true (sum_by fair_of_seat roster) (shape.users * shape.share.fair) parts.1;
    }

pub roster_from : (shape : Shape) (roster : List (Option Share)) → IsRoster shape roster → is_roster shape roster ≡ true
roster_from shape roster is =
    and_from _ _ (and_from _ _ (eq-eqb (length roster) shape.users is.many) ((seats-Decides roster).1 is.within))
    (le-leb (sum_by fair_of_seat roster) (shape.users * shape.share.fair) is.together)

-- ---- a seat is read off its word
fair_part : (xs ys : List ℕ) → HasNoColon xs → before_colon (xs ++ 58 ∷ ys) ≡ xs
fair_part [] ys none = refl
fair_part (x ∷ xs) ys none =
    cond-false _ _ _ (false_from_ne_true (x == 58) (λ test. All-head (λ byte. byte ≢ 58) x xs none (eqb-true x 58 test))) ∙ ap (λ bytes. x ∷ bytes) (fair_part xs ys (All-tail (λ byte. byte ≢ 58) x xs none))

floor_part : (xs ys : List ℕ) → HasNoColon xs → after_colon (xs ++ 58 ∷ ys) ≡ ys
floor_part [] ys none = refl
floor_part (x ∷ xs) ys none =
    cond-false _ _ _ (false_from_ne_true (x == 58) (λ test. All-head (λ byte. byte ≢ 58) x xs none (eqb-true x 58 test))) ∙ floor_part xs ys (All-tail (λ byte. byte ≢ 58) x xs none)

dash_alone : HasNoColon (codes "-")
dash_alone = All-from_recursion (λ byte. byte ≢ 58) (codes "-") (λ (e : 45 ≡ 58). absurd (omega arith), tt)

no_dash : (xs ys : List ℕ) → xs ++ 58 ∷ ys ≡ codes "-" → ⊥
no_dash xs ys same = has_colon xs ys (subst HasNoColon (sym same) dash_alone)

seat_back : (seat : Option Share) → IsSeat seat → seat_read (seat_word seat) ≡ seat
seat_back None is = refl
seat_back (Some share) is =
    let fair : share.fair < 2 ^ 64 = omega (arith, is.fair) in
    let floor : share.floor < 2 ^ 64 = omega (arith, is.fair, is.floor) in
    let word = decimal share.fair ++ 58 ∷ decimal share.floor in
    let none = decimal_no_colon share.fair fair in
    cond-false _ _ _ (false_from_ne_true _ (λ test. no_dash (decimal share.fair) (decimal share.floor) ((bytes_eq-Decides word (codes "-")).0 test)))
    ∙ ap Some (share_is (record { fair = value_of (before_colon word); floor = value_of (after_colon word) }) share
    (ap value_of (fair_part (decimal share.fair) (decimal share.floor) none) ∙ value_of-decimal share.fair fair)
    (ap value_of (floor_part (decimal share.fair) (decimal share.floor) none) ∙ value_of-decimal share.floor floor))

seats_back : (roster : List (Option Share)) → All IsSeat roster → map seat_read (map seat_word roster) ≡ roster
seats_back [] within = refl
seats_back (seat ∷ roster) within =
    ap (λ s. s ∷ map seat_read (map seat_word roster)) (seat_back seat (All-head IsSeat seat roster within))
    ∙ ap (λ seats. seat ∷ seats) (seats_back roster (All-tail IsSeat seat roster within))

-- ---- a line
module _ (shape : Shape) (before : List (Option Share)) (line : List ℕ) where
  told : List (Option Share) → Bool
  told roster = bytes_eq line (shares_text roster) && is_roster shape roster && not (same_roster roster before)

  -- a roster that is told is within its limits, and another one
  pub record IsTold (roster : List (Option Share)) : Type 0 where
    pub spelled : line ≡ shares_text roster
    pub roster_is : is_roster shape roster ≡ true
    pub another : same_roster roster before ≡ false

  told_parts : (roster : List (Option Share)) → told roster ≡ true → IsTold roster
  unfolding told
  told_parts roster test =
      let parts = and_parts _ _ test in
      let two = and_parts _ _ parts.0 in
      record { spelled = (bytes_eq-Decides line (shares_text roster)).0 two.0; roster_is = two.1; another = not-true (same_roster roster before) parts.1 }

  pub roster_some : (roster : List (Option Share)) → roster_of_line shape before line ≡ Some roster → IsTold roster
  unfolding told
  roster_some roster some =
      let found = map seat_read (drop 1 (words_of line)) in
      let outer = some_in (nat_le (length line) MOST_LINE) (if told found then Some found else None) roster some in
      let inner = some_in (told found) (Some found) roster outer.1 in
      let same : found ≡ roster = cc in
      subst IsTold same (told_parts found inner.0)

  -- a line that spells no roster
  pub other_line : ((roster : List (Option Share)) → line ≡ shares_text roster → ⊥) → roster_of_line shape before line ≡ None
  unfolding told
  other_line other =
      let found = map seat_read (drop 1 (words_of line)) in
      ap (λ (o : Option (List (Option Share))). cond (nat_le (length line) MOST_LINE) o None) (cond-false _ _ _ (false_from_ne_true (told found) (λ test. other found (told_parts found test).spelled)))
      ∙ no_choice (nat_le (length line) MOST_LINE)

  pub roster_good : (roster : List (Option Share)) → length line ≤ MOST_LINE → is_roster shape roster ≡ true → line ≡ shares_text roster → same_roster roster before ≡ false → roster_of_line shape before line ≡ Some roster
  unfolding told
  roster_good roster fits is spelled another =
      let parts = roster_parts shape roster is in
      let found : map seat_read (drop 1 (words_of line)) ≡ roster = ap (λ l. map seat_read (drop 1 (words_of l))) spelled ∙ ap (λ ws. map seat_read (drop 1 ws)) (shares_words roster parts.within) ∙ seats_back roster parts.within in
      cond-true _ _ _ (le-leb (length line) MOST_LINE fits) ∙ ap (λ r. cond (told r) (Some r) None) found
      ∙ cond-true _ _ _ (and_from _ _ (and_from _ _ ((bytes_eq-Decides line (shares_text roster)).1 spelled) is) (ap not another))

  -- a line of a new roster has it, and a line of none has none
  pub line_of_roster : (roster : List (Option Share)) → length line ≤ MOST_LINE → length before ≡ shape.users → IsSharesLine shape before line roster → roster_of_line shape before line ≡ Some roster
  line_of_roster roster fits users is =
      roster_good roster fits (roster_from shape roster (record { many = is.told.many ∙ users; within = is.told.within; together = is.told.together })) is.spelled
      (false_from_ne_true _ (λ same. is.told.another ((same_roster-Decides roster before).0 same)))

  pub line_of_none : length line ≤ MOST_LINE → length before ≡ shape.users → IsNoSharesLine shape before line → roster_of_line shape before line ≡ None
  unfolding told
  line_of_none fits users none =
      let roster = map seat_read (drop 1 (words_of line)) in
      cond-true _ _ _ (le-leb (length line) MOST_LINE fits) ∙ cond-false _ _ _ (false_from_ne_true (told roster) (λ test.
      let is = told_parts roster test in
      let parts = roster_parts shape roster is.roster_is in
      none roster (record {
        spelled = is.spelled;
        told = record {
          many = parts.many ∙ sym users;
          within = parts.within;
          together = parts.together;
          another = λ same. true≢false (sym ((same_roster-Decides roster before).1 same) ∙ is.another);
        };
      })))

-- ---- how long a line is
seat_short : (seat : Option Share) → IsSeat seat → length (seat_text seat) ≤ 42
seat_short None is = omega arith
seat_short (Some share) is =
    let fair : length (decimal share.fair) ≤ 20 = decimal_short share.fair (omega (arith, is.fair)) in
    let floor : length (decimal share.floor) ≤ 20 = decimal_short share.floor (omega (arith, is.fair, is.floor)) in
    let long = length-append (decimal share.fair) (58 ∷ decimal share.floor) in
    omega arith

seats_short : (roster : List (Option Share)) → All IsSeat roster → length (flat_map seat_text roster) ≤ 42 * length roster
seats_short [] within = omega arith
seats_short (seat ∷ roster) within =
    let first : length (seat_text seat) ≤ 42 = seat_short seat (All-head IsSeat seat roster within) in
    let others : length (flat_map seat_text roster) ≤ 42 * length roster = seats_short roster (All-tail IsSeat seat roster within) in
    let long : length (seat_text seat ++ flat_map seat_text roster) ≡ length (seat_text seat) + length (flat_map seat_text roster) = length-append (seat_text seat) (flat_map seat_text roster) in
    omega arith

pub shares_fit : (roster : List (Option Share)) → length roster ≤ 1024 → All IsSeat roster → length (shares_text roster) ≤ MOST_LINE
unfolding shares_text
shares_fit roster few within =
    let short : length (flat_map seat_text roster) ≤ 42 * length roster = seats_short roster within in
    let long = length-append (codes "shares") (flat_map seat_text roster) in
    omega arith
