-- The amounts at a fitting level are a spread in order.
use Rattle.std.proofs.Common.{◌≡◌, ◌≢◌, ℕ, zero, suc, ◌+◌, ◌-◌, ◌<◌, ◌≤◌, ◌⊎◌, inl, inr, Bool, true, false, ◌&&◌, nat_lt, ◌==◌, cond, List, [], ◌∷◌, length, get_or, sum, refl, ap, ◌∙◌, arith}
use Rattle.std.specs.List.{sum_by, All}
use Rattle.std.proofs.lemmas.List.Sums.{sum_by-cons}
use Rattle.std.proofs.lemmas.Bool.{cases_lt, cases_eq}
use Rattle.std.proofs.lemmas.Bool.Decides.{nat_tests}
use Rattle.karma_rule.specs.declared.row.Row.{Row}
use Rattle.karma_batch.specs.declared.side.Side.{Side}
use Rattle.karma_rule.specs.Laws.{row_at}
use Rattle.karma_batch.specs.Levels.{key_of, movable_of, above, is_at_level, extra, amount, amounts, IsSpread}
use Rattle.karma_rule.proofs.Ends.{sum_by-le-all}

abbrev num_at : List ℕ → ℕ → ℕ
num_at numbers place = get_or numbers place 0

module _ (side : Side) (level : ℕ) where
  abbrev room : Row → ℕ
  room row = movable_of side row

  abbrev key : Row → ℕ
  key row = key_of side row

  abbrev part : Row → ℕ
  part row = above side level row

  abbrev AtLevel : Row → Type 0
  AtLevel row = (part row < room row) × (key row - part row ≡ level)

  -- one more is taken exactly where some are left and the row is at the level
  pub data Taken (rest : ℕ) (row : Row) : Type 0 where
    no_more : extra side level rest row ≡ 0 → (0 < rest → AtLevel row → ⊥) → Taken rest row
    one_more : extra side level rest row ≡ 1 → 0 < rest → AtLevel row → Taken rest row

  at_level_if : (moved most height line : ℕ) → (nat_lt moved most && (height - moved == line)) ≡ true → (moved < most) × (height - moved ≡ line)
  at_level_if moved most height line test = (grind (arith, nat_tests), grind (arith, nat_tests))

  at_level_test : (moved most height line : ℕ) → moved < most → height - moved ≡ line → (nat_lt moved most && (height - moved == line)) ≡ true
  at_level_test moved most height line less same = grind (arith, nat_tests)

  taken_by : (rest : ℕ) (row : Row) (any here : Bool) → nat_lt 0 rest ≡ any → is_at_level side level row ≡ here → Taken rest row
  taken_by rest row true true any_is here_is =
      one_more (ap (λ test. cond (test && is_at_level side level row) 1 0) any_is ∙ ap (λ test. cond test 1 0) here_is) (grind (arith, nat_tests)) (at_level_if (part row) (room row) (key row) level here_is)
  taken_by rest row true false any_is here_is =
      no_more (ap (λ test. cond (test && is_at_level side level row) 1 0) any_is ∙ ap (λ test. cond test 1 0) here_is) (λ left stands. clash (at_level_test (part row) (room row) (key row) level stands.0 stands.1) here_is)
    where
      clash : {value : Bool} → value ≡ true → value ≡ false → ⊥
      clash any here = cc
  taken_by rest row false here any_is here_is =
      no_more (ap (λ test. cond (test && is_at_level side level row) 1 0) any_is) (λ left stands. absurd (no_rest rest any_is left))
    where
      no_rest : (number : ℕ) → nat_lt 0 number ≡ false → 0 < number → ⊥
      no_rest number none more = grind (arith, nat_tests)

  taken : (rest : ℕ) (row : Row) → Taken rest row
  taken rest row = taken_by rest row (nat_lt 0 rest) (is_at_level side level row) refl refl

  extra_le : (rest : ℕ) (row : Row) → extra side level rest row ≤ rest
  extra_le rest row = extra_le_by (taken rest row)
    where
      extra_le_by : Taken rest row → extra side level rest row ≤ rest
      extra_le_by (no_more extra_is _) = omega arith
      extra_le_by (one_more extra_is left _) = omega arith

  length-amounts : (rest : ℕ) (rows : List Row) → length (amounts side level rest rows) ≡ length rows
  length-amounts rest [] = refl
  length-amounts rest (x ∷ xs) = ap suc (length-amounts (rest - extra side level rest x) xs)

  -- each amount is the part above the level, or one more at the level
  abbrev IsPart : ℕ → Row → Type 0
  IsPart count row = (count ≡ part row) ⊎ ((count ≡ part row + 1) × AtLevel row)

  amount_is : (rest : ℕ) (row : Row) → IsPart (amount side level rest row) row
  amount_is rest row = amount_is_by (taken rest row)
    where
      amount_is_by : Taken rest row → IsPart (amount side level rest row) row
      amount_is_by (no_more extra_is _) = inl (omega arith)
      amount_is_by (one_more extra_is _ stands) = inr (omega arith, stands)

  each_part : (rest : ℕ) (rows : List Row) (place : ℕ) → place < length rows → IsPart (num_at (amounts side level rest rows) place) (row_at rows place)
  each_part rest [] place inside = absurd (omega arith)
  each_part rest (x ∷ xs) zero inside = amount_is rest x
  each_part rest (x ∷ xs) (suc place) inside = each_part (rest - extra side level rest x) xs place (omega arith)

  -- one more was taken only while some were left
  rest_left : (rest : ℕ) (rows : List Row) (place : ℕ) → place < length rows → num_at (amounts side level rest rows) place ≡ part (row_at rows place) + 1 → 0 < rest
  rest_left rest [] place inside took = absurd (omega arith)
  rest_left rest (x ∷ xs) zero inside took = rest_left_by (taken rest x)
    where
      rest_left_by : Taken rest x → 0 < rest
      rest_left_by (no_more extra_is _) = absurd (omega arith)
      rest_left_by (one_more _ left _) = left
  rest_left rest (x ∷ xs) (suc place) inside took =
      let left : 0 < rest - extra side level rest x = rest_left (rest - extra side level rest x) xs place (omega arith) took in
      omega arith

  -- so that whoever stands before, at the level, took one more
  before_too : (rest : ℕ) (rows : List Row) (place other : ℕ) → place < length rows → other < place → num_at (amounts side level rest rows) place ≡ part (row_at rows place) + 1 → AtLevel (row_at rows other) → num_at (amounts side level rest rows) other ≡ part (row_at rows other) + 1
  before_too rest [] place other inside before took stands = absurd (omega arith)
  before_too rest (x ∷ xs) zero other inside before took stands = absurd (omega arith)
  before_too rest (x ∷ xs) (suc place) zero inside before took stands =
      let some : 0 < rest - extra side level rest x = rest_left (rest - extra side level rest x) xs place (omega arith) took in
      first_too (taken rest x) (omega arith)
    where
      first_too : Taken rest x → 0 < rest → amount side level rest x ≡ part x + 1
      first_too (no_more _ none) left = absurd (none left stands)
      first_too (one_more extra_is _ _) left = omega arith
  before_too rest (x ∷ xs) (suc place) (suc other) inside before took stands = before_too (rest - extra side level rest x) xs place other (omega arith) (omega arith) took stands

  -- ---- the sum
  abbrev final : ℕ → List Row → ℕ
  final rest [] = rest
  final rest (x ∷ xs) = final (rest - extra side level rest x) xs

  sum-amounts : (rest : ℕ) (rows : List Row) → sum (amounts side level rest rows) + final rest rows ≡ sum_by part rows + rest
  sum-amounts rest [] = omega arith
  sum-amounts rest (x ∷ xs) =
      let less : extra side level rest x ≤ rest = extra_le rest x in
      let tail : sum (amounts side level (rest - extra side level rest x) xs) + final (rest - extra side level rest x) xs ≡ sum_by part xs + (rest - extra side level rest x) = sum-amounts (rest - extra side level rest x) xs in
      omega (arith, sum_by-cons part x xs, sum_by-cons (λ (number : ℕ). number) (amount side level rest x) (amounts side level (rest - extra side level rest x) xs))

  final_le : (rest : ℕ) (rows : List Row) → final rest rows ≤ rest
  final_le rest [] = omega arith
  final_le rest (x ∷ xs) = let tail : final (rest - extra side level rest x) xs ≤ rest - extra side level rest x = final_le (rest - extra side level rest x) xs in omega arith

  one_lower : (row : Row) → 0 < level → (above side (level - 1) row ≤ part row) ⊎ ((above side (level - 1) row ≡ part row + 1) × AtLevel row)
  one_lower row some = one_lower_by (cases_lt (key row) level) (cases_lt (key row - level) (room row))
    where
      one_lower_by : (key row < level) ⊎ (level ≤ key row) → (key row - level < room row) ⊎ (room row ≤ key row - level) → (above side (level - 1) row ≤ part row) ⊎ ((above side (level - 1) row ≡ part row + 1) × AtLevel row)
      one_lower_by (inl below) roomy = inl (omega arith)
      one_lower_by (inr below) (inr roomy) = inl (omega arith)
      one_lower_by (inr below) (inl roomy) = inr (omega arith, (omega arith, omega arith))

  -- where some are left in the end, everyone at the level took one more
  lower_covered : (rest : ℕ) (rows : List Row) → 0 < level → 0 < final rest rows → sum_by (above side (level - 1)) rows ≤ sum (amounts side level rest rows)
  lower_covered rest [] some still = omega arith
  lower_covered rest (x ∷ xs) some still =
      let tail : sum_by (above side (level - 1)) xs ≤ sum (amounts side level (rest - extra side level rest x) xs) = lower_covered (rest - extra side level rest x) xs some still in
      let less : final (rest - extra side level rest x) xs ≤ rest - extra side level rest x = final_le (rest - extra side level rest x) xs in
      let head : above side (level - 1) x ≤ amount side level rest x = head_covered (one_lower x some) (taken rest x) (omega arith) in
      omega (arith, sum_by-cons (above side (level - 1)) x xs, sum_by-cons (λ (number : ℕ). number) (amount side level rest x) (amounts side level (rest - extra side level rest x) xs))
    where
      head_covered : (above side (level - 1) x ≤ part x) ⊎ ((above side (level - 1) x ≡ part x + 1) × AtLevel x) → Taken rest x → 0 < rest → above side (level - 1) x ≤ amount side level rest x
      head_covered (inl lower) took left = omega arith
      head_covered (inr lower) (no_more _ none) left = absurd (none left lower.1)
      head_covered (inr lower) (one_more extra_is _ _) left = let lower_is : above side (level - 1) x ≡ part x + 1 = lower.0 in omega arith

  -- ---- the order
  -- who could move one more is at the level or below it
  below_level : (count : ℕ) (row : Row) → IsPart count row → count < room row → key row - count ≤ level
  below_level count row (inl is_part) fewer = omega arith
  below_level count row (inr one_above) fewer = let is_part : count ≡ part row + 1 = one_above.0 in let stands : key row - part row ≡ level = one_above.1.1 in omega arith

  -- who moved one is at most one below the level
  near_level : (count : ℕ) (row : Row) → IsPart count row → 0 < count → level ≤ (key row - count) + 1
  near_level count row (inl is_part) some = omega arith
  near_level count row (inr one_above) some = let is_part : count ≡ part row + 1 = one_above.0 in let stands : key row - part row ≡ level = one_above.1.1 in omega arith

  -- i before j: j < i, and i moved one
  tied_level : (first_count second_count : ℕ) (first second : Row) → room second ≤ key second → IsPart first_count first → IsPart second_count second → (second_count ≡ part second + 1 → AtLevel first → first_count ≡ part first + 1) → 0 < second_count → first_count < room first → key first - first_count ≤ key second - second_count
  tied_level first_count second_count first second fits first_part (inl is_part) too moved could = let low : key first - first_count ≤ level = below_level first_count first first_part could in omega arith
  tied_level first_count second_count first second fits (inr first_one) (inr second_one) too moved could =
      let first_is : first_count ≡ part first + 1 = first_one.0 in
      let first_at : key first - part first ≡ level = first_one.1.1 in
      let second_is : second_count ≡ part second + 1 = second_one.0 in
      let second_at : key second - part second ≡ level = second_one.1.1 in
      let second_room : part second < room second = second_one.1.0 in
      omega arith
  tied_level first_count second_count first second fits (inl is_part) (inr second_one) too moved could = tied_by (cases_eq (key first - part first) level)
    where
      tied_by : (key first - part first ≡ level) ⊎ (key first - part first ≢ level) → key first - first_count ≤ key second - second_count
      tied_by (inl at) =
          let more : first_count ≡ part first + 1 = too second_one.0 (omega arith, at) in
          absurd (omega arith)
      tied_by (inr off) =
          let second_is : second_count ≡ part second + 1 = second_one.0 in
          let second_at : key second - part second ≡ level = second_one.1.1 in
          let second_room : part second < room second = second_one.1.0 in
          let low : key first - first_count ≤ level = below_level first_count first (inl is_part) could in
          let under : key first - part first < level = lt_of (key first - part first) level (omega arith) off in
          omega arith
        where
          lt_of : (low high : ℕ) → low ≤ high → low ≢ high → low < high
          lt_of low high within apart = omega arith

  within_room : (count : ℕ) (row : Row) → IsPart count row → count ≤ room row
  within_room count row (inl is_part) = omega arith
  within_room count row (inr one_above) = let is_part : count ≡ part row + 1 = one_above.0 in let roomy : part row < room row = one_above.1.0 in omega arith

  total_is : (count : ℕ) (rows : List Row) → All (λ row. room row ≤ key row) rows → count ≤ sum_by room rows → sum_by part rows ≤ count → (0 < level → count < sum_by (above side (level - 1)) rows) → sum (amounts side level (count - sum_by part rows) rows) ≡ count
  total_is count rows bounded enough fits tight = total_by (cases_lt 0 (final (count - sum_by part rows) rows)) (cases_lt 0 level)
    where
      total_by : (0 < final (count - sum_by part rows) rows) ⊎ (final (count - sum_by part rows) rows ≤ 0) → (0 < level) ⊎ (level ≤ 0) → sum (amounts side level (count - sum_by part rows) rows) ≡ count
      total_by (inr none) any = omega (arith, sum-amounts (count - sum_by part rows) rows)
      total_by (inl some) (inl low_level) =
          let covered : sum_by (above side (level - 1)) rows ≤ sum (amounts side level (count - sum_by part rows) rows) = lower_covered (count - sum_by part rows) rows low_level some in
          let more : count < sum_by (above side (level - 1)) rows = tight low_level in
          absurd (omega (arith, sum-amounts (count - sum_by part rows) rows))
      total_by (inl some) (inr low_level) =
          let all : sum_by room rows ≤ sum_by part rows = sum_by-le-all room part rows (λ place default inside. (let bound : room (get_or rows place default) ≤ key (get_or rows place default) = bounded place default inside in omega arith)) in
          let less : final (count - sum_by part rows) rows ≤ count - sum_by part rows = final_le (count - sum_by part rows) rows in
          absurd (omega arith)

  pub spread_is : (count : ℕ) (rows : List Row) → All (λ row. room row ≤ key row) rows → count ≤ sum_by room rows → sum_by part rows ≤ count → (0 < level → count < sum_by (above side (level - 1)) rows) → IsSpread side count rows (amounts side level (count - sum_by part rows) rows)
  spread_is count rows bounded enough fits tight =
      let rest : ℕ = count - sum_by part rows in
      record {
        same_length = length-amounts rest rows;
        total = total_is count rows bounded enough fits tight;
        within = λ place inside. within_room _ (row_at rows place) (each_part rest rows place inside);
        order = λ mover other mover_in other_in moved could.
            (let low : key (row_at rows other) - num_at (amounts side level rest rows) other ≤ level = below_level _ (row_at rows other) (each_part rest rows other other_in) could in
            let near : level ≤ (key (row_at rows mover) - num_at (amounts side level rest rows) mover) + 1 = near_level _ (row_at rows mover) (each_part rest rows mover mover_in) moved in
            omega arith);
        tied = λ mover other mover_in before moved could.
            tied_level _ _ (row_at rows other) (row_at rows mover) (bounded mover _ mover_in) (each_part rest rows other (omega arith)) (each_part rest rows mover mover_in) (λ took stands. before_too rest rows mover other mover_in before took stands) moved could;
      }
