-- The rows of a quantum and its roster, user by user.
use Rattle.std.proofs.Common.{◌≡◌, ℕ, ◌+◌, ◌<◌, ◌≤◌, if◌then◌else◌, Bool, true, false, List, length, get_or, take, Option, Some, None, is_some, refl, sym, ap, ◌∙◌, arith}
use mathlib.Core.Bool.{true≢false, false≢true}
use Rattle.std.specs.List.{sum_by, zip}
use Rattle.std.proofs.lemmas.List.{take_all}
use Rattle.std.proofs.lemmas.List.Sums.{sum_by_more}
use Rattle.std.proofs.lemmas.Slice.Zip.{get_or-zip, length-zip}
use Rattle.karma_rule.specs.declared.row.Row.{Row}
use Rattle.karma_rule.specs.declared.row.Share.{Share}
use Rattle.demand_book.specs.Book.{blank_row}
use Rattle.demand_book.specs.Roster.{stays, of_stayers}

abbrev pub seat_at : List (Option Share) → ℕ → Option Share
seat_at roster user = get_or roster user None

abbrev pub row_of_user : List Row → ℕ → Row
row_of_user rows user = get_or rows user blank_row

-- what a read of a pair gives
abbrev pub no_pair : Row × Option Share
no_pair = (blank_row, None)

-- a number of those who stay, among the first users
abbrev pub so_far : List Row → List (Option Share) → (Row → ℕ) → ℕ → ℕ
so_far rows roster number user = sum_by (λ pair. if stays pair.0 pair.1 then number pair.0 else 0) (take user (zip rows roster))

abbrev number_in : Option ℕ → ℕ
number_in None = 0
number_in (Some number) = number

-- what a kept number says of who stays
pub kept_is : (on : Bool) (kept credits : ℕ) → Some kept ≡ (if on then Some credits else None) → (on ≡ true) × (kept ≡ credits)
kept_is true kept credits same = (refl, ap number_in same)
kept_is false kept credits same = absurd (true≢false (ap is_some same))

pub goes_is : (on : Bool) (credits : ℕ) → None ≡ (if on then Some credits else None) → on ≡ false
goes_is true credits same = absurd (false≢true (ap is_some same))
goes_is false credits same = refl

module _ (rows : List Row) (roster : List (Option Share)) (same_length : length rows ≡ length roster) where
  pub pair_at : (user : ℕ) → user < length rows → get_or (zip rows roster) user no_pair ≡ (row_of_user rows user, seat_at roster user)
  pair_at user inside = get_or-zip rows roster user no_pair inside (omega arith)

  pub pairs : length (zip rows roster) ≡ length rows
  pairs = length-zip rows roster ∙ omega arith

  one_more : (number : Row → ℕ) (user : ℕ) → user < length rows → so_far rows roster number (user + 1) ≡ so_far rows roster number user + (if stays (row_of_user rows user) (seat_at roster user) then number (row_of_user rows user) else 0)
  one_more number user inside =
      sum_by_more (λ pair. if stays pair.0 pair.1 then number pair.0 else 0) (zip rows roster) user no_pair (omega (arith, pairs))
      ∙ ap (λ pair. so_far rows roster number user + (if stays pair.0 pair.1 then number pair.0 else 0)) (pair_at user inside)

  pub one_stays : (number : Row → ℕ) (user sum : ℕ) → user < length rows → stays (row_of_user rows user) (seat_at roster user) ≡ true → sum ≡ so_far rows roster number user → sum + number (row_of_user rows user) ≡ so_far rows roster number (user + 1)
  one_stays number user sum inside stays_on is_sum =
      ap (λ before. before + number (row_of_user rows user)) is_sum
      ∙ ap (λ on. so_far rows roster number user + (if on then number (row_of_user rows user) else 0)) (sym stays_on) ∙ sym (one_more number user inside)

  pub one_goes : (number : Row → ℕ) (user sum : ℕ) → user < length rows → stays (row_of_user rows user) (seat_at roster user) ≡ false → sum ≡ so_far rows roster number user → sum ≡ so_far rows roster number (user + 1)
  one_goes number user sum inside goes is_sum =
      let added : so_far rows roster number (user + 1) ≡ so_far rows roster number user + 0 = one_more number user inside ∙ ap (λ on. so_far rows roster number user + (if on then number (row_of_user rows user) else 0)) goes in
      omega arith

  -- among all users
  pub all_so_far : (number : Row → ℕ) (user : ℕ) → length rows ≤ user → so_far rows roster number user ≡ of_stayers number rows roster
  all_so_far number user past = ap (λ list. sum_by (λ pair. if stays pair.0 pair.1 then number pair.0 else 0) list) (take_all user (zip rows roster) (omega (arith, pairs)))
