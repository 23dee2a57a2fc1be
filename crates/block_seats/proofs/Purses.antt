-- A table of held slices, seen as a purse.
use Rattle.std.proofs.Common.{◌≡◌, ℕ, zero, suc, ◌+◌, ◌<◌, Bool, true, false, not, ◌||◌, is_some, cond, List, [], ◌∷◌, length, filter, count_by, get_or, refl, ap, ◌∙◌, arith, Some, None}
use Rattle.std.specs.declared.option.Option.{Option}
use Rattle.std.specs.Option.{option_map_or}
use Rattle.std.proofs.lemmas.List.Sums.{length-filter}
use Rattle.id_set.proofs.Tables.{count_by-entries}
use Rattle.block_seats.specs.Tables.{entries_from, entries_of}
use Rattle.slice_seq.specs.Purses.{Held, Purse, is_used, open_slices, holds, has_block}
use Rattle.block_seats.specs.Purses.{lowest, place_of}

-- a block is in a slice where it has a place
pub has_block-place : (purse : Purse) (block : ℕ) → has_block purse block ≡ is_some (place_of purse block)
has_block-place [] block = refl
has_block-place (e ∷ purse) block = by (holds block e.1) (has_block-place purse block)
  where
    by : (b : Bool) → has_block purse block ≡ is_some (place_of purse block) → (b || has_block purse block) ≡ is_some (cond b (Some (e.0, e.1.number)) (place_of purse block))
    by true rest = refl
    by false rest = rest

-- whether a place of the table has a slice that passes a test, an open one, or one with this block
abbrev pub passes : (Held → Bool) → Option Held → Bool
passes test place = option_map_or test place false

abbrev pub open_at : Option Held → Bool
open_at place = passes (λ held. not (is_used held)) place

abbrev pub holds_at : ℕ → Option Held → Bool
holds_at block place = passes (holds block) place

-- the slices of a table that pass a test
module _ (test : Held → Bool) where
  abbrev passing : ℕ → List (Option Held) → Purse
  passing from xs = filter (λ (e : ℕ × Held). test e.1) (entries_from from xs)

  lowest_from : (from : ℕ) (xs : List (Option Held)) (i : ℕ) (held : Held) → ((j : ℕ) → j < i → passes test (get_or xs j None) ≡ false) → get_or xs i None ≡ Some held → test held ≡ true
      → lowest (passing from xs) ≡ Some (from + i, held)
  lowest_from from [] i held before here is = cc
  lowest_from from (None ∷ xs) zero held before here is = cc
  lowest_from from (Some h ∷ xs) zero held before here is =
      let same : h ≡ held = cc in
      let passed : test h ≡ true = ap test same ∙ is in
      let rest : Purse = passing (from + 1) xs in
      ap (λ b. lowest (cond b ((from, h) ∷ rest) rest)) passed ∙ ap (λ g. Some (from, g)) same ∙ ap (λ n. Some (n, held)) (let e : from ≡ from + zero = omega arith in e)
  lowest_from from (None ∷ xs) (suc i) held before here is =
      lowest_from (from + 1) xs i held (λ j l. before (suc j) (omega arith)) here is ∙ ap (λ n. Some (n, held)) (let e : from + 1 + i ≡ from + suc i = omega arith in e)
  lowest_from from (Some h ∷ xs) (suc i) held before here is =
      let failed : test h ≡ false = before zero (omega arith) in
      let rest : Purse = passing (from + 1) xs in
      ap (λ b. lowest (cond b ((from, h) ∷ rest) rest)) failed
      ∙ lowest_from (from + 1) xs i held (λ j l. before (suc j) (omega arith)) here is ∙ ap (λ n. Some (n, held)) (let e : from + 1 + i ≡ from + suc i = omega arith in e)

  -- the lowest of them
  pub lowest_passing : (xs : List (Option Held)) (i : ℕ) (held : Held) → ((j : ℕ) → j < i → passes test (get_or xs j None) ≡ false) → get_or xs i None ≡ Some held → test held ≡ true
      → lowest (passing 0 xs) ≡ Some (i, held)
  lowest_passing xs i held before here is = lowest_from 0 xs i held before here is ∙ ap (λ n. Some (n, held)) (let e : 0 + i ≡ i = omega arith in e)

  -- where there is none, no place passes
  none_from : (from : ℕ) (xs : List (Option Held)) → lowest (passing from xs) ≡ None → (j : ℕ) → passes test (get_or xs j None) ≡ false
  none_from from [] none j = refl
  none_from from (None ∷ xs) none zero = refl
  none_from from (None ∷ xs) none (suc j) = none_from (from + 1) xs none j
  none_from from (Some h ∷ xs) none zero =
      let rest : Purse = passing (from + 1) xs in
      elim (test h) as (λ b. lowest (cond b ((from, h) ∷ rest) rest) ≡ None → b ≡ false) [ true ↦ λ e. cc | false ↦ λ e. refl ] none
  none_from from (Some h ∷ xs) none (suc j) =
      let rest : Purse = passing (from + 1) xs in
      let others : lowest rest ≡ None = elim (test h) as (λ b. lowest (cond b ((from, h) ∷ rest) rest) ≡ None → lowest rest ≡ None) [ true ↦ λ e. cc | false ↦ λ e. e ] none in
      none_from (from + 1) xs others j

  pub none_passing : (xs : List (Option Held)) → lowest (passing 0 xs) ≡ None → (j : ℕ) → passes test (get_or xs j None) ≡ false
  none_passing xs none j = none_from 0 xs none j

  pub length-passing : (xs : List (Option Held)) → length (passing 0 xs) ≡ count_by (passes test) xs
  length-passing xs = length-filter (λ (e : ℕ × Held). test e.1) (entries_of xs) ∙ count_by-entries test 0 xs

pub lowest_none : {X : Type 0} (es : List (ℕ × X)) → length es ≡ 0 → lowest es ≡ None
lowest_none [] none = refl
lowest_none (e ∷ es) none = absurd (omega arith)

-- the lowest open slice of the table
pub lowest-open : (xs : List (Option Held)) (i : ℕ) (held : Held) → ((j : ℕ) → j < i → open_at (get_or xs j None) ≡ false) → get_or xs i None ≡ Some held → is_used held ≡ false
    → lowest (open_slices (entries_of xs)) ≡ Some (i, held)
lowest-open xs i held before here free = lowest_passing (λ h. not (is_used h)) xs i held before here (ap not free)

pub length-open : (xs : List (Option Held)) → length (open_slices (entries_of xs)) ≡ count_by open_at xs
length-open xs = length-passing (λ h. not (is_used h)) xs

place_from : (from : ℕ) (xs : List (Option Held)) (i block : ℕ) (held : Held) → ((j : ℕ) → j < i → holds_at block (get_or xs j None) ≡ false) → get_or xs i None ≡ Some held → holds block held ≡ true
    → place_of (entries_from from xs) block ≡ Some (from + i, held.number)
place_from from [] i block held before here is = cc
place_from from (None ∷ xs) zero block held before here is = cc
place_from from (Some h ∷ xs) zero block held before here is =
    let same : h ≡ held = cc in
    let test : holds block h ≡ true = ap (holds block) same ∙ is in
    ap (λ b. cond b (Some (from, h.number)) (place_of (entries_from (from + 1) xs) block)) test ∙ ap (λ (g : Held). Some (from, g.number)) same ∙ ap (λ n. Some (n, held.number)) (let e : from ≡ from + zero = omega arith in e)
place_from from (None ∷ xs) (suc i) block held before here is =
    place_from (from + 1) xs i block held (λ j l. before (suc j) (omega arith)) here is ∙ ap (λ n. Some (n, held.number)) (let e : from + 1 + i ≡ from + suc i = omega arith in e)
place_from from (Some h ∷ xs) (suc i) block held before here is =
    let other : holds block h ≡ false = before zero (omega arith) in
    ap (λ b. cond b (Some (from, h.number)) (place_of (entries_from (from + 1) xs) block)) other
    ∙ place_from (from + 1) xs i block held (λ j l. before (suc j) (omega arith)) here is ∙ ap (λ n. Some (n, held.number)) (let e : from + 1 + i ≡ from + suc i = omega arith in e)

-- the one slice of the table that has a block
pub place-entries : (xs : List (Option Held)) (i block : ℕ) (held : Held) → ((j : ℕ) → j < i → holds_at block (get_or xs j None) ≡ false) → get_or xs i None ≡ Some held → holds block held ≡ true
    → place_of (entries_of xs) block ≡ Some (i, held.number)
place-entries xs i block held before here is = place_from 0 xs i block held before here is ∙ ap (λ n. Some (n, held.number)) (let e : 0 + i ≡ i = omega arith in e)

no_place_from : (from : ℕ) (xs : List (Option Held)) (block : ℕ) → ((j : ℕ) → holds_at block (get_or xs j None) ≡ false) → place_of (entries_from from xs) block ≡ None
no_place_from from [] block none = refl
no_place_from from (None ∷ xs) block none = no_place_from (from + 1) xs block (λ j. none (suc j))
no_place_from from (Some h ∷ xs) block none =
    ap (λ b. cond b (Some (from, h.number)) (place_of (entries_from (from + 1) xs) block)) (none zero) ∙ no_place_from (from + 1) xs block (λ j. none (suc j))

pub no_place-entries : (xs : List (Option Held)) (block : ℕ) → ((j : ℕ) → holds_at block (get_or xs j None) ≡ false) → place_of (entries_of xs) block ≡ None
no_place-entries xs block none = no_place_from 0 xs block none
