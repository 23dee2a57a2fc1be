-- A finite map from numbers is the list of its entries in the order of the numbers: `find nat_cmp` looks a number up,
-- and `put nat_cmp` sets it. A table, with a place for each number, is seen as such a map.
use Rattle.std.specs.Prelude.{ℕ, ◌+◌, not, List, [], ◌∷◌, Some, None}
use Rattle.std.specs.declared.option.Option.{Option}
use Rattle.std.specs.Ordering.{nat_cmp, eq_by_cmp}
use Rattle.std.specs.FinMap.Entries.{where_key}

-- what stands in a table whose first place has the number `from`
abbrev pub entries_from : {X : Type 0} → ℕ → List (Option X) → List (ℕ × X)
entries_from from [] = []
entries_from from (None ∷ xs) = entries_from (from + 1) xs
entries_from from (Some x ∷ xs) = (from, x) ∷ entries_from (from + 1) xs

abbrev pub entries_of : {X : Type 0} → List (Option X) → List (ℕ × X)
entries_of xs = entries_from 0 xs

-- the map without a number
abbrev pub without : {X : Type 0} → ℕ → List (ℕ × X) → List (ℕ × X)
without number es = where_key nat_cmp (λ other. not (eq_by_cmp nat_cmp number other)) es
