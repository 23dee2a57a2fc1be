-- The leases of names, and the search tree that keeps them.
use Rattle.std.specs.Prelude.{◌≡◌, ℕ, ◌^◌, ◌-◌, max, min, nat_lt, not, Bool, true, false, ◌&&◌, List, [], ◌∷◌, ◌++◌, map, Box, if◌then◌else◌, Some, None}
use Rattle.std.specs.declared.option.Option.{Option}
use Rattle.std.specs.declared.alloc.Global.{Global}
use Rattle.std.specs.declared.cmp.Ordering.TheVariants.{Less}
use Rattle.std.specs.Option.{option_map, option_map_or, option_or}
use Rattle.std.specs.List.{AllByRecursion, filter, find}
use Rattle.far_words.specs.Paths.{bytes_cmp}
use Rattle.lease_tree.specs.Under.{is_same, is_past, is_before}
use Rattle.lease_tree.specs.declared.lease.Lease.{Lease}
use Rattle.lease_tree.specs.declared.lease.Change.{Change}
use Rattle.lease_tree.specs.declared.lease.Change.TheVariants.{Raise, Settle, Wake}
use Rattle.lease_tree.specs.declared.leases.Knot.{Knot}

-- names with their leases, in the order of the names
abbrev pub Ends : Type 0
Ends = List (List ℕ × Lease)

-- the moment after which there is something to do. A settled lease has none
abbrev pub due_of : Lease → ℕ
due_of lease = if lease.settled then 2 ^ 64 - 1 else lease.end

-- whether a moment is past at another. Without that other it is
abbrev pub is_reached : Option ℕ → ℕ → Bool
is_reached now due = option_map_or (λ m. nat_lt due m) now true

abbrev pub is_due : Option ℕ → Lease → Bool
is_due now lease = is_reached now (due_of lease)

-- a later end stays
abbrev pub changed : Change → Lease → Lease
changed (Raise end) lease = record { end = max lease.end end; settled = lease.settled }
changed Settle lease = record { end = lease.end; settled = true }
changed Wake lease = record { end = lease.end; settled = false }

-- each value whose name passes the test is another one
abbrev pub changed_where : {X : Type 0} → (List ℕ → Bool) → (X → X) → List (List ℕ × X) → List (List ℕ × X)
changed_where test f names = map (λ e. (e.0, if test e.0 then f e.1 else e.1)) names

abbrev pub without : {X : Type 0} → List ℕ → List (List ℕ × X) → List (List ℕ × X)
without path names = filter (λ e. not (is_same path e.0)) names

-- the last of the list that passes
abbrev pub find_last : {X : Type 0} → (X → Bool) → List X → Option X
find_last test [] = None
find_last test (x ∷ xs) = option_or (find_last test xs) (if test x then Some x else None)

-- a name after a text whose lease is due
abbrev pub is_wanted : Option (List ℕ) → Option ℕ → List ℕ × Lease → Bool
is_wanted after now e = is_past after e.0 && is_due now e.1

abbrev pub first_wanted : Option (List ℕ) → Option ℕ → Ends → Option (List ℕ)
first_wanted after now ends = option_map (λ e. e.0) (find (is_wanted after now) ends)

abbrev pub last_before : {X : Type 0} → List ℕ → List (List ℕ × X) → Option (List ℕ)
last_before text names = option_map (λ e. e.0) (find_last (λ e. is_before text e.0) names)

abbrev pub least_due : Ends → ℕ
least_due [] = 2 ^ 64 - 1
least_due (e ∷ es) = min (due_of e.1) (least_due es)

abbrev pub AreBelow : {X : Type 0} → List ℕ → List (List ℕ × X) → Type 0
AreBelow path names = AllByRecursion (λ e. bytes_cmp e.0 path ≡ Less) names

abbrev pub AreAbove : {X : Type 0} → List ℕ → List (List ℕ × X) → Type 0
AreAbove path names = AllByRecursion (λ e. bytes_cmp path e.0 ≡ Less) names

-- a name stands between those at its left and those at its right
pub record IsBetween {X : Type 0} (path : List ℕ) (left right : List (List ℕ × X)) : Type 0 where
  pub below : AreBelow path left
  pub above : AreAbove path right

abbrev pub entry_of : Knot → List ℕ × Lease
entry_of knot = (knot.path, knot.lease)

-- the names at the left, the knot's, and those at the right
abbrev pub entries_of : Option (Box Knot Global) → Ends
entries_of None = []
entries_of (Some knot) = knot.value.left ++ entry_of knot.value ∷ knot.value.right

-- a knot stands between its sides, and tells the least moment that is due among them and itself
pub record IsTied (knot : Knot) : Type 0 where
  pub between : IsBetween knot.path knot.left knot.right
  pub least : knot.least ≡ least_due (knot.left ++ entry_of knot ∷ knot.right)

abbrev pub IsWell : Option (Box Knot Global) → Type 0
IsWell None = Unit {0}
IsWell (Some knot) = IsTied knot.value
