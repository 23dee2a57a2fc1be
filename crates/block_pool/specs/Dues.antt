-- Which slices are to change hands where users hold so many and are given so many.
use Rattle.std.specs.Prelude.{ℕ, ◌-◌, List, [], ◌++◌, length, replicate, slice_index}
use Rattle.std.specs.List.{flat_map, range_with_len}
use Rattle.block_pool.specs.declared.due.DueMove.{DueMove}
use Rattle.block_pool.specs.declared.due.DueMove.TheVariants.{Yield, Grant}

-- what contracts see of moves that are due
pub record DueView : Type 0 where
  -- there is room for twice so many moves
  pub slices : ℕ
  -- in the order in which they are due
  pub moves : List DueMove

abbrev pub no_moves : ℕ → DueView
no_moves slices = record { slices = slices; moves = [] }

abbrev pub users_of : List ℕ → List ℕ
users_of held = range_with_len 0 (length held)

-- a user that holds more than it is given yields the difference
abbrev pub yields_of : (held given : List ℕ) → ℕ → List DueMove
yields_of held given user = replicate (slice_index held user - slice_index given user) (Yield user)

-- and one that holds fewer is granted the difference
abbrev pub grants_of : (held given : List ℕ) → ℕ → List DueMove
grants_of held given user = replicate (slice_index given user - slice_index held user) (Grant user)

-- each user's in turn
unfoldable pub yields_due : (held given : List ℕ) → List DueMove
yields_due held given = flat_map (yields_of held given) (users_of held)

unfoldable pub grants_due : (held given : List ℕ) → List DueMove
grants_due held given = flat_map (grants_of held given) (users_of held)

-- all yields come before all grants
abbrev pub due_moves : (held given : List ℕ) → List DueMove
due_moves held given = yields_due held given ++ grants_due held given
