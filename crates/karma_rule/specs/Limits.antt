-- The limits of a shape's numbers.
use Rattle.std.specs.Prelude.{◌≡◌, ℕ, ◌*◌, ◌<◌, ◌≤◌}
use Rattle.karma_rule.specs.declared.shape.Shape.{Shape}
use Rattle.karma_rule.specs.declared.limits.TheConstants.{MOST_USERS, MOST_FAIR, MOST_CREDITS, LEAST_SLICE, MOST_SLICE, MOST_BYTES, MOST_ROOM}

abbrev pub shape_of : ℕ → ℕ → ℕ → ℕ → ℕ → Shape
shape_of users fair floor credits slice = record { users = users; share = record { fair = fair; floor = floor }; credits = credits; slice = slice }

-- what is limited
pub data Limit : Type 0 where
  Users Fair Floor Credits Slice Products : Limit

-- Limits are numbered in the order in which they are tested.
abbrev pub place_of : Limit → ℕ
place_of Users = 1
place_of Fair = 2
place_of Floor = 3
place_of Credits = 4
place_of Slice = 5
place_of Products = 6

-- The products are the bytes of all slices, and the room for slices that all users reserve, each for every slice.
abbrev pub IsWithin : Limit → Shape → Type 0
IsWithin Users shape = (1 ≤ shape.users) × (shape.users ≤ MOST_USERS)
IsWithin Fair shape = (1 ≤ shape.share.fair) × (shape.share.fair ≤ MOST_FAIR)
IsWithin Floor shape = shape.share.floor ≤ shape.share.fair
IsWithin Credits shape = shape.credits ≤ MOST_CREDITS
IsWithin Slice shape = (LEAST_SLICE ≤ shape.slice) × (shape.slice ≤ MOST_SLICE)
IsWithin Products shape = (shape.users * shape.share.fair * shape.slice ≤ MOST_BYTES) × (shape.users * shape.users * shape.share.fair ≤ MOST_ROOM)

-- within the limits of a plan, which only counts slices
pub record IsPlan (shape : Shape) : Type 0 where
  pub users : IsWithin Users shape
  pub fair : IsWithin Fair shape
  pub floor : IsWithin Floor shape
  pub credits : IsWithin Credits shape

-- within the limits of a store, whose slices are buffers
pub record IsStore (shape : Shape) : Type 0 where
  pub plan : IsPlan shape
  pub slice : IsWithin Slice shape
  pub products : IsWithin Products shape

-- the place is that of a limit that is broken, and no earlier one is
pub record IsFirstBroken (shape : Shape) (place : ℕ) : Type 0 where
  pub limit : Limit
  pub named : place_of limit ≡ place
  pub broken : ¬ IsWithin limit shape
  pub earlier : (other : Limit) → place_of other < place → IsWithin other shape
