-- What contracts see of a home.
use Rattle.std.specs.Prelude.{ℕ, min}
use Rattle.block_seats.specs.Seatings.{SeatingView, open_of, spare_of}

-- whose home it is, its blocks and slices, and the store. Whether what is parked there is told, the store says
pub record HomeView (K : Type 0) : Type 0 where
  pub user : ℕ
  pub seats : SeatingView
  pub shelf : K

-- how many new blocks can be placed: there are slices and numbers for them
abbrev pub room_of : SeatingView → ℕ
room_of seats = min (open_of seats) (spare_of seats)
