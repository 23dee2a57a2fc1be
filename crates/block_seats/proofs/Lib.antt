-- a table of held slices, seen as a purse
pub mod Purses
-- a table of slices and one of blocks, which name each other
pub mod Seats
-- the tables after one place of each was set
pub mod Updates
-- what the tables are, seen from outside
pub mod Views
-- the tables after a slice without a block was taken out
pub mod Taken
-- what is seen from outside after one cell was written
pub mod Rewrites
-- the tables at their beginning, and with more places
pub mod New
