-- a table is seen as a finite map
pub mod Tables
-- what contracts see of a block
pub mod Blocks
-- the purse of a user, block by block
pub mod Purses
-- the moves since they were cleared last
pub mod Noted
-- what contracts see of blocks and slices that stand to each other
pub mod Seatings
-- what its two tables stand for
pub mod Seats
-- what holds of its tables
pub mod Well
