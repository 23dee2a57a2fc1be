-- a slice without a block
pub mod Slice
-- a slice with a block
pub mod Used
-- the slices that a user holds
pub mod Purses
-- how many slices a file needs to grow
pub mod Needs
-- the slices of a purse without a block, and those with one
pub mod Idle
-- block numbers in ascending order
pub mod Ascending
