-- what a store holds of blocks, and what it gives of one
pub mod Stored
-- when blocks and a store hold a map
pub mod Holding
-- what contracts see of a home
pub mod Homes
-- what its calls do
pub mod Calls
-- what a yield gives
pub mod Yields
