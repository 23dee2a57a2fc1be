-- the free slices, by their ids
pub mod Pools
-- what holds of a pool's fields
pub mod Inside
-- which slices are to change hands after a quantum
pub mod Dues
