-- the grammar of names, and their order
pub mod Paths
-- the moves of one event
pub mod Moves
