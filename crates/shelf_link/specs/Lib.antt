-- finite maps from block numbers to bytes
pub mod Blocks
-- what a shelf tells, what a call leaves of it, and what a get gives
pub mod Told
-- calls that are counted, and those that are listed to fail
pub mod Calls
-- the views of the shelves in memory
pub mod Shelves
-- blocks in rooms of one size, in the order of their numbers
pub mod Slots
-- what holds of a shelf whose room is reserved
pub mod Sure
