-- finite maps from block numbers, looked up and changed
pub mod Blocks
-- lists of calls that are to fail
pub mod Places
-- blocks in the order of their numbers, changed at a place
pub mod Slots
-- the room that is left, and when it is too small
pub mod Rooms
