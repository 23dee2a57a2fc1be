-- the slot of a key
pub mod Slots
-- records, and how each is spelled
pub mod Records
-- where a record stands in a block
pub mod Spots
-- a buffer for one block
pub mod Bufs
