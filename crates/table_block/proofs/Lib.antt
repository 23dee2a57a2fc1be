-- a record has one spelling, and bytes are one list of records at most
pub mod Spelling
-- the places of records
pub mod Places
-- the records of a block, read one after the other
pub mod Reading
-- a walk over a block's records
pub mod Finding
-- a record put into a block, changed and taken out
pub mod Edits
-- the definitions compute
pub mod Examples
