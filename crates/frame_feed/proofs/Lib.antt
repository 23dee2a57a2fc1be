-- what a take into the spare room of a buffer tells
pub mod Taken
-- what comes next is decided by the bytes
pub mod Nexts
