-- counts of faults, and when a fault may be answered
pub mod Faults
-- what a source has left, and what a take takes of it
pub mod Left
-- what a sink took, whole or a prefix
pub mod Adds
-- the views of the sources and sinks in memory
pub mod Memory
-- the view of a reader or writer of std
pub mod Counted
-- lines of bytes, ended lines, and what is after the last line end
pub mod Lines
-- the view of a line buffer, and when it answers without a take
pub mod LineView
-- what read_line answers, and what is known at a fault after some lines
pub mod Reads
-- what a buffer gains of a take
pub mod Gains
-- what went to a sink while some of it was held back
pub mod Sends
-- what a buffer in front of a sink took
pub mod WriteBuf
-- the grammar of decimals, and their values
pub mod Decimals
-- words parted by one space
pub mod Words
-- the one spelling of each list of bytes
pub mod Escapes
