-- what is left, with bytes in front of it
pub mod Left
-- sums of what a sink took
pub mod Adds
-- counts of faults over several calls
pub mod Faults
-- lines, their ends and what is after the last one
pub mod LineLaws
-- parts of a buffer, written, moved and let go
pub mod Buffers
-- the answers of read_line at each of its exits
pub mod ReadLaws
-- what a run over lines keeps, also at a fault
pub mod LinesRead
-- what is held back and goes on, row by row
pub mod Sends
-- decimals, digit by digit
pub mod Decimals
-- escaped texts: one spelling, read back
pub mod Escapes
-- words of a line
pub mod WordLaws
-- the same lines for every cutting of the input
pub mod AnyCutting
-- rows of the definitions, computed
mod Rows
-- what went out of a buffer in front of a sink
pub mod WriteBufs
