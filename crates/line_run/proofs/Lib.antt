-- lists of chunks that grow by one
pub mod Growing
-- two writes, one after the other
pub mod Writes
-- what the loop over lines keeps, and what comes of it at its end
pub mod SoFar
-- what a run over a buffer in front of a sink is to that sink
pub mod Gathered
-- how a run ended, of what it came to and its last text
pub mod Ends
