-- the generated script
pub mod Script
-- what a source of it has left
pub mod Source
-- what a summary counts of an output
pub mod Output
-- what a sink stands for
pub mod Sink
