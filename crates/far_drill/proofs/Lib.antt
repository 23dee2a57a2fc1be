-- the lines of bytes to which one more came
pub mod OneMore
-- first words of lines of which the first bytes are kept
pub mod FirstWords
-- counts over one byte more
pub mod Counted
-- the script's lines, one by one
pub mod Lines
-- a take of what waits of a line
pub mod Taken
