-- a line is its words
pub mod Words
-- the word of each request
pub mod Verbs
-- what a request asks, by the shape of its line
pub mod Asked
-- the lines of a script
pub mod Lines
-- the words of a request's line, apart from its user
pub mod Fields
-- how a parked block's stamp is told, and what was found in its place
pub mod Damages
-- the line of an outcome
pub mod Outcomes
-- the lines of moves
pub mod Moves
-- what is written of events
pub mod Told
