-- the text of words
pub mod Joined
-- what small texts stand for
pub mod ReadBack
-- stamps, and what was found in their place
pub mod Stamped
-- the words of a request
pub mod Asked
-- a line is told by its words
pub mod LineWords
-- words without spaces and line ends
pub mod OneLine
-- each outcome and each row has words of its own
pub mod Named
-- what is written of events can be cut in one way only
pub mod Cutting
