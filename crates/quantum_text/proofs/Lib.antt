-- what a sink took of a line, and of the lines of a block
pub mod Sent
-- a line and the list of its words
pub mod Words
-- items that are read word by word, and numbers
pub mod Items
pub mod Numbers
-- words of seats, and the line of a roster
pub mod Seats
-- seats that are read word by word, and what they make a line and rows
pub mod SeatsRead
-- a line of a kind, told by its words
pub mod LineWords
-- one number of a report, changed
pub mod Rows
-- what the next line of a source tells of a line of a block
pub mod NextLine
-- the lines of a block, read one after another
pub mod BlockLines
-- the lines of one block: which may come after which, and what a block is read as
pub mod Blocks
-- what was written is read again
pub mod Again
