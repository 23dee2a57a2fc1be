-- the kinds of lines of numbers in a quantum block
pub mod LineKind
-- words that spell a list of items
pub mod Spelled
-- the line of a block that tells a roster
pub mod Shares
-- the text of a quantum block, and its grammar
pub mod Block
-- what is read of a block, and what a fault may not hide
pub mod Reading
