-- lines that are taken one by one, each with the text that is written for it
pub mod Chunks
-- what a taker does with a line
pub mod LineRules
-- what a whole run read and wrote, and how it ended
pub mod Runs
