-- lists of block numbers in a home
pub mod Lists
-- how a home changes with the blocks of a list
pub mod Growth
-- why a call on a list of blocks ends early
pub mod Ends
