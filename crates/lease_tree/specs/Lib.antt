-- names under a name, and the order of bytes around a text
pub mod Under
-- a text in three pieces
pub mod Edges
-- leases by name, in a search tree
pub mod Leases
-- what stands at the top of the search tree
pub mod Untied
-- names with leases and bodies
pub mod Names
-- what is lent of a tree
pub mod Lending
-- what a tree answers
pub mod Trees
-- what a list passes over
pub mod Lists
