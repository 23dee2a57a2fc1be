-- texts that begin with others
mod Texts
-- names before and after a name
mod Between
-- the least moment that is due
mod Least
-- what is found among names
mod Found
-- names whose values change
mod Changes
mod TopChanges
-- what stands between what where knots turn
mod Turns
-- a name that is put or taken out
mod Puts
-- names, seen as leases and bodies
mod Joins
-- names of which one body was lent
mod Lent
-- the names that a name is under
mod Ancestors
-- values that change again
mod Repeats
-- why a name is refused
mod Refusals
-- the greatest name at or under a path
mod Lasts
-- a tree without its greatest name
mod Dropped
-- what a list walks through
mod Listing
-- what a list passes over
mod Passing
-- a list that is filled name by name
mod Filling
-- the next name
mod Next
