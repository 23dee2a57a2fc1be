-- the free slices of a table of places
mod Places
-- moves that are put user by user
mod Putting
