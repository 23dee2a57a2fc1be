-- a loop that makes blocks
mod Adding
-- how the steps of an append fit together
mod Appending
-- which blocks have the pieces of a list
mod Holding
-- the last block, and whether an append needs it
mod Last
-- a list in pieces of one size
mod Pieces
-- bytes are read piece by piece
mod Reading
-- what a home and its maps have of a file that grew
mod Writing
