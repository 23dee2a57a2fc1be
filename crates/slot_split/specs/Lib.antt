-- when a bucket is ripe, and for what
pub mod Ripe
-- records as they are held
pub mod Held
-- why records were not read
pub mod Read
-- records packed first fit
pub mod Packing
-- what moves over a boundary, and what is left
pub mod Plans
-- a table's buckets, its move, and what is ripe
pub mod Tables
-- what a balance of a table does
pub mod Turns
-- what a put and a remove make of a table's blocks
pub mod Puts
-- when a table is well formed
pub mod Well
