-- the marks of a queue, and where a push goes
pub mod Marked
-- what stands of a queue over every store
pub mod Sounds
-- what a map has of a queue
pub mod Queued
-- once an item was put in it
pub mod Pushed
-- once its first item was taken out
pub mod Popped
-- why a call on a queue ends
pub mod Ended
-- bytes at the end of a block
pub mod Behind
-- items that are read
mod Reading
