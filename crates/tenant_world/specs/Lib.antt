-- the rows of a file's placed blocks
pub mod Rows
-- what shows of a name without the content of its blocks
pub mod Outlines
-- what contracts see of a tenant
pub mod Views
-- which history a tenant stands for
pub mod Standing
-- what a tenant's store lets it answer
pub mod Telling
-- what one request and one slice do to a tenant
pub mod Serves
-- a content in its home
pub mod Contents
-- a content with its home and the moves that are noted
pub mod Keeping
-- what a request does to one content: its blocks, their slices, and the moves
pub mod Moving
-- what an append does to a content, its home and the moves
pub mod Appending
-- what a read gives of a content
pub mod Reading
-- what a push does to a content, its home and the moves
pub mod Pushing
-- what a pop does to a content, and what a look at its first item gives
pub mod Popping
-- what a park and a load do to a content, its home and the moves
pub mod Parking
-- what holds of a tenant's fields
pub mod Well
