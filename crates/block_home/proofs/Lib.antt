-- what keeps a map held
pub mod Held
-- an image in a buffer
mod Fetched
-- what a call does, from what the store did
pub mod Shelved
-- what a yield gives, from what its calls did
pub mod Yielded
