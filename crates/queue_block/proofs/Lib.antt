-- the bytes of items, and which items bytes are
pub mod Spelling
-- the item at a place
mod Places
