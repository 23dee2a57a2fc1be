-- the bytes of a slice's buffer
mod Bytes
-- how many slices a file needs to grow
pub mod Needs
-- block numbers in ascending order
pub mod Ascending
