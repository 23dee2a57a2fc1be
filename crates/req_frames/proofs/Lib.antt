-- a request is told by its fields, and so is a reply
pub mod Values
-- no two kinds have one byte
pub mod KindLaws
-- what decoding answers
pub mod Decoded
-- a frame's length, written last
pub mod Closing
