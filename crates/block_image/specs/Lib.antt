-- the image of a block, and why bytes are none
pub mod Images
