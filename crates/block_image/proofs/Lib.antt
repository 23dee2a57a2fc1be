-- an image as its fields one after the other
pub mod Fields
-- why bytes are no image
pub mod Faults
