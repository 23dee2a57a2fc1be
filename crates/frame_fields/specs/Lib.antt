-- fields, and the one spelling of each
pub mod Fields
-- which fields follow one another, and the place of the first bad one
pub mod FrameLayouts
-- what reading answers
pub mod Reads
-- the layouts of which a table of frames is made
pub mod Parts
-- stamps of parked blocks, and what was found in their place
pub mod Stamps
-- whole frames
pub mod Frames
