-- numbers and texts as bytes
pub mod FieldLaws
-- fields one after another
pub mod LayoutLaws
-- one spelling, and one bad place
pub mod Places
-- rows behind a count
pub mod RowLaws
-- whole frames
pub mod FrameLaws
