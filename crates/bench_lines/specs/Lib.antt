-- the line of a name and its figures
pub mod Lines
