-- laws of the grammar of names
pub mod Grammar
-- laws of parents
pub mod Parents
