-- what users ask of a book
pub mod Reports
