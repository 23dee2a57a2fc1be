-- what contracts see of a set
pub mod IdSet
-- levels of bits in words
pub mod Words
-- a table is seen as a finite map
pub mod Tables
