-- the rows of a book over its calls
pub mod RowsOfBook
-- a book's history that grows by one entry
pub mod Grows
-- the rows of a quantum and its roster, user by user
pub mod RosterRows
-- the users of a roster take their seats
pub mod Seating
