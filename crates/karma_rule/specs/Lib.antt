-- the limits of a shape's numbers, and which of them a shape breaks
pub mod Limits
-- Karma's rule of one quantum, loan by loan
pub mod Karma
-- what holds between the rows before a quantum and the rows after it: what is given, and who is level
pub mod Laws
-- what a quantum needs of its rows, and what it makes of them
pub mod Quanta
-- the rows of a quantum that is open
pub mod OpenRow
