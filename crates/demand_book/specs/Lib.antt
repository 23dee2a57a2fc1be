-- who is present at a quantum, with which share and credits
pub mod Roster
-- what contracts see of a book, and what its calls leave
pub mod Book
-- what holds of every book
pub mod Inside
-- which histories a book can have
pub mod BookLegal
