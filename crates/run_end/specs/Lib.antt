-- the statuses and their numbers
pub mod Status
-- why a run ended, as contracts see it: its status, and the number of its line
pub mod Why
-- the last lines that are written for a status
pub mod LastLines
