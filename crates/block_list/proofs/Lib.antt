-- parked blocks come into slices
pub mod Coming
-- why a call on a list of blocks ends
pub mod Ended
-- blocks leave their slices
pub mod Going
-- blocks come into slices, and new ones are made
pub mod Growing
-- lists of numbers
pub mod Listed
-- what is held, under other names
pub mod Named
-- lists whose blocks are there
pub mod There
