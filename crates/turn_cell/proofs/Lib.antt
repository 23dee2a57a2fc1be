-- lists of seats in which one changes, and prefixes of histories
pub mod Views
-- what of the rule stays where one seat changes, or one comes
pub mod Rests
-- the steps that make and split passes keep the rule
pub mod PassSteps
-- the steps that join passes, or tell one what another has seen, keep the rule
pub mod JoinSteps
-- the steps of a call keep the rule
pub mod TurnSteps
-- the four steps of a call are one call, and a new cell keeps the rule
pub mod Calls
-- what the only pass left knows of the whole cell
pub mod Closing
-- what a pass knows once it was joined with another, or met it
pub mod Joining
-- what a caller learns of its own calls, one and several
pub mod Callers
