-- what a run writes for its lines and how it ends, and the rules of a run of which that is a function
pub mod Ending
-- what `plan` writes for its lines
pub mod PlanText
-- what `audit` reads of a line of shares
pub mod SharesLine
-- what `audit` writes for its lines
pub mod AuditText
-- the rules of a plan
pub mod Planning
-- the state of an audit, its rules, and its last text
pub mod Auditing
-- what a log of Karma is, whole
pub mod KarmaLog
-- what a run wrote, over a source that tells what it had
pub mod Writes
-- what a run of `plan` and one of `audit` came to
pub mod Runs
