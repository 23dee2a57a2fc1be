-- the words of a line, put into the rows one by one
pub mod RowsOfWords
-- runs of which the ending is a function of the lines
pub mod Endings
-- what one line of demands brings
pub mod LineEnds
-- what a choice gave
pub mod Choices
-- what a line of shares tells
pub mod SharesLines
-- what one line of a log brings
pub mod AuditLines
-- what is accepted is a log of Karma
pub mod KarmaLogs
-- the book of an audit over its quanta
pub mod AuditBooks
-- a log of Karma is accepted
pub mod LogsPass
-- lines that an audit takes
pub mod AuditSteps
-- what a plan writes is a log of Karma
pub mod PlanLogs
-- what a run of `plan` came to
pub mod Planned
-- what a run of `audit` came to
pub mod Audited
