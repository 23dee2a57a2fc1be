-- `first_best` against what it says at each place
pub mod FirstBest
-- `change_at`, and `first_best` over a `map`
pub mod Changes
-- a loop that rewrites a list from the front
pub mod Walks
-- what a loan does
pub mod Loans
-- the rows of the plain body as the users that they stand for
pub mod RowsOfUsers
-- a loan in the rows is the rule's loan among the users
pub mod LoanOfRows
-- one loan, as facts on numbers
pub mod OneLoan
-- what every quantum that is reached keeps: borrowers and donors in the order of the rule
pub mod InOrder
-- how a quantum ends, and what it sums to
pub mod Ends
-- the laws of the rule
pub mod Laws
-- who has borrowed and lent as much, in order, has what the rule gives
pub mod Unique
-- how many loans a quantum makes, and how many of donated slices
pub mod Counts
-- the rule's definition on small quanta, computed
pub mod WorkedRows
