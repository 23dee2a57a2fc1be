-- a user's calls, one by one
pub mod Reporting
