-- tables by kinds
pub mod Tables
-- the table of requests
pub mod Requests
-- the table of replies
pub mod Replies
-- what decoding answers
pub mod Answers
