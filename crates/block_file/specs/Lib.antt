-- what contracts see of a file, and the bytes that it stands for
pub mod Files
-- how a home changes while a file grows, leaves, comes back or ends in it
pub mod Growth
-- why a call on a file ends with nothing done
pub mod Ends
