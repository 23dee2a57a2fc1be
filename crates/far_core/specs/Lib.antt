-- what the events of one thread do to the slices and to each user's history
pub mod Runs
-- what contracts see of a core, and which run it stands for
pub mod Cores
-- what holds of a core's fields
pub mod Inside
