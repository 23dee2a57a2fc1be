-- what contracts see of a queue, and the blocks that it stands for
pub mod Queues
-- what its calls do
pub mod Changes
-- why a call on a queue ends with nothing done
pub mod Ends
