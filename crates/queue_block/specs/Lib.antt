-- a queue's block is its items
pub mod Items
-- a queue is its blocks
pub mod Queues
