-- what contracts see of a feed
pub mod FeedView
-- what comes next in bytes
pub mod Feeds
