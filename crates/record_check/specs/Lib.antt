pub mod Checks
pub mod FeedTallies
pub mod Findings
pub mod Index
pub mod Kinds
pub mod Listing
pub mod Streams
pub mod Words
