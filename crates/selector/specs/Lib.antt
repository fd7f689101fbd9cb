pub mod Matching
pub mod PatternCodes
pub mod Pools
