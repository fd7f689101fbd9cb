pub mod Decided
pub mod Visitors
pub mod Visits
