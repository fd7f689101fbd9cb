pub mod Dates
pub mod Days
pub mod Parts
pub mod Parsed
pub mod Moments
pub mod Spelled
pub mod Written
