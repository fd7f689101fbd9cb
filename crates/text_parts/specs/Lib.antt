pub mod Periods
pub mod Spelling
