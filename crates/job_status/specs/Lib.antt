pub mod Columns
pub mod Answers
pub mod Faults
pub mod Questions
