pub mod Aligning
pub mod Faults
pub mod Handing
pub mod Judging
pub mod Skipping
pub mod Waiting
