pub mod States
pub mod Keeping
