pub mod NewFiles
pub mod Opened
