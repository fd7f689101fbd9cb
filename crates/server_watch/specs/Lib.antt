pub mod Minutes
pub mod Turns
pub mod Watching
