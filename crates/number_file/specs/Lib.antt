pub mod Reading
pub mod Tables
pub mod Text
pub mod Keeping
