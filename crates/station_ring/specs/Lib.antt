pub mod Blocks
pub mod Briefs
pub mod Rings
pub mod HeldRecords
pub mod Levels
