pub mod Made
pub mod Records
