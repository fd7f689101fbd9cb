pub mod CommandValues
pub mod LineValues
pub mod WordValues
