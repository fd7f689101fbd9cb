pub mod Colours
pub mod Configured
pub mod Endpoints
pub mod Meters
pub mod Times
