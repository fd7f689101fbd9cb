pub mod Paths
pub mod Stations
pub mod Places
pub mod Archives
pub mod Apart
