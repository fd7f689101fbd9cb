pub mod Devices
pub mod ErrorLines
pub mod Lines
