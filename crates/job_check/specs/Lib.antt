pub mod Faults
pub mod Listings
pub mod Output
pub mod Replaying
pub mod Viewing
